-- `list_checks` looks at the numbers once the ends are in order and the last is their length. Assumes nothing.
use Rattle.std.proofs.Common.{not, sym, ap, ◌∙◌}
use borrow.Author.Tests.{ne_eqb}
use Rattle.model.proofs.FirstChecks.{refuse_if_law, refuse_at_law}
use Rattle.model.proofs.Tests.{true_false}
use Rattle.first_checks.proofs.list_checks.Goals as goal
use Rattle.first_checks.proofs.list_checks.Goals.{then-last_end-numbers, else-last_end-numbers}

pub unrisen_number-requires : goal.unrisen_number-requires
unrisen_number-requires c =
    let rise = refuse_at_law 3 _ (sym c.in_ok-refuse_at.ensures) in
    let fits = refuse_if_law _ 3 _ (sym c.in_ok-refuse_if.ensures) in (
      sym c.falling_end.ensures ∙ rise,
      elim c.if-last_end-numbers.branch [
        | then-last_end-numbers w ↦ true_false (w.refuse_if-is ∙ ap not (ne_eqb _ _ w.if-last_end-numbers.true)) fits
        | else-last_end-numbers w ↦ sym c.last_end.ensures ∙ w.if-last_end-numbers.false
      ],
    )
