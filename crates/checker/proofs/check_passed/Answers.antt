-- `check_passed` places the cursors in their room and finds once what the chosen runs weigh. Assumes nothing.
use borrow.Author.Rules.{rules}
use Rattle.model.proofs.FirstChecks.{fits, lists_passed}
use Rattle.model.specs.Demands.{Fits}
use Rattle.model.specs.Runs.{past_bin}
use Rattle.check_cursor.proofs.Moving.{bin_fits}
use Rattle.check_cursor.proofs.Placing.{begins}
use Rattle.checker.proofs.check_passed.Goals as goal

pub begin-requires : goal.begin-requires
begin-requires c =
    let a = c.args in
    let f : Fits past_bin a.numbers.now = fits past_bin a.numbers.now (λ i. bin_fits _ (c.type_inv.numbers i).fits) in
    begins a.numbers.now a.ends.now _ f c.requires.few (lists_passed a.numbers.now a.ends.now c.requires.lists) (search rules)
