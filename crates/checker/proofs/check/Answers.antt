-- `check` returns the model's verdict for any input, and demand 2 holds of it: all runs are those that the mask of all chooses. Assumes nothing.
use mathlib.Core.List.{[]}
use mathlib.Core.Path.{sym, ap, ◌∙◌}
use Rattle.model.proofs.Checking.{accepts}
use Rattle.model.proofs.FirstChecks.{fits}
use Rattle.model.specs.Demands.{Fits}
use Rattle.model.specs.Refusals.{check}
use Rattle.std.proofs.lemmas.Result.{err_from_is_err_and}
use Rattle.check_part.specs.Tested.{chosen_runs}
use Rattle.checker.proofs.Accepting.{judged_refused, judged_by, every_unweighted, few_runs, all_checkable}
use Rattle.checker.proofs.check.Goals as goal

pub returns-in_err-first_checks-clause-verdict : goal.returns-in_err-first_checks-clause-verdict
unfolding check
returns-in_err-first_checks-clause-verdict c =
    let p = err_from_is_err_and c.from_residual.result c.from_residual.ensures.1 in
    rw (p.1, p.2) (judged_refused _ _ c.args.threshold c.args.certificate.now _ _ c.in_err-first_checks.ensures)

pub all_runs-all-requires : goal.all_runs-all-requires
all_runs-all-requires c =
    few_runs c.args.numbers.now c.args.ends.now c.args.threshold (sym c.in_ok-first_checks.ensures)

pub check_passed-requires : goal.check_passed-requires
check_passed-requires c =
    rw c.all_runs-all.ensures (all_checkable c.args.numbers.now c.args.ends.now c.args.threshold (sym c.in_ok-first_checks.ensures))

pub returns : goal.returns
unfolding check
returns c =
    let a = c.args in
    let f : Fits 256 a.certificate.now = fits 256 a.certificate.now (λ i. (c.type_inv.certificate i).fits) in
    let both = judged_by _ _ a.threshold a.certificate.now (accepts a.numbers.now a.ends.now a.threshold a.certificate.now f) _ (sym c.in_ok-first_checks.ensures) _
    (ap (chosen_runs a.numbers.now a.ends.now []) c.all_runs-all.ensures ∙ every_unweighted a.numbers.now a.ends.now) c.check_passed.ensures in
    record { verdict = both.0; accepted = both.1 }
