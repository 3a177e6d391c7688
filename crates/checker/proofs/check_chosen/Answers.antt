-- `check_chosen` returns the model's verdict for any input, and demand 2 holds of it. Assumes nothing.
use mathlib.Core.Path.{sym}
use Rattle.model.proofs.Checking.{accepts_chosen}
use Rattle.model.proofs.FirstChecks.{fits}
use Rattle.model.specs.Demands.{Fits}
use Rattle.model.specs.Refusals.{check_chosen}
use Rattle.std.proofs.lemmas.Result.{err_from_is_err_and}
use Rattle.checker.proofs.Accepting.{judged_refused, judged_by, unweighted, chosen_checkable}
use Rattle.checker.proofs.check_chosen.Goals as goal

pub returns-in_err-chosen_checks-clause-verdict : goal.returns-in_err-chosen_checks-clause-verdict
unfolding check_chosen
returns-in_err-chosen_checks-clause-verdict c =
    let p = err_from_is_err_and c.from_residual.result c.from_residual.ensures.1 in
    rw (p.1, p.2) (judged_refused _ _ c.args.threshold c.args.certificate.now _ _ c.in_err-chosen_checks.ensures)

pub check_passed-requires : goal.check_passed-requires
check_passed-requires c =
    chosen_checkable c.args.numbers.now c.args.ends.now c.args.mask c.args.threshold (sym c.in_ok-chosen_checks.ensures)

pub returns : goal.returns
unfolding check_chosen
returns c =
    let a = c.args in
    let f : Fits 256 a.certificate.now = fits 256 a.certificate.now (λ i. (c.type_inv.certificate i).fits) in
    let both = judged_by _ _ a.threshold a.certificate.now (accepts_chosen a.numbers.now a.ends.now a.mask a.threshold a.certificate.now f) _ (sym c.in_ok-chosen_checks.ensures) _
    (unweighted a.numbers.now a.ends.now a.mask) c.check_passed.ensures in
    record { verdict = both.0; accepted = both.1 }
