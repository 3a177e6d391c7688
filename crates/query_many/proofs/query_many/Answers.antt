-- `query_many` returns the specified outcome, buffers and results for any input, and demands 2 and 3 hold of them. Assumes nothing.
use Rattle.std.proofs.Common.{arith, sym}
use Rattle.std.proofs.lemmas.Result.{err_from_is_err_and}
use Rattle.model.proofs.FirstChecks.{fits}
use Rattle.model.specs.Demands.{Fits}
use Rattle.model.specs.Runs.{past_bin}
use Rattle.query_many.proofs.Calls.{refused_first, demanded}
use Rattle.query_many.specs.Outcomes.{many_outcome_is}
use Rattle.std.specs.Prelude.{Err}
use Rattle.walk_state.proofs.Moving.{past_is}
use Rattle.query_many.proofs.query_many.Goals as goal

pub returns-in_err-many_checks : goal.returns-in_err-many_checks
returns-in_err-many_checks c =
    let a = c.args in
    let f : Fits past_bin a.numbers.now = let e = past_is in fits past_bin a.numbers.now (λ i. omega (arith, c.type_inv.numbers i)) in
    let p = err_from_is_err_and c.from_residual.result c.from_residual.ensures.1 in
    let both = demanded a.numbers.now a.ends.now a.masks.now a.thresholds.now a.allowance a.answers.now a.certificate.now a.results.now
    a.answers.now a.certificate.now a.results.now (many_outcome_is (Err p.0)) f
    (refused_first a.numbers.now a.ends.now a.masks.now a.thresholds.now a.allowance a.answers.now a.certificate.now a.results.now
    c.in_err-many_checks.field-0.0 (sym c.in_err-many_checks.ensures) p.0 p.2) in
    rw p.1 (record { returns = both.0; demand2 = both.1.0; demand3 = both.1.1 })

pub returns : goal.returns
returns c =
    let a = c.args in
    let f : Fits past_bin a.numbers.now = let e = past_is in fits past_bin a.numbers.now (λ i. omega (arith, c.type_inv.numbers i)) in
    let both = demanded a.numbers.now a.ends.now a.masks.now a.thresholds.now a.allowance a.answers.now a.certificate.now a.results.now
    c.answer_all.new.answers c.answer_all.new.certificate c.answer_all.new.results (many_outcome_is c.answer_all.result) f c.answer_all.ensures in
    record { returns = both.0; demand2 = both.1.0; demand3 = both.1.1 }
