-- `query_weighted` returns the specified outcome and buffers for any input, and demands 2 and 3 hold of them. Assumes nothing.
use Rattle.std.proofs.Common.{arith, sym}
use Rattle.std.proofs.lemmas.Result.{err_from_is_err_and}
use Rattle.model.proofs.FirstChecks.{fits, weighted_fit}
use Rattle.model.specs.Demands.{Fits}
use Rattle.model.specs.Refusals.{answered_by, query_weighted}
use Rattle.model.specs.Runs.{past_bin, runs, weighted}
use Rattle.query.proofs.Questions.{weighted_answerable, refused_first, answered_first, demanded}
use Rattle.query.specs.Outcomes.{outcome_is, refused_is}
use Rattle.refusal.specs.Number.{number_of}
use Rattle.walk_state.proofs.Moving.{past_is}
use Rattle.query.proofs.query_weighted.Goals as goal

pub returns-in_err-weighted_checks : goal.returns-in_err-weighted_checks
unfolding query_weighted answered_by
returns-in_err-weighted_checks c =
    let a = c.args in
    let f : Fits past_bin a.numbers.now = let e = past_is in fits past_bin a.numbers.now (λ i. omega (arith, c.type_inv.numbers i)) in
    let p = err_from_is_err_and c.from_residual.result c.from_residual.ensures.1 in
    let r = c.in_err-weighted_checks.field-0.0 in
    let both = demanded _ (weighted a.weights.now (runs a.numbers.now a.ends.now)) a.wanted a.allowance a.answers.now a.certificate.now a.answers.now a.certificate.now
    (refused_is p.0) (weighted_fit a.numbers.now a.ends.now a.weights.now a.wanted f)
    (refused_first _ _ a.answers.now a.certificate.now (number_of r.reason) r.place (sym c.in_err-weighted_checks.ensures) (refused_is p.0) p.2) in
    rw p.1 (record { returns = both.0; demand2 = both.1.0; demand3 = both.1.1 })

pub answer-requires : goal.answer-requires
answer-requires c =
    let a = c.args in
    weighted_answerable a.numbers.now a.ends.now a.weights.now a.wanted (sym c.in_ok-weighted_checks.ensures)

pub returns : goal.returns
unfolding query_weighted
returns c =
    let a = c.args in
    let f : Fits past_bin a.numbers.now = let e = past_is in fits past_bin a.numbers.now (λ i. omega (arith, c.type_inv.numbers i)) in
    let o = outcome_is c.answer.result in
    let both = demanded _ (weighted a.weights.now (runs a.numbers.now a.ends.now)) a.wanted a.allowance a.answers.now a.certificate.now c.answer.new.answers c.answer.new.certificate
    o (weighted_fit a.numbers.now a.ends.now a.weights.now a.wanted f)
    (answered_first _ (weighted a.weights.now (runs a.numbers.now a.ends.now)) a.wanted a.allowance a.answers.now a.certificate.now
    (sym c.in_ok-weighted_checks.ensures) c.answer.new.answers c.answer.new.certificate o c.answer.ensures) in
    record { returns = both.0; demand2 = both.1.0; demand3 = both.1.1 }
