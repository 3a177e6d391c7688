-- `query_alone` returns the specified outcome and buffers for any input, and demands 2 and 3 hold of them. Assumes nothing.
use Rattle.std.proofs.Common.{arith, sym}
use Rattle.std.proofs.lemmas.Result.{err_from_is_err_and}
use Rattle.model.proofs.FirstChecks.{fits}
use Rattle.model.specs.Alone.{query_alone}
use Rattle.model.specs.Demands.{Fits}
use Rattle.model.specs.Runs.{past_bin}
use Rattle.query.proofs.Questions.{refused_first}
use Rattle.query.specs.Outcomes.{outcome_is, refused_is}
use Rattle.query_alone.proofs.Returning.{demanded}
use Rattle.refusal.specs.Number.{number_of}
use Rattle.walk_state.proofs.Moving.{past_is}
use Rattle.query_alone.proofs.query_alone.Goals as goal

pub returns-in_err-alone_checks : goal.returns-in_err-alone_checks
unfolding query_alone
returns-in_err-alone_checks c =
    let a = c.args in
    let f : Fits past_bin a.numbers.now = let e = past_is in fits past_bin a.numbers.now (λ i. omega (arith, c.type_inv.numbers i)) in
    let p = err_from_is_err_and c.from_residual.result c.from_residual.ensures.1 in
    let r = c.in_err-alone_checks.field-0.0 in
    let both = demanded a.numbers.now a.ends.now a.threshold a.allowance a.answers.now a.certificate.now f a.answers.now a.certificate.now (refused_is p.0)
    (refused_first _ _ a.answers.now a.certificate.now (number_of r.reason) r.place (sym c.in_err-alone_checks.ensures) (refused_is p.0) p.2) in
    rw p.1 (record { returns = both.0; demand2 = both.1.0; demand3 = both.1.1 })

pub answer-requires : goal.answer-requires
answer-requires c = sym c.in_ok-alone_checks.ensures

pub returns : goal.returns
returns c =
    let a = c.args in
    let f : Fits past_bin a.numbers.now = let e = past_is in fits past_bin a.numbers.now (λ i. omega (arith, c.type_inv.numbers i)) in
    let both = demanded a.numbers.now a.ends.now a.threshold a.allowance a.answers.now a.certificate.now f c.answer.new.answers c.answer.new.certificate
    (outcome_is c.answer.result) c.answer.ensures in
    record { returns = both.0; demand2 = both.1.0; demand3 = both.1.1 }
