-- `query` returns the specified outcome and buffers for any input, and demands 2 and 3 hold of them. Assumes nothing.
use Rattle.std.proofs.Common.{arith, sym, subst}
use Rattle.std.proofs.lemmas.Result.{err_from_is_err_and}
use Rattle.model.proofs.FirstChecks.{fits, fit}
use Rattle.model.specs.Demands.{Fits}
use Rattle.model.specs.Refusals.{passed, answered_by, query}
use Rattle.model.specs.Runs.{past_bin, runs}
use Rattle.query.proofs.Questions.{plain_runs, plain_answerable, refused_first, answered_first, demanded}
use Rattle.query.specs.Outcomes.{outcome_is, refused_is, Returns}
use Rattle.refusal.specs.Number.{number_of}
use Rattle.walk_state.proofs.Moving.{past_is}
use Rattle.query.proofs.query.Goals as goal

pub returns-in_err-first_checks : goal.returns-in_err-first_checks
unfolding query answered_by
returns-in_err-first_checks c =
    let a = c.args in
    let f : Fits past_bin a.numbers.now = let e = past_is in fits past_bin a.numbers.now (λ i. omega (arith, c.type_inv.numbers i)) in
    let p = err_from_is_err_and c.from_residual.result c.from_residual.ensures.1 in
    let r = c.in_err-first_checks.field-0.0 in
    let both = demanded _ (runs a.numbers.now a.ends.now) a.threshold a.allowance a.answers.now a.certificate.now a.answers.now a.certificate.now
    (refused_is p.0) (fit a.numbers.now a.ends.now a.threshold f)
    (refused_first _ _ a.answers.now a.certificate.now (number_of r.reason) r.place (sym c.in_err-first_checks.ensures) (refused_is p.0) p.2) in
    rw p.1 (record { returns = both.0; demand2 = both.1.0; demand3 = both.1.1 })

pub answer-requires : goal.answer-requires
answer-requires c =
    let a = c.args in
    plain_answerable a.numbers.now a.ends.now a.threshold (sym c.in_ok-first_checks.ensures)

pub returns : goal.returns
unfolding query
returns c =
    let a = c.args in
    let f : Fits past_bin a.numbers.now = let e = past_is in fits past_bin a.numbers.now (λ i. omega (arith, c.type_inv.numbers i)) in
    let o = outcome_is c.answer.result in
    let both = demanded _ (runs a.numbers.now a.ends.now) a.threshold a.allowance a.answers.now a.certificate.now c.answer.new.answers c.answer.new.certificate
    o (fit a.numbers.now a.ends.now a.threshold f)
    (answered_first _ (runs a.numbers.now a.ends.now) a.threshold a.allowance a.answers.now a.certificate.now
    (sym c.in_ok-first_checks.ensures) c.answer.new.answers c.answer.new.certificate o (subst (λ rs. Returns (answered_by passed rs a.threshold a.allowance a.answers.now a.certificate.now) o c.answer.new.answers c.answer.new.certificate)
    (plain_runs a.numbers.now a.ends.now) c.answer.ensures)) in
    record { returns = both.0; demand2 = both.1.0; demand3 = both.1.1 }
