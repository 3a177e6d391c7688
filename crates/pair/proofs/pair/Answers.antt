-- `pair` returns the specified outcome and row for any input, and the answers are those of the walk with t = 2. Assumes nothing.
use Rattle.std.proofs.Common.{sym, ◌∙◌, arith, rules}
use Rattle.std.proofs.lemmas.Result.{err_from_is_err_and}
use Rattle.model.proofs.FirstChecks.{fits}
use Rattle.model.specs.Demands.{Fits}
use Rattle.model.specs.Runs.{past_bin}
use Rattle.pair_model.proofs.Walked.{pair_claimed}
use Rattle.pair.proofs.Answering.{refused_first, passed_first, checks_passed, checks_refused}
use Rattle.pair.proofs.pair.Goals as goal

pub answer-requires : goal.answer-requires
answer-requires c =
    sym (checks_passed c.map_err.result c.pair_checks.result (search rules) c.in_ok-map_err.field-0 c.in_ok-map_err.was ∙ c.pair_checks.ensures)

pub returns-in_err-map_err : goal.returns-in_err-map_err
unfolding past_bin
returns-in_err-map_err c =
    let a = c.args in
    let m = c.in_err-map_err.field-0.0 in
    let p = err_from_is_err_and c.from_residual.result c.from_residual.ensures.1 in
    let f : Fits past_bin a.numbers.now = fits past_bin a.numbers.now (λ i. omega (arith, c.type_inv.numbers i)) in
    let q = checks_refused c.map_err.result c.pair_checks.result (search rules) m c.in_err-map_err.was in
    let g = refused_first a.numbers.now a.ends.now a.answers.now m.refusal (sym c.pair_checks.ensures ∙ q.0) in
    rw (p.1, p.2, q.1) (record { returns = g; demand2 = pair_claimed a.numbers.now a.ends.now a.answers.now _ a.answers.now f g })

pub returns : goal.returns
unfolding past_bin
returns c =
    let a = c.args in
    let f : Fits past_bin a.numbers.now = fits past_bin a.numbers.now (λ i. omega (arith, c.type_inv.numbers i)) in
    let e = checks_passed c.map_err.result c.pair_checks.result (search rules) c.in_ok-map_err.field-0 c.in_ok-map_err.was ∙ c.pair_checks.ensures in
    let g = passed_first a.numbers.now a.ends.now a.answers.now (sym e) c.answer.ensures in
    record { returns = g; demand2 = pair_claimed a.numbers.now a.ends.now a.answers.now c.answer.result c.answer.new.answers f g }
