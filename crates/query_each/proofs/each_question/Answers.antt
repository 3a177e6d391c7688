-- `each_question` asks question after question until a refusal ends one. Assumes nothing.
use Rattle.std.proofs.Common.{arith}
use Rattle.std.proofs.lemmas.Result.{err_from_is_err_and}
use Rattle.query_each.proofs.Asking.{asked_none, asked_more, asked_stopped, asked_all}
use Rattle.query_each.proofs.each_question.Goals as goal

pub loop-q-init : goal.loop-q-init
loop-q-init c =
    let a = c.args in
    asked_none a.numbers.now a.ends.now a.masks.now a.thresholds.now a.totals a.answers.now a.certificate.now a.results.now c.requires.0 c.requires.2

pub loop-q-preserved : goal.loop-q-preserved
loop-q-preserved c =
    asked_more _ _ _ _ _ _ _ _ _ _ _ _ _ c.loop-q.invariant c.question.new.answers c.question.new.certificate c.question.new.results c.in_ok-w.w
    c.loop-q-test.true c.in_ok-w.ensures c.question.auto.results

pub returns-in_err-w : goal.returns-in_err-w
returns-in_err-w c =
    let p = err_from_is_err_and c.from_residual.result c.from_residual.ensures.1 in
    rw (p.1, p.2)
    (asked_stopped _ _ _ _ _ _ _ _ _ _ _ _ _ c.loop-q.invariant c.question.new.answers c.question.new.certificate c.question.new.results c.in_err-w.field-0.0
    c.loop-q-test.true c.in_err-w.ensures)

pub returns : goal.returns
returns c = asked_all _ _ _ _ _ _ _ _ _ _ _ _ _ c.loop-q.invariant c.loop-q-test.false
