-- `write_answer` writes an answer into both buffers or into neither, 5 being met before 6, or into the certificate alone where the walk is told not to write answers.
-- Assumes nothing.
use Rattle.std.proofs.Common.{set, sym, subst}
use Rattle.std.specs.Prelude.{Ok}
use Rattle.std.proofs.lemmas.Result.{err_from_is_err_and}
use Rattle.walk_write.specs.Writes.{Answers}
use Rattle.walk_write.proofs.Writing.{answer_on, answer_unwritten, answer_stopped, answers_stopped}
use Rattle.walk_write.proofs.write_answer.Goals as goal

pub returns-then-at-answers : goal.returns-then-at-answers
returns-then-at-answers c =
    let a = c.args in
    answers_stopped a.w a.answers.now a.certificate.now a.named c.if-at-answers.true

pub returns-in_err-bytes : goal.returns-in_err-bytes
returns-in_err-bytes c =
    let a = c.args in
    let p = err_from_is_err_and c.from_residual.result c.from_residual.ensures.1 in
    let e = c.in_err-bytes.ensures in
    rw (p.1, p.2)
    (answer_stopped a.w a.answers.now a.certificate.now c.write_answer.new.certificate a.named c.in_err-bytes.field-0.0 c.requires c.if-at-answers.false e.result e.bytes)

pub returns-then-at-answers-2 : goal.returns-then-at-answers-2
returns-then-at-answers-2 c =
    let a = c.args in
    let e = c.in_ok-bytes.ensures in
    subst (λ x. Answers a.w a.named a.answers.now a.certificate.now (set a.answers.now a.w.answers a.w.floor) c.write_answer.new.certificate (Ok x)) (sym c.after_part.ensures)
    (answer_on a.w a.answers.now a.certificate.now c.write_answer.new.certificate a.named c.in_ok-bytes.bytes c.requires c.if-at-answers-2.true e.result e.bytes)

pub returns : goal.returns
returns c =
    let a = c.args in
    let e = c.in_ok-bytes.ensures in
    subst (λ x. Answers a.w a.named a.answers.now a.certificate.now a.answers.now c.write_answer.new.certificate (Ok x)) (sym c.after_part-2.ensures)
    (answer_unwritten a.w a.answers.now a.certificate.now c.write_answer.new.certificate a.named c.in_ok-bytes.bytes c.requires c.if-at-answers.false c.if-at-answers-2.false
    e.result e.bytes)
