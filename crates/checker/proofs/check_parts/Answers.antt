use borrow.Author.Rules.{rules}
use native.Mathlib.Omega.{arith}
use Rattle.field_read.specs.Reading.{part_of}
use Rattle.model.proofs.Encoding.{size_pos}
use Rattle.checker.proofs.Following.{along_start, along_unreadable, along_refused, along_on, next_is, answers_few, along_valid, along_uncovered}
use Rattle.checker.proofs.check_parts.Goals as goal

pub loop-at-init : goal.loop-at-init
loop-at-init c =
    let a = c.args in
    rw c.from-bin.ensures (along_start a.numbers.now a.ends.now a.weights.now a.mask a.threshold a.certificate.now a.cursors.now c.requires.0)

pub returns-in_default : goal.returns-in_default
returns-in_default c =
    let a = c.args in
    let l = c.loop-at in
    along_unreadable a.numbers.now a.ends.now a.weights.now a.mask a.threshold a.certificate.now l.cursors l.bin l.at l.answers l.parts l.invariant
    c.loop-at-test.true c.read_field.result c.read_field.ensures.reading c.in_default.field-0 c.in_default.is c.read_field.ensures.next

pub returns-in-Err : goal.returns-in-Err
returns-in-Err c =
    let a = c.args in
    let l = c.loop-at in
    along_refused a.numbers.now a.ends.now a.weights.now a.mask a.threshold a.certificate.now l.cursors l.bin l.at l.answers l.parts l.invariant
    c.loop-at-test.true c.read_field.result c.read_field.ensures.reading c.in-Ok.field-0 c.in-Ok.is c.check_part.new.cursors c.in-Err.reason c.in-Err.ensures

pub overflow_add-answers : goal.overflow_add-answers
overflow_add-answers c =
    let w = answers_few (part_of c.in-Ok.field-0.part) in
    let f = c.loop-at.invariant.few in
    let s = c.loop-at.invariant.slow in
    search rules

pub loop-at-smaller : goal.loop-at-smaller
loop-at-smaller c =
    let a = c.args in
    let l = c.loop-at in
    let f = c.in-Ok.field-0 in
    let e = next_is a.numbers.now a.ends.now a.weights.now a.mask a.threshold a.certificate.now l.cursors l.bin l.at l.answers l.parts l.invariant c.loop-at-test.true
    c.read_field.result c.read_field.ensures.reading f c.in-Ok.is c.read_field.ensures.next in
    let s = size_pos (part_of f.part) in
    omega arith

pub loop-at-preserved : goal.loop-at-preserved
loop-at-preserved c =
    let a = c.args in
    let l = c.loop-at in
    along_on a.numbers.now a.ends.now a.weights.now a.mask a.threshold a.certificate.now l.cursors l.bin l.at l.answers l.parts l.invariant c.loop-at-test.true
    c.read_field.result c.read_field.ensures.reading c.in-Ok.field-0 c.in-Ok.is c.read_field.ensures.next c.check_part.new.cursors tt
    (search rules) c.past-bin.result c.answers_in-answers.result c.past-bin.ensures c.answers_in-answers.ensures

pub returns-then-bin-ne-PAST_BIN : goal.returns-then-bin-ne-PAST_BIN
returns-then-bin-ne-PAST_BIN c =
    let a = c.args in
    let l = c.loop-at in
    along_uncovered a.numbers.now a.ends.now a.weights.now a.mask a.threshold a.certificate.now l.cursors l.bin l.at l.answers l.parts l.invariant
    c.loop-at-test.false c.if-bin-ne-PAST_BIN.true

pub returns : goal.returns
returns c =
    let a = c.args in
    let l = c.loop-at in
    along_valid a.numbers.now a.ends.now a.weights.now a.mask a.threshold a.certificate.now l.cursors l.bin l.at l.answers l.parts l.invariant
    c.loop-at-test.false c.if-bin-ne-PAST_BIN.false
