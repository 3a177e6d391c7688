use Prim.Native.Nat.{◌+◌, ◌<◌}
use lib.ListN.{length}
use native.Mathlib.Omega.{arith}
use Rattle.hits_limits.specs.Limits.{most_bytes}
use Rattle.text_read.proofs.Pieces.{piece_ends}
use Rattle.hits_lines.proofs.Writing.{writing_start, writing_end, writing_inside, writing_room, writing_more, writing_few, writing_on}
use Rattle.hits_lines.proofs.write_lines.Goals as goal

pub loop-at-init : goal.loop-at-init
loop-at-init c =
    writing_start c.args.bytes.now c.args.start c.args.numbers.now c.args.ends.now c.requires

-- the line lies in the bytes, and has an end
line_ends : (c : goal.After-first_of) → (c.loop-at.at + c.first_of.result < length c.args.bytes.now)
line_ends c =
    let a = c.args in
    writing_inside a.bytes.now a.start a.numbers.now a.ends.now c.loop-at.numbers c.loop-at.ends c.loop-at.at c.loop-at.i c.loop-at.n c.loop-at.invariant
    (c.loop-at.at + c.first_of.result) (omega arith) (piece_ends 10 a.bytes.now c.loop-at.at c.first_of.ensures)

pub overflow_add-end : goal.overflow_add-end
overflow_add-end c =
    let h = line_ends c in omega (arith, h)

pub slice_bounds-write_run-end : goal.slice_bounds-write_run-end
slice_bounds-write_run-end c =
    let h = line_ends c in omega (arith, h)

pub write_run-n-requires : goal.write_run-n-requires
write_run-n-requires c =
    let a = c.args in
    writing_room a.bytes.now a.start a.numbers.now a.ends.now c.loop-at.numbers c.loop-at.ends c.loop-at.at c.loop-at.i c.loop-at.n c.loop-at.invariant
    (c.loop-at.at + c.first_of.result) (omega arith) (piece_ends 10 a.bytes.now c.loop-at.at c.first_of.ensures)

pub overflow_cast-ends : goal.overflow_cast-ends
unfolding most_bytes
overflow_cast-ends c =
    let line_ends : (c.loop-at.at + c.first_of.result < length c.args.bytes.now) =
    let a = c.args in
    writing_inside a.bytes.now a.start a.numbers.now a.ends.now c.loop-at.numbers c.loop-at.ends c.loop-at.at c.loop-at.i c.loop-at.n c.loop-at.invariant
    (c.loop-at.at + c.first_of.result) (omega arith) (piece_ends 10 a.bytes.now c.loop-at.at c.first_of.ensures) in
    let a = c.args in
    let h = writing_few a.bytes.now a.start a.numbers.now a.ends.now c.loop-at.numbers c.loop-at.ends c.loop-at.at c.loop-at.i c.loop-at.n c.loop-at.invariant
    (c.loop-at.at + c.first_of.result) (omega arith) (piece_ends 10 a.bytes.now c.loop-at.at c.first_of.ensures) in
    let k = line_ends in
    let s = c.loop-at.invariant.short in
    let e = c.write_run-n.ensures.0 in
    omega (arith, h, k, s, e)

pub offset_bounds-ends-i : goal.offset_bounds-ends-i
offset_bounds-ends-i c =
    let more_ends : (c.loop-at.i < length c.loop-at.ends) =
    let a = c.args in
    writing_more a.bytes.now a.start a.numbers.now a.ends.now c.loop-at.numbers c.loop-at.ends c.loop-at.at c.loop-at.i c.loop-at.n c.loop-at.invariant
    (c.loop-at.at + c.first_of.result) (omega arith) (piece_ends 10 a.bytes.now c.loop-at.at c.first_of.ensures) in
    let h = more_ends in
    let e = c.loop-at.invariant.same_ends in
    omega (arith, h, e)

pub bounds-ends-i : goal.bounds-ends-i
bounds-ends-i c =
    let more_ends : (c.loop-at.i < length c.loop-at.ends) =
    let a = c.args in
    writing_more a.bytes.now a.start a.numbers.now a.ends.now c.loop-at.numbers c.loop-at.ends c.loop-at.at c.loop-at.i c.loop-at.n c.loop-at.invariant
    (c.loop-at.at + c.first_of.result) (omega arith) (piece_ends 10 a.bytes.now c.loop-at.at c.first_of.ensures) in
    more_ends

pub overflow_add-i : goal.overflow_add-i
overflow_add-i c =
    let more_ends : (c.loop-at.i < length c.loop-at.ends) =
    let a = c.args in
    writing_more a.bytes.now a.start a.numbers.now a.ends.now c.loop-at.numbers c.loop-at.ends c.loop-at.at c.loop-at.i c.loop-at.n c.loop-at.invariant
    (c.loop-at.at + c.first_of.result) (omega arith) (piece_ends 10 a.bytes.now c.loop-at.at c.first_of.ensures) in
    let h = more_ends in
    let e = c.loop-at.invariant.same_ends in
    omega (arith, h, e)

pub overflow_add-at : goal.overflow_add-at
overflow_add-at c =
    let line_ends : (c.loop-at.at + c.first_of.result < length c.args.bytes.now) =
    let a = c.args in
    writing_inside a.bytes.now a.start a.numbers.now a.ends.now c.loop-at.numbers c.loop-at.ends c.loop-at.at c.loop-at.i c.loop-at.n c.loop-at.invariant
    (c.loop-at.at + c.first_of.result) (omega arith) (piece_ends 10 a.bytes.now c.loop-at.at c.first_of.ensures) in
    let h = line_ends in omega (arith, h)

pub loop-at-smaller : goal.loop-at-smaller
loop-at-smaller c =
    let line_ends : (c.loop-at.at + c.first_of.result < length c.args.bytes.now) =
    let a = c.args in
    writing_inside a.bytes.now a.start a.numbers.now a.ends.now c.loop-at.numbers c.loop-at.ends c.loop-at.at c.loop-at.i c.loop-at.n c.loop-at.invariant
    (c.loop-at.at + c.first_of.result) (omega arith) (piece_ends 10 a.bytes.now c.loop-at.at c.first_of.ensures) in
    let h = line_ends in omega (arith, h)

pub loop-at-preserved : goal.loop-at-preserved
loop-at-preserved c =
    let a = c.args in
    let e = c.write_run-n.ensures in
    writing_on a.bytes.now a.start a.numbers.now a.ends.now c.loop-at.numbers c.loop-at.ends c.loop-at.at c.loop-at.i c.loop-at.n c.loop-at.invariant
    (c.loop-at.at + c.first_of.result) (omega arith) (piece_ends 10 a.bytes.now c.loop-at.at c.first_of.ensures) e.0 e.1

pub shape_of-numbers : goal.shape_of-numbers
shape_of-numbers c =
    c.loop-at.invariant.same_numbers

pub shape_of-ends : goal.shape_of-ends
shape_of-ends c =
    c.loop-at.invariant.same_ends

pub returns : goal.returns
returns c =
    let a = c.args in
    writing_end a.bytes.now a.start a.numbers.now a.ends.now c.loop-at.numbers c.loop-at.ends c.loop-at.at c.loop-at.i c.loop-at.n c.loop-at.invariant c.loop-at-test.false
