use Rattle.std.proofs.Common.{◌+◌, sym, ◌∙◌, arith}
use Rattle.text_read.proofs.Pieces.{piece_ends}
use Rattle.lcov_find.proofs.Finding.{left_start, left_end, left_inside, left_outside, left_found, left_opened}
use Rattle.lcov_find.proofs.Lines.{Ends, line_ends}
use Rattle.lcov_find.proofs.find_section.Goals as goal

pub loop-at-init : goal.loop-at-init
loop-at-init c = (omega arith, left_start c.args.file.now c.args.index)

pub overflow_add-end : goal.overflow_add-end
overflow_add-end c =
    let e : Ends c.args.file.now c.loop-at.at (c.loop-at.at + c.first_of.result) =
    record { inside = omega arith; ends = piece_ends 10 c.args.file.now c.loop-at.at c.first_of.ensures } in
    let h = line_ends e in
    omega (arith, h)

pub slice_bounds-line-end : goal.slice_bounds-line-end
slice_bounds-line-end c =
    let e : Ends c.args.file.now c.loop-at.at (c.loop-at.at + c.first_of.result) =
    record { inside = omega arith; ends = piece_ends 10 c.args.file.now c.loop-at.at c.first_of.ensures } in
    let h = line_ends e in
    omega (arith, h)

pub loop-at-preserved-then-inside : goal.loop-at-preserved-then-inside
loop-at-preserved-then-inside c =
    let e : Ends c.args.file.now c.loop-at.at (c.loop-at.at + c.first_of.result) =
    record { inside = omega arith; ends = piece_ends 10 c.args.file.now c.loop-at.at c.first_of.ensures } in
    let h = line_ends e in
    let l = c.loop-at in
    (omega (arith, h), sym (left_inside e l.left l.inside c.closes-inside.result c.if-inside.true c.closes-inside.ensures) ∙ l.invariant.1)

pub returns-then-left-eq0 : goal.returns-then-left-eq0
returns-then-left-eq0 c =
    let e : Ends c.args.file.now c.loop-at.at (c.loop-at.at + c.first_of.result) =
    record { inside = omega arith; ends = piece_ends 10 c.args.file.now c.loop-at.at c.first_of.ensures } in
    let l = c.loop-at in
    sym (left_found e l.left l.inside c.if-inside.false c.if-left-eq0.true (sym c.opens.ensures ∙ c.if-opens.true)) ∙ l.invariant.1

pub loop-at-preserved-then-opens : goal.loop-at-preserved-then-opens
loop-at-preserved-then-opens c =
    let e : Ends c.args.file.now c.loop-at.at (c.loop-at.at + c.first_of.result) =
    record { inside = omega arith; ends = piece_ends 10 c.args.file.now c.loop-at.at c.first_of.ensures } in
    let h = line_ends e in
    let l = c.loop-at in
    (omega (arith, h), sym (left_opened e l.left l.inside c.if-inside.false c.if-left-eq0.false (sym c.opens.ensures ∙ c.if-opens.true)) ∙ l.invariant.1)

pub loop-at-preserved : goal.loop-at-preserved
loop-at-preserved c =
    let e : Ends c.args.file.now c.loop-at.at (c.loop-at.at + c.first_of.result) =
    record { inside = omega arith; ends = piece_ends 10 c.args.file.now c.loop-at.at c.first_of.ensures } in
    let h = line_ends e in
    let l = c.loop-at in
    (omega (arith, h), sym (left_outside e l.left l.inside c.if-inside.false (sym c.opens.ensures ∙ c.if-opens.false)) ∙ l.invariant.1)

pub returns : goal.returns
returns c = left_end c.args.file.now c.loop-at.at c.loop-at.inside c.loop-at.left c.loop-at-test.false ∙ c.loop-at.invariant.1
