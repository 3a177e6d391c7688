use Rattle.std.proofs.Common.{◌+◌, ◌≤◌, ℕ, List, length, Ok, refl, sym, ap, ◌∙◌, arith}
use Rattle.lcov_form.proofs.Runs.{run_fits}
use Rattle.lcov_find.specs.Places.{section_at}
use Rattle.lcov_find.proofs.Lines.{Ends, line_ends}
use Rattle.lcov_line.specs.Records.{record_is}
use Rattle.text_read.proofs.Pieces.{piece_ends}
use Rattle.lcov_run.proofs.Reading.{rest_of, read_end, read_closed, read_malformed, read_passed, read_unrisen, read_full, read_covered, progress_on, progress_write, progress_stop, progress_refused}
use Rattle.lcov_run.proofs.read_section.Goals as goal
use Rattle.lcov_run.proofs.read_section.Goals.{in-Some+else-x-last+else-run-count, in_default-covered}

-- a run fits the row
fits : (file row : List ℕ) (start : ℕ) → length (rest_of file (length row) 0 0 start).run ≤ length row
fits file row start = let h = run_fits (length file) (length row) 0 0 (section_at file start) (omega arith) in omega (arith, h)

pub overflow_add-end : goal.overflow_add-end
overflow_add-end c =
    let e : Ends c.args.file.now c.loop-at.at (c.loop-at.at + c.first_of.result) =
    record { inside = omega arith; ends = piece_ends 10 c.args.file.now c.loop-at.at c.first_of.ensures } in
    let h = line_ends e in
    omega (arith, h)

pub slice_bounds-line-end : goal.slice_bounds-line-end
slice_bounds-line-end c =
    let e : Ends c.args.file.now c.loop-at.at (c.loop-at.at + c.first_of.result) =
    record { inside = omega arith; ends = piece_ends 10 c.args.file.now c.loop-at.at c.first_of.ensures } in
    let h = line_ends e in
    omega (arith, h)

pub returns-then-closes : goal.returns-then-closes
returns-then-closes c =
    let e : Ends c.args.file.now c.loop-at.at (c.loop-at.at + c.first_of.result) =
    record { inside = omega arith; ends = piece_ends 10 c.args.file.now c.loop-at.at c.first_of.ensures } in
    let l = c.loop-at in
    let room = length c.args.run.now in
    progress_stop l.invariant _ (read_closed e room l.count l.last (sym c.closes.ensures ∙ c.if-closes.true)) refl (fits c.args.file.now c.args.run.now c.args.start)

pub returns-in_default : goal.returns-in_default
returns-in_default c =
    let e : Ends c.args.file.now c.loop-at.at (c.loop-at.at + c.first_of.result) =
    record { inside = omega arith; ends = piece_ends 10 c.args.file.now c.loop-at.at c.first_of.ensures } in
    let l = c.loop-at in
    let room = length c.args.run.now in
    progress_refused l.invariant c.unfilled.result c.unfilled.ensures
    (read_malformed e room l.count l.last (sym c.closes.ensures ∙ c.if-closes.false) (sym c.in_default.ensures)) (fits c.args.file.now c.args.run.now c.args.start)

pub returns-then-x-last : goal.returns-then-x-last
returns-then-x-last c =
    let e : Ends c.args.file.now c.loop-at.at (c.loop-at.at + c.first_of.result) =
    record { inside = omega arith; ends = piece_ends 10 c.args.file.now c.loop-at.at c.first_of.ensures } in
    let l = c.loop-at in
    let room = length c.args.run.now in
    progress_refused l.invariant c.unfilled-then-x-last.result c.unfilled-then-x-last.ensures
    (read_unrisen e room l.count l.last (sym c.closes.ensures ∙ c.if-closes.false) (sym c.in-Ok.ensures ∙ ap (λ o. record_is (Ok o)) c.in-Some.is) c.if-x-last.true)
    (fits c.args.file.now c.args.run.now c.args.start)

pub returns-then-run-count : goal.returns-then-run-count
returns-then-run-count c =
    let e : Ends c.args.file.now c.loop-at.at (c.loop-at.at + c.first_of.result) =
    record { inside = omega arith; ends = piece_ends 10 c.args.file.now c.loop-at.at c.first_of.ensures } in
    let l = c.loop-at in
    let room = length c.args.run.now in
    let s = l.invariant.lengths in
    progress_refused l.invariant c.unfilled-then-run-count.result c.unfilled-then-run-count.ensures
    (read_full e room l.count l.last (sym c.closes.ensures ∙ c.if-closes.false) (sym c.in-Ok.ensures ∙ ap (λ o. record_is (Ok o)) c.in-Some.is) c.if-x-last.false
    (omega (arith, s, c.if-run-count.true)))
    (fits c.args.file.now c.args.run.now c.args.start)

pub loop-at-preserved : goal.loop-at-preserved
loop-at-preserved c =
    let e : Ends c.args.file.now c.loop-at.at (c.loop-at.at + c.first_of.result) =
    record { inside = omega arith; ends = piece_ends 10 c.args.file.now c.loop-at.at c.first_of.ensures } in
    let l = c.loop-at in
    let room = length c.args.run.now in
    let s = l.invariant.lengths in
    elim c.match-covered.branch [
      | in-Some+else-x-last+else-run-count w ↦
          rw (w.run-is, w.count-is, w.last-is)
          (progress_write l.invariant w.in-Some.x
          (read_covered e room l.count l.last (sym c.closes.ensures ∙ c.if-closes.false) (sym c.in-Ok.ensures ∙ ap (λ o. record_is (Ok o)) w.in-Some.is) w.if-x-last.false
          (omega (arith, s, w.if-run-count.false))))
      | in_default-covered w ↦
          rw (w.run-is, w.count-is, w.last-is)
          (progress_on l.invariant
          (read_passed e room l.count l.last (sym c.closes.ensures ∙ c.if-closes.false) (sym c.in-Ok.ensures ∙ ap (λ o. record_is (Ok o)) w.in_default-covered.is)))
    ]

pub returns : goal.returns
returns c =
    let l = c.loop-at in
    progress_refused l.invariant c.unfilled-2.result c.unfilled-2.ensures (read_end c.args.file.now (length c.args.run.now) l.count l.last l.at c.loop-at-test.false)
    (fits c.args.file.now c.args.run.now c.args.start)
