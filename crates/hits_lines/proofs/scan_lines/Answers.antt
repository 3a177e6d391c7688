use Rattle.std.proofs.Common.{◌≡◌, ◌+◌, Some, None, sym, ap, ◌∙◌, arith}
use Rattle.std.proofs.lemmas.Result.{err_from_is_err_and}
use Rattle.hits_run.specs.Line.{count_is}
use Rattle.hits_lines.proofs.Lines.{scanning_start, scanning_end, line_inside, found_unended, found_form, found_runs, found_room, scanning_on}
use Rattle.text_read.proofs.Pieces.{piece_ends}
use Rattle.hits_lines.proofs.scan_lines.Goals as goal
use Rattle.hits_lines.proofs.scan_lines.Goals.{then-runs-counts-via-then-runs-counts, then-runs-counts-via-else-runs-counts+then-room-counts}

pub loop-at-init : goal.loop-at-init
loop-at-init c = (scanning_start c.args.bytes.now c.args.start c.args.runs c.args.room c.requires.0, c.requires.1)

pub overflow_add-end : goal.overflow_add-end
overflow_add-end c =
    let a = c.args in
    let h = line_inside a.runs a.room a.bytes.now c.loop-at.at _ c.loop-at.counts.runs c.loop-at.counts.numbers (omega arith) (piece_ends 10 a.bytes.now c.loop-at.at c.first_of.ensures) in
    omega (arith, h)

pub returns-then-end-bytes : goal.returns-then-end-bytes
returns-then-end-bytes c =
    let a = c.args in (
      found_unended a.bytes.now a.start a.runs a.room c.loop-at.at c.loop-at.counts.runs c.loop-at.counts.numbers c.loop-at.invariant.0
          (c.loop-at.at + c.first_of.result) (omega arith) (piece_ends 10 a.bytes.now c.loop-at.at c.first_of.ensures) c.if-end-bytes.true,
      tt,
    )

pub slice_bounds-count_run-end : goal.slice_bounds-count_run-end
slice_bounds-count_run-end c =
    let a = c.args in
    let h = line_inside a.runs a.room a.bytes.now c.loop-at.at _ c.loop-at.counts.runs c.loop-at.counts.numbers (omega arith) (piece_ends 10 a.bytes.now c.loop-at.at c.first_of.ensures) in
    omega (arith, h)

pub returns-in_err-more : goal.returns-in_err-more
returns-in_err-more c =
    let a = c.args in
    let q : (c.count_run.result ≡ None) × (c.in_err-more.field-0.0 ≡ record { 0 = c.loop-at.counts.runs + 2 }) =
    let h = c.in_err-more.ensures.value in (grind arith, grind arith) in
    let f = found_form a.bytes.now a.start a.runs a.room c.loop-at.at c.loop-at.counts.runs c.loop-at.counts.numbers c.loop-at.invariant.0
    (c.loop-at.at + c.first_of.result) (omega arith) (piece_ends 10 a.bytes.now c.loop-at.at c.first_of.ensures) c.if-end-bytes.false (sym c.count_run.ensures ∙ ap count_is q.0) in
    let p = err_from_is_err_and c.from_residual.result c.from_residual.ensures.1 in
    rw (p.1, p.2, q.1) (f, tt)

pub returns-then-runs-counts : goal.returns-then-runs-counts
returns-then-runs-counts c =
    let a = c.args in
    let o : c.count_run.result ≡ Some c.in_ok-more.more = let h = c.in_ok-more.ensures.value in grind arith in
    let q = sym c.count_run.ensures ∙ ap count_is o in
    elim c.then-runs-counts.branch [
      | then-runs-counts-via-then-runs-counts w ↦ (
        found_runs a.bytes.now a.start a.runs a.room c.loop-at.at c.loop-at.counts.runs c.loop-at.counts.numbers c.loop-at.invariant.0
            (c.loop-at.at + c.first_of.result) (omega arith) (piece_ends 10 a.bytes.now c.loop-at.at c.first_of.ensures)
            c.if-end-bytes.false c.in_ok-more.more q w.if-runs-counts.true,
        tt,
      )
      | then-runs-counts-via-else-runs-counts+then-room-counts w ↦ (
        found_room a.bytes.now a.start a.runs a.room c.loop-at.at c.loop-at.counts.runs c.loop-at.counts.numbers c.loop-at.invariant.0
            (c.loop-at.at + c.first_of.result) (omega arith) (piece_ends 10 a.bytes.now c.loop-at.at c.first_of.ensures)
            c.if-end-bytes.false c.in_ok-more.more q w.if-runs-counts.false (omega arith),
        tt,
      )
    ]

pub loop-at-preserved : goal.loop-at-preserved
loop-at-preserved c =
    let a = c.args in
    let o : c.count_run.result ≡ Some c.in_ok-more.more = let h = c.in_ok-more.ensures.value in grind arith in
    let q = sym c.count_run.ensures ∙ ap count_is o in (
      scanning_on a.bytes.now a.start a.runs a.room c.loop-at.at c.loop-at.counts.runs c.loop-at.counts.numbers c.loop-at.invariant.0
          (c.loop-at.at + c.first_of.result) (omega arith) (piece_ends 10 a.bytes.now c.loop-at.at c.first_of.ensures)
          c.if-end-bytes.false c.in_ok-more.more q c.if-runs-counts.false (omega arith),
      c.loop-at.invariant.1,
    )

pub returns : goal.returns
returns c =
    let a = c.args in
    let s = c.loop-at.invariant in
    (scanning_end a.bytes.now a.start a.runs a.room c.loop-at.at c.loop-at.counts.runs c.loop-at.counts.numbers s.0 c.loop-at-test.false, (s.0.fit_runs, s.0.fit))
