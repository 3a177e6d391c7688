use Prim.Native.Nat.{ℕ, suc, ◌<◌}
use borrow.Author.Rules.{rules}
use mathlib.Core.Path.{◌≡◌, refl, subst, sym}
use Rattle.check_cursor.specs.Cursors.{Cursors}
use native.Mathlib.Omega.{arith}
use Rattle.check_cursor.proofs.Moving.{bin_fits}
use Rattle.check_scan.proofs.Scanning.{sofar_start, sofar_end, run_below, scan_start, scan_more, scan_fits, scan_found, scan_agrees, turn_more, turn_on}
use Rattle.check_scan.proofs.contradicted.Goals as goal
use Rattle.check_scan.proofs.contradicted.Goals.{else-runs-test, then-runs-test+then-from-x+then-clashes}

pub runs-init : goal.runs-init
runs-init c =
    let a = c.args in
    let k = a.claim in
    sofar_start a.numbers.now a.ends.now k.held k.first k.last k.mask a.cursors.now c.to_scan-rest.result
    (bin_fits k.first (search rules)) (bin_fits k.last (search rules)) c.requires.1 c.requires.0 c.requires.2 c.to_scan-rest.ensures

pub bounds-ends-i : goal.bounds-ends-i
bounds-ends-i c =
    run_below c.runs.invariant c.lowest_run-i.ensures.here

-- the run's cursor is one of the row
cursor_below : {i n m : ℕ} → i < n → m ≡ n → i < m
cursor_below h e = omega arith

pub bounds-cursors-i : goal.bounds-cursors-i
bounds-cursors-i c =
    cursor_below (run_below c.runs.invariant c.lowest_run-i.ensures.here) c.runs.invariant.ready.lengths

pub bounds-cursors-i-in-runs : goal.bounds-cursors-i-in-runs
bounds-cursors-i-in-runs c =
    cursor_below (run_below c.runs.invariant c.lowest_run-i.ensures.here) c.runs.invariant.ready.lengths

pub loop-x-init : goal.loop-x-init
loop-x-init c =
    scan_start c.runs.invariant c.lowest_run-i.ensures.here refl c.place_of-j.ensures c.bin_of-x.ensures

pub number_at-x-requires : goal.number_at-x-requires
number_at-x-requires c =
    scan_more c.loop-x.invariant (omega arith)

pub number_at-x-requires-in-loop-x : goal.number_at-x-requires-in-loop-x
number_at-x-requires-in-loop-x c =
    turn_more c.loop-x.invariant (omega arith) c.number_at-x.ensures c.more_passed-j.ensures

pub loop-x-smaller : goal.loop-x-smaller
loop-x-smaller c =
    let m = turn_more c.loop-x.invariant (omega arith) c.number_at-x.ensures c.more_passed-j.ensures in omega (arith, m.0)

pub loop-x-preserved : goal.loop-x-preserved
loop-x-preserved c =
    turn_on c.loop-x.invariant (omega arith) c.number_at-x.ensures c.more_passed-j.ensures c.number_at-x-in-loop-x.ensures

pub cursor_at-requires : goal.cursor_at-requires
cursor_at-requires c =
    let b = scan_fits c.loop-x.invariant (omega arith) in (b.0, omega (arith, b.1, b.2))

pub bounds-cursors-i-then-from-x : goal.bounds-cursors-i-then-from-x
bounds-cursors-i-then-from-x c =
    cursor_below (run_below c.runs.invariant c.lowest_run-i.ensures.here) c.loop-x.invariant.sofar.ready.lengths

pub runs-preserved : goal.runs-preserved
runs-preserved c =
    scan_agrees c.loop-x.invariant (omega arith) c.clashes.ensures c.if-clashes.false c.cursor_at.result c.cursor_at.ensures
    (c.without_lowest-rest.ensures.gone c.lowest_run-i.result c.lowest_run-i.ensures)

pub returns : goal.returns
returns c =
    let a = c.args in
    let k = a.claim in
    let r = c.runs in
    elim c.runs-test.branch [
      | else-runs-test w ↦ (
        sofar_end a.numbers.now a.ends.now k.held k.first k.last k.mask r.cursors r.rest r.invariant w.runs-test.false,
        subst (λ x. Cursors a.numbers.now a.ends.now x (suc k.last)) (sym w.cursors-is) r.invariant.ready,
      )
      | then-runs-test+then-from-x+then-clashes w ↦ (
        scan_found w.loop-x.invariant (omega arith) w.clashes.ensures w.if-clashes.true w.runs-test.true,
        subst (λ x. Cursors a.numbers.now a.ends.now x (suc k.last)) (sym w.cursors-is) w.loop-x.invariant.sofar.ready,
      )
    ]
