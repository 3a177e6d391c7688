use native.Mathlib.Omega.{arith}
use lib.Pow.{pow_pos}
use Rattle.std.proofs.lemmas.Result.{err_from_is_err_and}
use Rattle.walk_state.proofs.Moving.{past_is}
use Rattle.walk_searches.proofs.Searching.{here_start, searchable, at_number, still_allowed, here_on, here_spent, here_end}
use Rattle.walk_searches.proofs.search_each.Goals as goal

pub loop-rest-init : goal.loop-rest-init
loop-rest-init c =
    let a = c.args in
    (here_start a.numbers.now a.ends.now a.positions.now a.movers a.v a.allowed c.requires.0, c.requires.2)

pub search_run-requires : goal.search_run-requires
search_run-requires c =
    let a = c.args in
    let l = c.loop-rest in
    let run = c.lowest_run-run.result in
    let lowest = c.lowest_run-run.ensures in
    let k = still_allowed a.numbers.now a.ends.now a.positions.now a.movers a.v a.allowed l.positions l.rest l.left.tally run l.invariant.0 lowest in
    let b = c.ranges.v.fits in
    let e = past_is in
    record {
      placeable = (
        searchable a.numbers.now a.ends.now a.positions.now a.movers a.v a.allowed l.positions l.rest l.left.tally run l.invariant.0 lowest,
        omega (arith, c.requires.1),
      );
      run_bound = (
        at_number a.numbers.now a.ends.now a.positions.now a.movers a.v a.allowed l.positions l.rest l.left.tally run l.invariant.0 lowest (omega arith),
        l.invariant.1,
      );
    }

pub returns-in_err-left : goal.returns-in_err-left
returns-in_err-left c =
    let a = c.args in
    let l = c.loop-rest in
    let p = err_from_is_err_and c.from_residual.result c.from_residual.ensures.1 in
    rw (p.1, p.2)
    (here_spent a.numbers.now a.ends.now a.positions.now a.movers a.v a.allowed l.positions l.rest l.left.tally c.lowest_run-run.result l.invariant.0
    c.lowest_run-run.ensures a.weights.now c.in_err-left.field-0.0 c.in_err-left.ensures)

pub loop-rest-preserved : goal.loop-rest-preserved
loop-rest-preserved c =
    let a = c.args in
    let l = c.loop-rest in
    let run = c.lowest_run-run.result in
    let p = pow_pos run in
    let e = c.without_lowest-rest.ensures.gone run c.lowest_run-run.ensures in
    let g = c.in_ok-left.ensures in (
      here_on a.numbers.now a.ends.now a.positions.now a.movers a.v a.allowed l.positions l.rest l.left.tally run l.invariant.0 c.lowest_run-run.ensures
          a.weights.now c.without_lowest-rest.result c.search_run.new.positions c.in_ok-left.left e (omega arith) g,
      g.4,
    )

pub returns : goal.returns
returns c =
    let a = c.args in
    let l = c.loop-rest in
    here_end a.numbers.now a.ends.now a.weights.now a.positions.now a.movers a.v a.allowed l.positions l.rest l.left l.invariant.0 l.invariant.1 (omega arith)
