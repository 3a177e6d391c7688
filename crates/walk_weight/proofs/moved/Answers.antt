-- `moved` takes the run's weight off where the run has no number left. Assumes nothing.
use native.Mathlib.Omega.{arith}
use Rattle.walk_state.proofs.InPlay.{lost_none, lost_all}
use Rattle.walk_weight.proofs.moved.Goals as goal

pub returns-then-place-end : goal.returns-then-place-end
returns-then-place-end c =
    let a = c.args in
    let l = lost_none a.weights.now a.i a.place a.end c.if-place-end.true in
    omega arith

pub overflow_sub-result : goal.overflow_sub-result
overflow_sub-result c =
    let a = c.args in
    let l = lost_all a.weights.now a.i a.place a.end (omega (arith, c.if-place-end.false)) in
    omega (arith, c.requires.1, c.weight_at-lost.ensures)

pub returns : goal.returns
returns c =
    let a = c.args in
    let l = lost_all a.weights.now a.i a.place a.end (omega (arith, c.if-place-end.false)) in
    omega (arith, c.requires.1, c.weight_at-lost.ensures)
