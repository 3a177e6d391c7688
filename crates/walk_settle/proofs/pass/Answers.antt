-- `pass` ends at the last bin, or moves the runs that hold the floor on by one. Assumes nothing.
use native.Mathlib.Omega.{arith}
use Prim.Native.Nat.{◌+◌}
use Rattle.model.specs.Runs.{last_bin}
use lib.Count.{ones}
use mathlib.Core.Path.{◌≡◌}
use Rattle.walk_state.specs.Moves.{StepReady}
use Rattle.walk_state.specs.State.{InPlay}
use Rattle.walk_settle.proofs.Passing.{step_ready, passed_on, passed_last}
use Rattle.walk_settle.proofs.pass.Goals as goal

pub returns-then-w-eq-LAST_BIN : goal.returns-then-w-eq-LAST_BIN
unfolding last_bin
returns-then-w-eq-LAST_BIN c =
    let a = c.args in
    passed_last a.numbers.now a.ends.now a.weights.now a.positions.now a.keys.now a.threshold a.w a.number a.named c.requires.0 c.requires.1 c.if-w-eq-LAST_BIN.true a.positions.now a.keys.now

ready : (c : goal.After-struct_known-2-1) → (let a = c.args in
    StepReady a.numbers.now a.ends.now a.positions.now a.keys.now (a.w.start + a.number) a.named × (a.number ≡ ones a.named)
    × InPlay a.numbers.now a.ends.now a.weights.now a.positions.now a.w.weight)
ready c =
    let a = c.args in
    step_ready a.numbers.now a.ends.now a.weights.now a.positions.now a.keys.now a.threshold a.w a.number a.named c.requires.0 c.requires.1

pub overflow_add-w : goal.overflow_add-w
overflow_add-w c =
    let r = (ready c).0.lacks.starts in
    let k = (ready c).0.lacks.size in
    let f = (ready c).0.few in
    omega arith

pub step_runs-stepped-requires : goal.step_runs-stepped-requires
step_runs-stepped-requires c =
    ready c

pub returns : goal.returns
unfolding last_bin
returns c =
    let a = c.args in
    passed_on a.numbers.now a.ends.now a.weights.now a.positions.now a.keys.now a.threshold a.w a.number a.named c.requires.0 c.requires.1
    c.step_runs-stepped.new.positions c.step_runs-stepped.new.keys c.step_runs-stepped.result.start c.step_runs-stepped.result.weight c.if-w-eq-LAST_BIN.false c.step_runs-stepped.ensures
