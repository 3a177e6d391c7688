use Rattle.std.proofs.Common.{arith}
use lib.Pow.{pow_pos}
use Rattle.walk_step.proofs.Steps.{here_start, steppable, not_at_end, here_on, here_end}
use Rattle.walk_step.proofs.step_each.Goals as goal

pub loop-rest-init : goal.loop-rest-init
loop-rest-init c =
    here_start _ _ _ _ c.requires

pub bounds-positions-run : goal.bounds-positions-run
bounds-positions-run c =
    let s = steppable _ _ _ _ _ _ _ c.loop-rest.invariant c.lowest_run-run.ensures.here in
    omega (arith, s.index, s.inside.lengths)

pub overflow_add-positions : goal.overflow_add-positions
overflow_add-positions c =
    let n = not_at_end _ _ _ _ _ _ _ c.loop-rest.invariant c.lowest_run-run.ensures.here in
    let b = c.type_inv.ends c.lowest_run-run.result in
    record { fits = omega arith }

pub bounds-positions-run-in-loop-rest : goal.bounds-positions-run-in-loop-rest
bounds-positions-run-in-loop-rest c =
    let s = steppable _ _ _ _ _ _ _ c.loop-rest.invariant c.lowest_run-run.ensures.here in
    omega (arith, s.index, s.inside.lengths)

pub loop-rest-smaller : goal.loop-rest-smaller
loop-rest-smaller c =
    let p = pow_pos c.lowest_run-run.result in
    let e = c.without_lowest-rest.ensures.gone c.lowest_run-run.result c.lowest_run-run.ensures in
    omega arith

pub loop-rest-preserved : goal.loop-rest-preserved
loop-rest-preserved c =
    let p = pow_pos c.lowest_run-run.result in
    let e = c.without_lowest-rest.ensures.gone c.lowest_run-run.result c.lowest_run-run.ensures in
    here_on _ _ _ _ _ _ _ c.loop-rest.invariant c.lowest_run-run.ensures.here _ e (omega arith)

pub returns : goal.returns
returns c =
    here_end _ _ _ _ _ _ c.loop-rest.invariant (omega arith)
