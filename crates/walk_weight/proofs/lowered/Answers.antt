use Rattle.std.proofs.Common.{ℕ, ◌<◌, List, get_or, Fits, w32, arith}
use lib.Pow.{pow_pos}
use Rattle.model.specs.Runs.{past_bin}
use Rattle.walk_state.proofs.Moving.{past_is}
use Rattle.walk_weight.proofs.Lowering.{index, weighed, lost, lowerable_on, lowerable_end}
use Rattle.walk_weight.proofs.lowered.Goals as goal

-- each number is a bin
bins : (k : List ℕ) → ((i : ℕ) → Fits w32 (get_or k i 0)) → (i : ℕ) → get_or k i 0 < past_bin
bins k f i =
    let b = f i in
    let p = past_is in
    omega arith

pub loop-rest-init : goal.loop-rest-init
loop-rest-init c =
    c.requires

pub bounds-positions-i : goal.bounds-positions-i
bounds-positions-i c =
    let i = index _ _ _ _ _ _ _ (bins c.args.numbers.now c.type_inv.numbers) c.loop-rest.invariant c.lowest_run-run.ensures.here in
    let n = c.loop-rest.invariant.inside.lengths in
    omega arith

pub bounds-ends-i : goal.bounds-ends-i
bounds-ends-i c =
    index _ _ _ _ _ _ _ (bins c.args.numbers.now c.type_inv.numbers) c.loop-rest.invariant c.lowest_run-run.ensures.here

pub moved-weight-requires : goal.moved-weight-requires
moved-weight-requires c =
    let b = bins c.args.numbers.now c.type_inv.numbers in
    let h = c.lowest_run-run.ensures.here in
    let e = c.without_lowest-rest.ensures.gone c.lowest_run-run.result c.lowest_run-run.ensures in
    (weighed _ _ _ _ _ _ _ b c.loop-rest.invariant h, lost _ _ _ _ _ _ _ b c.loop-rest.invariant h _ e)

pub loop-rest-smaller : goal.loop-rest-smaller
loop-rest-smaller c =
    let p = pow_pos c.lowest_run-run.result in
    let e = c.without_lowest-rest.ensures.gone c.lowest_run-run.result c.lowest_run-run.ensures in
    omega arith

pub loop-rest-preserved : goal.loop-rest-preserved
loop-rest-preserved c =
    let b = bins c.args.numbers.now c.type_inv.numbers in
    let e = c.without_lowest-rest.ensures.gone c.lowest_run-run.result c.lowest_run-run.ensures in
    lowerable_on _ _ _ _ _ _ _ b c.loop-rest.invariant c.lowest_run-run.ensures.here _ e _ c.moved-weight.ensures

pub returns : goal.returns
returns c =
    lowerable_end _ _ _ _ _ _ c.loop-rest.invariant (omega arith)
