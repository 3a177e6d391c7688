use Prim.Native.Nat.{ℕ, ◌^◌, ◌≤◌, ◌<◌}
use lib.ListN.{length}
use mathlib.Core.List.{List}
use mathlib.Core.Path.{◌≡◌, ap, ◌∙◌}
use native.Mathlib.Omega.{arith}
use Rattle.model.proofs.Masks.{below_only}
use Rattle.model.specs.Runs.{bit}
use Rattle.weights.specs.Named.{named_weight}
use Rattle.weights.proofs.Named.{cleared_weight, weight_at, weights_small, none_named, most_named}
use Rattle.weights.proofs.named_weight.Goals as goal

-- a run that is left has a weight in the row
known : (mask rest run : ℕ) (weights : List ℕ) → rest ≤ mask → mask < 2 ^ length weights → bit rest run ≡ 1 → run < length weights
known mask rest run weights w m b = below_only rest (length weights) run (omega arith) b

pub bounds-weights-run : goal.bounds-weights-run
bounds-weights-run c =
    known _ _ _ _ c.loop-rest.invariant.within c.requires.1 c.lowest_run-run.ensures.here

pub overflow_add-total : goal.overflow_add-total
overflow_add-total c =
    let a = c.args in
    let small = weights_small 4294967296 (omega arith) a.weights.now (λ i. (c.type_inv.weights i).fits) in
    let m = most_named a.weights.now a.mask small in
    let w = small c.lowest_run-run.result in
    let k = known _ _ _ _ c.loop-rest.invariant.within c.requires.1 c.lowest_run-run.ensures.here in
    let e = weight_at a.weights.now c.lowest_run-run.result k in
    record { fits = omega (arith, c.loop-rest.invariant.same) }

pub loop-rest-preserved : goal.loop-rest-preserved
loop-rest-preserved c =
    let a = c.args in
    let run = c.lowest_run-run.result in
    let k = known _ _ _ _ c.loop-rest.invariant.within c.requires.1 c.lowest_run-run.ensures.here in
    let e = weight_at a.weights.now run k in
    let g = c.without_lowest-rest.ensures.gone run c.lowest_run-run.ensures in
    let w = cleared_weight a.weights.now c.loop-rest.rest c.without_lowest-rest.result run c.lowest_run-run.ensures.here g c.lowest_run-run.ensures.small in
    record { within = omega (arith, c.loop-rest.invariant.within); same = omega (arith, c.loop-rest.invariant.same) }

pub returns : goal.returns
returns c =
    let a = c.args in
    let z : c.loop-rest.rest ≡ 0 = omega arith in
    let n = ap (named_weight a.weights.now) z ∙ none_named a.weights.now in
    omega (arith, c.loop-rest.invariant.same)
