-- `weight_among` adds the weights of the runs that the mask names, or takes those of the others off the total. Assumes nothing.
use Prim.Native.Nat.{◌+◌}
use borrow.Author.Rules.{rules}
use lib.ListN.{length}
use mathlib.Core.Path.{◌≡◌}
use native.Mathlib.Omega.{arith}
use Rattle.weights.specs.Named.{named_weight}
use Rattle.weights.proofs.Named.{fewer_within, fewer_weight}
use Rattle.weights.proofs.weight_among.Goals as goal

pub named_weight-weight-requires : goal.named_weight-weight-requires
named_weight-weight-requires c =
    let p = c.requires in
    let w = p.row in
    (w.few, fewer_within c.args.all c.args.mask c.fewer-summed.result c.fewer-summed.ensures (length c.args.weights.now) p.only (w.within (search rules)))

-- what the others weigh and what the named ones do are together the total
together : (c : goal.Else-summed-mask) → c.named_weight-weight.result + named_weight c.args.weights.now c.args.mask ≡ c.args.total
together c =
    let e = fewer_weight c.args.all c.args.mask c.fewer-summed.result c.fewer-summed.ensures c.args.weights.now c.if-summed-mask.false in
    omega (arith, c.named_weight-weight.ensures, c.requires.whole)

pub overflow_sub-result : goal.overflow_sub-result
overflow_sub-result c =
    let e = together c in omega arith

pub returns-then-not-is_empty : goal.returns-then-not-is_empty
returns-then-not-is_empty c =
    let e = together c in omega arith
