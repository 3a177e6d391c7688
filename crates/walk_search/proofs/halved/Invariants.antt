-- `halved` is the defined halving, within the probes left. The invariant: the whole halving equals the one between these places with the probes made so
-- far, which are off the one half of the tally and on the other. The measure is the width. Assumes nothing.
use Prim.Native.Nat.{ℕ, ◌+◌, ◌-◌, ◌≤◌}
use lib.ListN.{length}
use mathlib.Core.List.{List}
use mathlib.Core.Path.{◌≡◌}
use Rattle.model.specs.Walk.{halving}
use Rattle.walk_tally.specs.Tally.{left_in, halved_in}
use Rattle.walk_search.proofs.Laws.{more_h}
use Rattle.walk_search.proofs.halved.Given as goal

pub record Here (s : List ℕ) (v from to before lo hi tally : ℕ) : Type 0 where
  pub order : lo ≤ hi
  pub inside : hi ≤ length s
  pub made : ℕ
  pub left : left_in tally + made ≡ left_in before
  pub halved : halved_in tally ≡ halved_in before + made
  pub same : halving (length s) v s from to ≡ more_h made (halving (length s) v s lo hi)

abbrev pub invariant-loop-hi : goal.invariant-loop-hi
invariant-loop-hi l = Here l.s l.v l.from l.to l.before l.lo l.hi l.tally

abbrev pub decreases-loop-hi : goal.decreases-loop-hi
decreases-loop-hi l = l.hi - l.lo
