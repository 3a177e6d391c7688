-- `doubled` is the defined doubling, within the probes left. The invariant: the whole doubling equals the one from this place on with the probes made
-- so far, which are off the tally. The measure is what is left of the length, which falls since the place is not 0. Assumes nothing.
use Prim.Native.Nat.{ℕ, ◌+◌, ◌-◌, ◌<◌}
use lib.ListN.{length}
use mathlib.Core.List.{List}
use mathlib.Core.Path.{◌≡◌}
use Rattle.model.specs.Walk.{doubling}
use Rattle.walk_tally.specs.Tally.{left_in, halved_in}
use Rattle.walk_search.proofs.Laws.{more_b}
use Rattle.walk_search.proofs.doubled.Given as goal

pub record Here (s : List ℕ) (v before n lo place tally : ℕ) : Type 0 where
  pub size : n ≡ length s
  pub some : 0 < place
  pub made : ℕ
  pub left : left_in tally + made ≡ left_in before
  pub halved : halved_in tally ≡ halved_in before
  pub same : doubling (length s) v s 0 1 ≡ more_b made (doubling (length s) v s lo place)

abbrev pub invariant-loop-place : goal.invariant-loop-place
invariant-loop-place l = Here l.s l.v l.before l.n l.lo l.place l.tally

abbrev pub decreases-loop-place : goal.decreases-loop-place
decreases-loop-place l = length l.s - l.place
