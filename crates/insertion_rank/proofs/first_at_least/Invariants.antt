-- `first_at_least` meets its contract. The loop's invariant: the rank lies between lo and hi, and hi within the list. The measure, hi - lo, falls,
-- since the middle is at least lo and below hi. Assumes nothing.
use Rattle.std.proofs.Common.{◌-◌, ◌≤◌, length}
use Rattle.model.specs.Runs.{rank}
use Rattle.insertion_rank.proofs.first_at_least.Given as goal

abbrev pub invariant-loop-lo : goal.invariant-loop-lo
invariant-loop-lo l = (l.lo ≤ rank l.v l.list) × ((rank l.v l.list ≤ l.hi) × (l.hi ≤ length l.list))

abbrev pub decreases-loop-lo : goal.decreases-loop-lo
decreases-loop-lo l = l.hi - l.lo
