-- `front` gives how many keys of the row are below the limit, and the sum of 2 to the power of their runs. The invariant: the keys up to `i` are below the limit and
-- their sum is `named`. A part's sum is at most the whole row's, so it fits. Assumes nothing.
use Rattle.std.proofs.Common.{◌≡◌, ◌+◌, ◌-◌, take, drop, List, ℕ}
use Rattle.walk_keys.specs.Row.{below_count, label_sum}
use Rattle.walk_keys.proofs.front.Given as goal

pub record Passed (keys : List ℕ) (start limit named i : ℕ) : Type 0 where
  pub counted : below_count limit (drop start keys) ≡ i - start + below_count limit (drop i keys)
  pub summed : named ≡ label_sum (take (i - start) (drop start keys))

abbrev pub invariant-loop-i : goal.invariant-loop-i
invariant-loop-i l = Passed l.keys l.start l.limit l.named l.i
