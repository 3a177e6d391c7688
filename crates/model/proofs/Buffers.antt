-- What stands in a buffer after numbers were stored at its front. Assumes nothing.
use Prim.Native.Nat.{ℕ, ◌+◌, ◌≤◌}
use lib.ListN.{length, drop}
use lib.Seq.{sets, sets-eq}
use mathlib.Core.List.{List, ◌++◌}
use mathlib.Core.Path.{◌≡◌, ap, ◌∙◌}
use native.Mathlib.Omega.{arith}
use Rattle.model.specs.Refusals.{over}

pub over_sets : (xs l : List ℕ) → length xs ≤ length l → sets l 0 xs ≡ over xs l
unfolding over
over_sets xs l h = let z : 0 + length xs ≡ length xs = omega arith in sets-eq xs l 0 (omega arith) ∙ ap (λ x. xs ++ drop x l) z
