-- The nesting is never deeper than the binary digits of the shorter length: the shorter length of either side has fewer. Assumes nothing.
use Prim.Native.Nat.{ℕ, zero, suc, ◌≤◌, ◌<◌, min}
use lib.ListN.{length}
use mathlib.Core.List.{List}
use mathlib.Core.Logic.{⊎_elim, ◌≢◌}
use mathlib.Core.Path.{◌≡◌, refl}
use native.Mathlib.Omega.{arith}
use Rattle.model.proofs.Tests.{eq_or_ne}
use Rattle.model.specs.Compared.{digits}
use Rattle.pair_model.proofs.Splitting.{half_digits, below_half, above_half, by_none, by_split}
use Rattle.pair_model.specs.Claims.{Nested}
use Rattle.pair_model.specs.Pair.{Partition, not_entered, split_at, partition_by, partition_within, partition, nesting}

none_deep : nesting not_entered ≡ 0
unfolding nesting
none_deep = refl

-- split at a pivot, with fewer digits on either side
deeper : (below above : Partition) (found : List ℕ) (l u n : ℕ) → nesting below ≤ digits l → nesting above ≤ digits u → suc (digits l) ≤ digits n
    → suc (digits u) ≤ digits n → nesting (split_at below found above) ≤ digits n
unfolding nesting
deeper below above found l u n p q h k = omega arith

by_digits : (sides : List ℕ → List ℕ → Partition) → ((a b : List ℕ) → nesting (sides a b) ≤ digits (min (length a) (length b))) → (a b : List ℕ)
    → nesting (partition_by sides a b) ≤ digits (min (length a) (length b))
by_digits sides i a b =
    ⊎_elim
    (λ (z : min (length a) (length b) ≡ 0). rw (by_none sides a b z, none_deep) (omega arith))
    (λ (z : min (length a) (length b) ≢ 0).
    let p : 0 < min (length a) (length b) = omega arith in
    rw (by_split sides a b p)
    (deeper _ _ _ _ _ _ (i _ _) (i _ _) (half_digits _ _ p (below_half a b p)) (half_digits _ _ p (above_half a b p))))
    (eq_or_ne (min (length a) (length b)) 0)

within_digits : (fuel : ℕ) (a b : List ℕ) → nesting (partition_within fuel a b) ≤ digits (min (length a) (length b))
unfolding partition_within
within_digits zero a b = rw none_deep (omega arith)
within_digits (suc fuel) a b = by_digits (partition_within fuel) (λ c d. within_digits fuel c d) a b

pub nested : (a b : List ℕ) → Nested a b
unfolding partition
nested a b = record { nested = within_digits (min (length a) (length b)) a b }
