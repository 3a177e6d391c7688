-- The answers of two sides written one after another: those below the pivot, the pivot, those above it. Assumes nothing.
use Prim.Native.Nat.{ℕ, ◌-◌, ◌≤◌, min}
use lib.ListN.{length, take, drop, length-drop}
use lib.Seq.{take_all}
use mathlib.Core.List.{List, ◌++◌}
use mathlib.Core.Path.{◌≡◌, subst, ◌∙◌}
use native.Mathlib.Omega.{arith}
use Rattle.pair_model.specs.Pair.{partition, found_in}
use Rattle.row_fill.proofs.Keeping.{Keeping, keeping_start, keeping_end, keeping_on, keeping_cut, keeping_last}
use Rattle.row_fill.specs.Keeps.{Keeps}
use Rattle.refusal.specs.declared.Reason.{Reason}
use Rattle.std.specs.Prelude.{Result, Ok, Err}
use Rattle.pair_partition.proofs.Sides.{none_found, found_below, found_above, found_split, below_length, above_length}
use Rattle.pair_partition.specs.Sides.{Entered, Splits, pivot_in}
use Rattle.pair_partition.specs.declared.Split.{Split}

-- the end of a list as the code lends it
pub lent_end : (n : ℕ) (s : List ℕ) → take (length s - n) (drop n s) ≡ drop n s
lent_end n s = take_all (length s - n) (drop n s) (let l = length-drop n s in omega arith)

-- sides that are not entered
pub none_kept : (a b row : List ℕ) (count : ℕ) → count ≤ length row → min (length a) (length b) ≡ 0
    → Keeps (take count row ++ found_in (partition a b)) row row (Ok count)
none_kept a b row count w q =
    keeping_end
    (subst (λ l. Keeping (take count row ++ found_in (partition a b)) row row count l) (none_found a b q) (keeping_start row count (found_in (partition a b)) w))

module _ {a b : List ℕ} {s : Split} (e : Entered a b) (h : Splits a b s) (row : List ℕ) (count : ℕ) (w : count ≤ length row) where
  -- what was written before, and the answers
  abbrev pub whole : List ℕ
  whole = take count row ++ found_in (partition a b)

  due : Keeping whole row row count (found_below e h ++ (pivot_in s ++ found_above e h))
  due = subst (λ l. Keeping whole row row count l) (found_split e h) (keeping_start row count (found_in (partition a b)) w)

  -- no answer is below the pivot where a side below it is empty, and none above it where a side above it is
  pub not_below : min s.first.below s.second.below ≡ 0 → Keeps (take count row ++ found_below e h) row row (Ok count)
  not_below q = none_kept _ _ row count w (below_length e h ∙ q)

  pub not_above : {row₂ : List ℕ} {m : ℕ} → Keeping whole row row₂ m (found_above e h) → min (length a - s.first.above) (length b - s.second.above) ≡ 0
      → Keeps whole row row₂ (Ok m)
  not_above {row₂ = row₂} {m = m} k q = keeping_end (subst (λ l. Keeping whole row row₂ m l) (none_found _ _ (above_length e h ∙ q)) k)

  module _ (row₁ : List ℕ) where
    pub after_below : (n : ℕ) → Keeps (take count row ++ found_below e h) row row₁ (Ok n) → Keeping whole row row₁ n (pivot_in s ++ found_above e h)
    after_below n k = keeping_on (found_below e h) (pivot_in s ++ found_above e h) row₁ due k

    pub full_below : (x : Reason) → Keeps (take count row ++ found_below e h) row row₁ (Err x) → Keeps whole row row₁ (Err x)
    full_below x k = keeping_cut (found_below e h) (pivot_in s ++ found_above e h) row₁ due k

    module _ (n : ℕ) (k : Keeping whole row row₁ n (pivot_in s ++ found_above e h)) (row₂ : List ℕ) where
      pub after_pivot : (m : ℕ) → Keeps (take n row₁ ++ pivot_in s) row₁ row₂ (Ok m) → Keeping whole row row₂ m (found_above e h)
      after_pivot m g = keeping_on (pivot_in s) (found_above e h) row₂ k g

      pub full_pivot : (x : Reason) → Keeps (take n row₁ ++ pivot_in s) row₁ row₂ (Err x) → Keeps whole row row₂ (Err x)
      full_pivot x g = keeping_cut (pivot_in s) (found_above e h) row₂ k g

  pub after_above : {row₂ : List ℕ} {m : ℕ} → Keeping whole row row₂ m (found_above e h) → (row₃ : List ℕ) (r : Result ℕ Reason)
      → Keeps (take m row₂ ++ found_above e h) row₂ row₃ r → Keeps whole row row₃ r
  after_above k row₃ r g = keeping_last row₃ r k g
