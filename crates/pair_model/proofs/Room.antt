-- No more pivots are sought than the shorter list has numbers: at a split it gives one of them, which is in neither of its sides. Each pivot is one answer at most, so a
-- pair has no more answers either, and room for that many is enough. Assumes nothing.
use Prim.Native.Nat.{ℕ, zero, suc, ◌+◌, ◌≤◌, ◌<◌, min}
use lib.ListN.{length, drop, length-append}
use mathlib.Core.Bool.{Bool, true, false, ◌&&◌}
use mathlib.Core.List.Memᴰ
use mathlib.Core.List.{List, [], ◌∷◌, Memᴰ}
use mathlib.Core.Logic.{⊎_elim, ◌≢◌}
use mathlib.Core.Path.{◌≡◌, ◌∙◌}
use native.Mathlib.Omega.{arith}
use Rattle.insertion_rank.specs.Passed.{begins_with}
use Rattle.model.proofs.Enough.{listed_numbers}
use Rattle.model.proofs.FirstChecks.{all_length}
use Rattle.model.proofs.Tests.{eq_or_ne}
use Rattle.model.specs.Refusals.{passed}
use Rattle.model.specs.Runs.{Run, runs, total}
use Rattle.pair_model.proofs.Lent.{pair_two, pair_listed}
use Rattle.pair_model.proofs.Splitting.{sides_fewer, by_none, by_split}
use Rattle.pair_model.proofs.Walked.{filled_whole, pair_filled}
use Rattle.pair_model.specs.Claims.{FewSought, Few, PairRoom}
use Rattle.pair_model.specs.Pair.{Split, split_of, pivot_of, Partition, not_entered, split_at, partition_by, partition_within, partition, found_in, pivots, partition_of, pair_checks, pair}

-- ---- the pivots and the answers

-- no more answers than pivots, and no more pivots than so many
record Counted (n : ℕ) (p : Partition) : Type 0 where
  found : length (found_in p) ≤ pivots p
  sought : pivots p ≤ n

none_counted : (n : ℕ) → Counted n not_entered
unfolding found_in pivots
none_counted n = record { found = omega arith; sought = omega arith }

-- the pivot is one answer or none
pivot_once : (v : ℕ) (t : Bool) → length {A = ℕ} (elim t [ true ↦ v ∷ [] | false ↦ [] ]) ≤ 1
pivot_once v true = omega arith
pivot_once v false = omega arith

-- split at a pivot
split_counted : (s : Split) (a b : List ℕ) (below above : Partition) (l u n : ℕ) → Counted l below → Counted u above → l + u < n
    → Counted n (split_at below (pivot_of s a b) above)
unfolding found_in pivots pivot_of
split_counted s a b below above l u n p q h =
    let o = pivot_once s.pivot (begins_with s.pivot (drop s.first a) && begins_with s.pivot (drop s.second b)) in
    let c = p.found in
    let d = q.found in
    record { found = simp length-append (omega arith); sought = omega (arith, p.sought, q.sought) }

by_counted : (sides : List ℕ → List ℕ → Partition) → ((a b : List ℕ) → Counted (min (length a) (length b)) (sides a b)) → (a b : List ℕ)
    → Counted (min (length a) (length b)) (partition_by sides a b)
by_counted sides i a b =
    ⊎_elim
    (λ (z : min (length a) (length b) ≡ 0). rw (by_none sides a b z) (none_counted _))
    (λ (z : min (length a) (length b) ≢ 0).
    let p : 0 < min (length a) (length b) = omega arith in
    rw (by_split sides a b p) (split_counted (split_of a b) a b _ _ _ _ _ (i _ _) (i _ _) (sides_fewer a b p)))
    (eq_or_ne (min (length a) (length b)) 0)

within_counted : (fuel : ℕ) (a b : List ℕ) → Counted (min (length a) (length b)) (partition_within fuel a b)
unfolding partition_within
within_counted zero a b = none_counted _
within_counted (suc fuel) a b = by_counted (partition_within fuel) (λ c d. within_counted fuel c d) a b

module _ (a b : List ℕ) where
  counted : Counted (min (length a) (length b)) (partition a b)
  unfolding partition
  counted = within_counted (min (length a) (length b)) a b

  pub few_sought : FewSought a b
  few_sought = record { sought = counted.sought }

  pub few_found : Few a b
  few_found = record { few = omega (arith, counted.found, counted.sought) }

-- ---- the call

-- of two runs there are no more answers than either has bins, and so no more than they have together
run_few : (rs : List Run) → length rs ≡ 2 → (r : Run) → Memᴰ r rs → length (found_in (partition_of rs)) ≤ length r.bins
unfolding partition_of
run_few [] e r m = absurd (omega arith)
run_few (p ∷ []) e r m = absurd (omega arith)
run_few (p ∷ q ∷ []) e r m =
    let f = (few_found p.bins q.bins).few in
    ⊎_elim
    (λ (i : r ≡ p). rw i (omega arith))
    (λ k. let i : r ≡ q = Memᴰ.eq_of_singleton k in rw i (omega arith))
    (Memᴰ.cases_cons m)
run_few (p ∷ q ∷ s ∷ rs) e r m = absurd (omega arith)

total_few : (rs : List Run) → length (found_in (partition_of rs)) ≤ total (λ r. length r.bins) rs
unfolding partition_of total found_in
total_few [] = omega arith
total_few (p ∷ []) = omega arith
total_few (p ∷ q ∷ rs) = let f = (few_found p.bins q.bins).few in omega arith

module _ (numbers ends row : List ℕ) where
  room_enough : pair_checks numbers ends ≡ passed → length (found_in (partition_of (runs numbers ends))) ≤ length row → (pair numbers ends row).check ≡ passed
  room_enough h l = rw (pair_filled numbers ends row h) (filled_whole _ row l)

  pub pair_room : PairRoom numbers ends row
  pair_room =
      record {
        either_run = λ h r m l. let f = run_few (runs numbers ends) (all_length numbers ends ∙ pair_two numbers ends h) r m in room_enough h (omega arith);
        all_numbers = λ h l.
            let f = total_few (runs numbers ends) in
            let n = listed_numbers numbers ends (pair_listed numbers ends h) in
            room_enough h (omega arith);
      }
