-- The split of two lists, what the partition does at it, and the shorter lengths of the sides: at most half, so that each has fewer binary digits. Assumes nothing.
use Prim.Native.Nat.{ℕ, zero, suc, ◌+◌, ◌/◌, ◌≤◌, ◌<◌, min}
use borrow.Author.Tests.{le-leb, lt-leb, eq-eqb, ne_eqb}
use lib.ListN.{length, get_or, take, drop, length-take, length-drop}
use lib.Seq.{drop-cons}
use mathlib.Core.List.{List}
use mathlib.Core.Logic.{⊎_elim, ◌≢◌}
use mathlib.Core.Path.{◌≡◌, refl, sym, ap₂, ◌∙◌}
use native.Mathlib.Omega.{arith}
use Rattle.insertion_rank.proofs.Passed.{passed_same}
use Rattle.insertion_rank.specs.Passed.{passed_over}
use Rattle.model.proofs.Digits.{digits_above, digits_least, below_digits}
use Rattle.model.proofs.From.{rank_le}
use Rattle.model.proofs.Tests.{lt_or_le, eq_or_ne}
use Rattle.model.specs.Compared.{digits}
use Rattle.model.specs.Rows.{Ordered}
use Rattle.model.specs.Runs.{rank}
use Rattle.pair_model.proofs.Seeking.{sought_rank}
use Rattle.pair_model.specs.Pair.{middle, sought_in, split_of, pivot_of, Partition, not_entered, split_at, partition_by, partition_within, partition}

-- ---- halves

pub half_digits : (n m : ℕ) → 0 < n → m ≤ n / 2 → suc (digits m) ≤ digits n
half_digits n m h l = go (digits n) refl
  where
    go : (d : ℕ) → digits n ≡ d → suc (digits m) ≤ d
    go zero e = let b = below_digits 0 n h in absurd (omega arith)
    go (suc d) e = let a = rw e at (digits_above n) in let i = digits_least m d (omega arith) in omega arith

module _ (s : List ℕ) where
  -- what stands before the middle number, and after it
  front_half : length (take (length s / 2) s) ≤ length s / 2
  front_half = omega (arith, length-take (length s / 2) s)

  middle_passed : 0 < length s → passed_over (get_or s (length s / 2) 0) (drop (length s / 2) s) ≡ drop (suc (length s / 2)) s
  middle_passed h = rw (drop-cons s (length s / 2) 0 (omega arith)) (passed_same _ _ _ refl)

  end_half : 0 < length s → suc (length s / 2 + length (passed_over (get_or s (length s / 2) 0) (drop (length s / 2) s))) ≡ length s
  end_half h = rw (middle_passed h) (omega (arith, length-drop (suc (length s / 2)) s))

-- ---- the split

module _ (a b : List ℕ) where
  -- whichever list gives the pivot
  first_gives : length a ≤ length b
      → split_of a b ≡ record { pivot = get_or a (length a / 2) 0; first = length a / 2; second = sought_in (get_or a (length a / 2) 0) b }
  unfolding split_of middle
  first_gives h = rw (le-leb (length a) (length b) h, split_of)

  second_gives : length b < length a
      → split_of a b ≡ record { pivot = get_or b (length b / 2) 0; first = sought_in (get_or b (length b / 2) 0) a; second = length b / 2 }
  unfolding split_of middle
  second_gives h = rw (lt-leb (length a) (length b) h, split_of)

  pub split_of_first : {y : ℕ} → Ordered y b → length a ≤ length b
      → split_of a b ≡ record { pivot = get_or a (length a / 2) 0; first = length a / 2; second = rank (get_or a (length a / 2) 0) b }
  split_of_first o h = rw (first_gives h, sought_rank (get_or a (length a / 2) 0) b o)

  pub split_of_second : {x : ℕ} → Ordered x a → length b < length a
      → split_of a b ≡ record { pivot = get_or b (length b / 2) 0; first = rank (get_or b (length b / 2) 0) a; second = length b / 2 }
  split_of_second o h = rw (second_gives h, sought_rank (get_or b (length b / 2) 0) a o)

  pub split_inside : {x y : ℕ} → Ordered x a → Ordered y b → 0 < min (length a) (length b)
      → ((split_of a b).first ≤ length a) × ((split_of a b).second ≤ length b)
  split_inside p q h =
      ⊎_elim
      (λ (l : length b < length a). rw (split_of_second p l) (rank_le (get_or b (length b / 2) 0) a, omega arith))
      (λ (l : length a ≤ length b). rw (split_of_first q l) (omega arith, rank_le (get_or a (length a / 2) 0) b))
      (lt_or_le (length b) (length a))

  -- the list that gives the pivot is halved
  pub below_half : 0 < min (length a) (length b)
      → min (length (take (split_of a b).first a)) (length (take (split_of a b).second b)) ≤ min (length a) (length b) / 2
  below_half h =
      ⊎_elim
      (λ (l : length b < length a). rw (second_gives l) (omega (arith, front_half b)))
      (λ (l : length a ≤ length b). rw (first_gives l) (omega (arith, front_half a)))
      (lt_or_le (length b) (length a))

  pub above_half : 0 < min (length a) (length b)
      → min (length (passed_over (split_of a b).pivot (drop (split_of a b).first a))) (length (passed_over (split_of a b).pivot (drop (split_of a b).second b)))
      ≤ min (length a) (length b) / 2
  above_half h =
      ⊎_elim
      (λ (l : length b < length a). rw (second_gives l) (omega (arith, end_half b (omega arith))))
      (λ (l : length a ≤ length b). rw (first_gives l) (omega (arith, end_half a (omega arith))))
      (lt_or_le (length b) (length a))

  -- and its middle number is in neither of the sides
  pub sides_fewer : 0 < min (length a) (length b)
      → min (length (take (split_of a b).first a)) (length (take (split_of a b).second b))
      + min (length (passed_over (split_of a b).pivot (drop (split_of a b).first a))) (length (passed_over (split_of a b).pivot (drop (split_of a b).second b)))
      < min (length a) (length b)
  sides_fewer h =
      ⊎_elim
      (λ (l : length b < length a). rw (second_gives l) (omega (arith, front_half b, end_half b (omega arith))))
      (λ (l : length a ≤ length b). rw (first_gives l) (omega (arith, front_half a, end_half a (omega arith))))
      (lt_or_le (length b) (length a))

-- ---- the partition

module _ (sides : List ℕ → List ℕ → Partition) (a b : List ℕ) where
  pub by_none : min (length a) (length b) ≡ 0 → partition_by sides a b ≡ not_entered
  unfolding partition_by
  by_none e = rw (eq-eqb (min (length a) (length b)) 0 e, partition_by)

  pub by_split : 0 < min (length a) (length b) → partition_by sides a b
      ≡ split_at (sides (take (split_of a b).first a) (take (split_of a b).second b)) (pivot_of (split_of a b) a b)
      (sides (passed_over (split_of a b).pivot (drop (split_of a b).first a)) (passed_over (split_of a b).pivot (drop (split_of a b).second b)))
  unfolding partition_by
  by_split h = rw (ne_eqb (min (length a) (length b)) 0 (omega arith), partition_by)

-- so deep or deeper is the same, once it is as deep as the shorter length
same_within : (f g : ℕ) (a b : List ℕ) → min (length a) (length b) ≤ f → min (length a) (length b) ≤ g → partition_within f a b ≡ partition_within g a b
unfolding partition_within
same_within zero zero a b h k = refl
same_within zero (suc g) a b h k = sym (by_none (partition_within g) a b (omega arith))
same_within (suc f) zero a b h k = by_none (partition_within f) a b (omega arith)
same_within (suc f) (suc g) a b h k =
    ⊎_elim
    (λ (z : min (length a) (length b) ≡ 0). by_none (partition_within f) a b z ∙ sym (by_none (partition_within g) a b z))
    (λ (z : min (length a) (length b) ≢ 0).
    let p : 0 < min (length a) (length b) = omega arith in
    let l = below_half a b p in
    let u = above_half a b p in
    by_split (partition_within f) a b p
    ∙ (ap₂ (λ below above. split_at below (pivot_of (split_of a b) a b) above)
    (same_within f g _ _ (omega arith) (omega arith))
    (same_within f g _ _ (omega arith) (omega arith))
    ∙ sym (by_split (partition_within g) a b p)))
    (eq_or_ne (min (length a) (length b)) 0)

module _ (a b : List ℕ) where
  -- the partition is that with one more
  one_deeper : partition a b ≡ partition_by (partition_within (min (length a) (length b))) a b
  unfolding partition partition_within
  one_deeper = same_within (min (length a) (length b)) (suc (min (length a) (length b))) a b (omega arith) (omega arith)

  pub partition_none : min (length a) (length b) ≡ 0 → partition a b ≡ not_entered
  partition_none e = one_deeper ∙ by_none _ a b e

  pub partition_split : 0 < min (length a) (length b) → partition a b
      ≡ split_at (partition (take (split_of a b).first a) (take (split_of a b).second b)) (pivot_of (split_of a b) a b)
      (partition (passed_over (split_of a b).pivot (drop (split_of a b).first a)) (passed_over (split_of a b).pivot (drop (split_of a b).second b)))
  unfolding partition
  partition_split h =
      let l = below_half a b h in
      let u = above_half a b h in
      one_deeper
      ∙ (by_split _ a b h
      ∙ ap₂ (λ below above. split_at below (pivot_of (split_of a b) a b) above)
      (same_within _ _ _ _ (omega arith) (omega arith))
      (same_within _ _ _ _ (omega arith) (omega arith)))
