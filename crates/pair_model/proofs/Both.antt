-- The answers of the partition of two lists that rise: all the numbers that both have, and no others, rising, each once. At a split the numbers below the pivot stand
-- in front of it in both lists, and those above it after it. Assumes nothing.
use Prim.Native.Nat.{ℕ, zero, suc, ◌/◌, ◌≤◌, ◌<◌, min}
use lib.ListN.{length, get_or, take, drop}
use mathlib.Core.Bool.{true, false, ◌&&◌}
use mathlib.Core.List.Memᴰ
use mathlib.Core.List.{List, [], ◌∷◌, ◌++◌, Memᴰ}
use mathlib.Core.Logic.{◌⊎◌, inl, inr, ⊎_elim, ◌≢◌, ◌↔◌}
use mathlib.Core.Path.{◌≡◌, refl, sym}
use native.Mathlib.Omega.{arith}
use Rattle.insertion_rank.specs.Passed.{begins_with, passed_over}
use Rattle.model.proofs.Alone.{rise_unrisen}
use Rattle.model.proofs.From.{rise_bin, rank_pass, rank_stop}
use Rattle.model.proofs.Ordered.{ordered_at, rise_ordered}
use Rattle.model.proofs.Tests.{both, lt_or_le, eq_or_ne, and_true}
use Rattle.model.specs.Demands.{Lists}
use Rattle.model.specs.Rows.{Rise, rise_nil, rise_cons}
use Rattle.model.specs.Runs.{rank}
use Rattle.pair_model.proofs.Sides.{rise_weaken, rise_take, rise_drop, rise_passed, Around, around}
use Rattle.pair_model.proofs.Splitting.{split_of_first, split_of_second, partition_none, partition_split, below_half, above_half}
use Rattle.pair_model.specs.Pair.{Split, split_of, pivot_of, partition, found_in}

-- ---- the split

-- in a list that rises so many numbers are below one as stand before it
rank_at : {x : ℕ} (s : List ℕ) → Rise x s → (i : ℕ) → i < length s → rank (get_or s i 0) s ≡ i
rank_at [] r i h = absurd (omega arith)
rank_at (y ∷ s) r zero h = rank_stop y y s (omega arith)
rank_at (y ∷ s) (rise_cons l u r) (suc i) h =
    let k : i < length s = omega arith in
    rw (rank_pass (get_or s i 0) y s (ordered_at s (rise_ordered r) i k)) (omega (arith, rank_at s r i k))

pub split_ranks : (a b : List ℕ) {x y : ℕ} → Rise x a → Rise y b → 0 < min (length a) (length b)
    → ((split_of a b).first ≡ rank (split_of a b).pivot a) × ((split_of a b).second ≡ rank (split_of a b).pivot b)
split_ranks a b p q h =
    ⊎_elim
    (λ (l : length b < length a).
    rw (split_of_second a b (rise_ordered p) l) (refl, omega (arith, rank_at b q (length b / 2) (omega arith))))
    (λ (l : length a ≤ length b).
    rw (split_of_first a b (rise_ordered q) l) (omega (arith, rank_at a p (length a / 2) (omega arith)), refl))
    (lt_or_le (length b) (length a))

-- ---- what is found

-- all that two lists both have, rising
record Found (a b found : List ℕ) : Type 0 where
  all : (z : ℕ) → Memᴰ z found ↔ (Memᴰ z a × Memᴰ z b)
  rise : Rise 0 found

rise_above : {v x : ℕ} {s : List ℕ} → Rise x s → ((z : ℕ) → Memᴰ z s → v ≤ z) → Rise v s
rise_above rise_nil h = rise_nil
rise_above (rise_cons {x = y} l u r) h = rise_cons (h y (Memᴰ.head refl)) u r

rise_append : {v x : ℕ} {s : List ℕ} (t : List ℕ) → Rise x s → x ≤ v → ((z : ℕ) → Memᴰ z s → z < v) → Rise v t → Rise x (s ++ t)
rise_append t rise_nil h b q = rise_weaken h q
rise_append t (rise_cons {x = y} l u r) h b q =
    rise_cons l u (rise_append t r (b y (Memᴰ.head refl)) (λ z m. b z (Memᴰ.tail m)) q)

-- split at a pivot
module _ (s : Split) (a b : List ℕ) (p : Rise 0 a) (e : Around s.pivot s.first a) (f : Around s.pivot s.second b) where
  pivot_cases : (pivot_of s a b ≡ []) ⊎ ((pivot_of s a b ≡ s.pivot ∷ []) × Memᴰ s.pivot a × Memᴰ s.pivot b)
  unfolding pivot_of
  pivot_cases =
      let first = begins_with s.pivot (drop s.first a) in
      let second = begins_with s.pivot (drop s.second b) in
      ⊎_elim
      (λ (t : (first && second) ≡ true). let d = and_true first second t in inr (rw (t, pivot_of), e.here.0 d.0, f.here.0 d.1))
      (λ (t : (first && second) ≡ false). inl (rw (t, pivot_of)))
      (both (first && second))

  pivot_mem : {z : ℕ} → Memᴰ z (pivot_of s a b) → Memᴰ z a × Memᴰ z b
  pivot_mem m =
      ⊎_elim
      (λ n. absurd (Memᴰ.not-nil (rw n at m)))
      (λ h. let i = Memᴰ.eq_of_singleton (rw h.0 at m) in (Memᴰ.cast i h.1, Memᴰ.cast i h.2))
      pivot_cases

  mem_pivot : {z : ℕ} → z ≡ s.pivot → Memᴰ z a × Memᴰ z b → Memᴰ z (pivot_of s a b)
  unfolding pivot_of
  mem_pivot i t = rw (e.here.1 (Memᴰ.cast (sym i) t.0), f.here.1 (Memᴰ.cast (sym i) t.1), pivot_of) (Memᴰ.head i)

  module _ {below above : List ℕ} (l : Found (take s.first a) (take s.second b) below)
      (u : Found (passed_over s.pivot (drop s.first a)) (passed_over s.pivot (drop s.second b)) above) where
    above_rises : Rise (suc s.pivot) above
    above_rises = rise_above u.rise (λ z m. ((e.above z).0 ((u.all z).0 m).0).1)

    from_pivot : Rise s.pivot (pivot_of s a b ++ above)
    from_pivot =
        let o : s.pivot ≤ s.pivot = omega arith in
        ⊎_elim
        (λ n. rw n (rise_weaken (omega arith) above_rises))
        (λ h. rw h.0 (rise_cons o (rise_bin p h.1) above_rises))
        pivot_cases

    split_mem : (z : ℕ) → Memᴰ z (below ++ (pivot_of s a b ++ above)) → Memᴰ z a × Memᴰ z b
    split_mem z m =
        ⊎_elim
        (λ k. let t = (l.all z).0 k in (((e.below z).0 t.0).0, ((f.below z).0 t.1).0))
        (λ k.
        ⊎_elim
        (λ i. pivot_mem i)
        (λ i. let t = (u.all z).0 i in (((e.above z).0 t.0).0, ((f.above z).0 t.1).0))
        (Memᴰ.append_cases (pivot_of s a b) k))
        (Memᴰ.append_cases below m)

    mem_split : (z : ℕ) → Memᴰ z a × Memᴰ z b → Memᴰ z (below ++ (pivot_of s a b ++ above))
    mem_split z t =
        ⊎_elim
        (λ (h : z < s.pivot). Memᴰ.append_left (pivot_of s a b ++ above) ((l.all z).1 ((e.below z).1 (t.0, h), (f.below z).1 (t.1, h))))
        (λ (h : s.pivot ≤ z).
        Memᴰ.append_right below
        (⊎_elim
        (λ (i : z ≡ s.pivot). Memᴰ.append_left above (mem_pivot i t))
        (λ (i : z ≢ s.pivot).
        let k : s.pivot < z = omega arith in
        Memᴰ.append_right (pivot_of s a b) ((u.all z).1 ((e.above z).1 (t.0, k), (f.above z).1 (t.1, k))))
        (eq_or_ne z s.pivot)))
        (lt_or_le z s.pivot)

    found_split : Found a b (below ++ (pivot_of s a b ++ above))
    found_split =
        record {
          all = λ z. (split_mem z, mem_split z);
          rise = rise_append (pivot_of s a b ++ above) l.rise (omega arith) (λ z m. ((e.below z).0 ((l.all z).0 m).0).1) from_pivot;
        }

mem_length : {z : ℕ} (s : List ℕ) → Memᴰ z s → 0 < length s
mem_length [] m = absurd (Memᴰ.not-nil m)
mem_length (x ∷ s) m = omega arith

none_found : (a b : List ℕ) → min (length a) (length b) ≡ 0 → Found a b (found_in (partition a b))
unfolding found_in
none_found a b e =
    rw (partition_none a b e)
    (record {
      all = λ z. (λ m. absurd (Memᴰ.not-nil m), λ t. absurd (omega (arith, mem_length a t.0, mem_length b t.1)));
      rise = rise_nil;
    })

found_within : (n : ℕ) (a b : List ℕ) → min (length a) (length b) ≤ n → Rise 0 a → Rise 0 b → Found a b (found_in (partition a b))
unfolding found_in
found_within zero a b h p q = none_found a b (omega arith)
found_within (suc n) a b h p q =
    ⊎_elim
    (λ (z : min (length a) (length b) ≡ 0). none_found a b z)
    (λ (z : min (length a) (length b) ≢ 0).
    let l : 0 < min (length a) (length b) = omega arith in
    let s = split_of a b in
    let e = split_ranks a b p q l in
    rw (partition_split a b l)
    (found_split s a b p (rw e.0 (around s.pivot a p)) (rw e.1 (around s.pivot b q))
    (found_within n (take s.first a) (take s.second b) (omega (arith, below_half a b l)) (rise_take s.first a p) (rise_take s.second b q))
    (found_within n (passed_over s.pivot (drop s.first a)) (passed_over s.pivot (drop s.second b)) (omega (arith, above_half a b l))
    (rise_passed s.pivot _ (rise_drop s.first a p)) (rise_passed s.pivot _ (rise_drop s.second b q)))))
    (eq_or_ne (min (length a) (length b)) 0)

pub found_both : {x y : ℕ} (a b : List ℕ) → Rise x a → Rise y b → Lists (λ z. Memᴰ z a × Memᴰ z b) (found_in (partition a b))
found_both a b p q =
    let f = found_within (min (length a) (length b)) a b (omega arith) (rise_weaken (omega arith) p) (rise_weaken (omega arith) q) in
    record { all = f.all; rising = rise_unrisen 0 f.rise }
