-- Two sides split where the code splits them: the answers of the partition, and the sides below and above the pivot, which are within the lists and rise, and
-- whose shorter length falls. Assumes nothing.
use Prim.Native.Nat.{ℕ, ◌+◌, ◌-◌, ◌/◌, ◌≤◌, ◌<◌, min}
use borrow.Author.Tests.{eq-eqb, ne_eqb}
use lib.Dec.{eqb}
use lib.ListN.{length, get_or, take, drop, length-take, length-drop}
use mathlib.Core.Bool.{true, false}
use mathlib.Core.List.{List, [], ◌++◌}
use mathlib.Core.Logic.{⊎_elim, ◌≢◌}
use mathlib.Core.Path.{◌≡◌, refl, ap, ap₂, ◌∙◌}
use native.Mathlib.Omega.{arith}
use Rattle.insertion_rank.proofs.Passed.{begins_here, begins_end, drop_after}
use Rattle.insertion_rank.specs.Passed.{begins_with, passed_over}
use Rattle.model.proofs.Ordered.{rise_ordered}
use Rattle.model.proofs.Tests.{both, lt_or_le, one_most}
use Rattle.model.specs.Compared.{digits}
use Rattle.model.specs.Runs.{rank, one}
use Rattle.pair_model.proofs.Sides.{rise_take, rise_drop}
use Rattle.pair_model.proofs.Splitting.{half_digits, split_of_first, split_of_second, split_inside, below_half, above_half, partition_none, partition_split}
use Rattle.pair_model.specs.Pair.{middle, split_of, pivot_of, partition, found_in}
use Rattle.pair_partition.specs.Sides.{Entered, MiddleOf, SplitsAt, Splits, pivot_in}
use Rattle.pair_partition.specs.declared.Places.{Places}
use Rattle.pair_partition.specs.declared.Split.{Split}

-- ---- one list

module _ {v place : ℕ} {s : List ℕ} {at : Places} (c : SplitsAt v s place at) where
  drop_above : drop at.above s ≡ passed_over v (drop place s)
  drop_above = rw c.above (drop_after v s place)

  above_inside : place ≤ length s → at.above ≤ length s
  unfolding one
  above_inside h =
      ⊎_elim
      (λ (q : place < length s). let m = one_most (begins_with v (drop place s)) in let e = c.above in omega arith)
      (λ (q : length s ≤ place). let e = c.above ∙ ap (λ b. place + one b) (begins_end v s place q) in omega arith)
      (lt_or_le place (length s))

  -- one number is passed over where the list has the pivot, and none where it does not
  passed_one : begins_with v (drop place s) ≡ true → eqb at.above at.below ≡ false
  unfolding one
  passed_one q =
      let u = c.above ∙ ap (λ b. place + one b) q in
      let l = c.below in
      let n : at.above ≢ at.below = omega arith in
      ne_eqb at.above at.below n

  passed_none : begins_with v (drop place s) ≡ false → eqb at.above at.below ≡ true
  unfolding one
  passed_none q =
      let u = c.above ∙ ap (λ b. place + one b) q in
      let l = c.below in
      let n : at.above ≡ at.below = omega arith in
      eq-eqb at.above at.below n

-- ---- where the pivot comes from

middle_splits : (s : List ℕ) (m : ℕ) → m < length s → SplitsAt (get_or s m 0) s m (record { below = m; above = m + 1 })
unfolding one
middle_splits s m h = record { below = refl; above = rw (begins_here (get_or s m 0) s m h refl, one) }

module _ {a b : List ℕ} (e : Entered a b) {pivot : ℕ} {at other : Places} where
  pub split_first : length a ≤ length b → MiddleOf a pivot at → SplitsAt pivot b (rank pivot b) other
      → Splits a b (record { pivot = pivot; first = at; second = other })
  unfolding middle
  split_first h m c =
      let p = e.some in
      let i : length a / 2 < length a = omega arith in
      let l = split_of_first a b (rise_ordered e.second) h in
      let d = middle_splits a (length a / 2) i in
      record {
        pivot = rw l m.number;
        first = rw l (record { below = m.below; above = m.above ∙ d.above });
        second = rw (l, ← m.number) c;
      }

  pub split_second : length b < length a → MiddleOf b pivot at → SplitsAt pivot a (rank pivot a) other
      → Splits a b (record { pivot = pivot; first = other; second = at })
  unfolding middle
  split_second h m c =
      let p = e.some in
      let i : length b / 2 < length b = omega arith in
      let l = split_of_second a b (rise_ordered e.first) h in
      let d = middle_splits b (length b / 2) i in
      record {
        pivot = rw l m.number;
        first = rw (l, ← m.number) c;
        second = rw l (record { below = m.below; above = m.above ∙ d.above });
      }

-- ---- both lists

pub none_found : (a b : List ℕ) → min (length a) (length b) ≡ 0 → found_in (partition a b) ≡ []
unfolding found_in
none_found a b e = rw (partition_none a b e)

module _ {a b : List ℕ} {s : Split} (e : Entered a b) (h : Splits a b s) where
  inside : ((split_of a b).first ≤ length a) × ((split_of a b).second ≤ length b)
  inside = split_inside a b (rise_ordered e.first) (rise_ordered e.second) e.some

  pub below_within : (s.first.below ≤ length a) × (s.second.below ≤ length b)
  below_within = let i = inside in let f = h.first.below in let g = h.second.below in (omega arith, omega arith)

  pub above_within : (s.first.above ≤ length a) × (s.second.above ≤ length b)
  above_within = (above_inside h.first inside.0, above_inside h.second inside.1)

  pivot_same : pivot_of (split_of a b) a b ≡ pivot_in s
  unfolding pivot_of pivot_in
  pivot_same =
      let v = (split_of a b).pivot in
      let x = drop (split_of a b).first a in
      let y = drop (split_of a b).second b in
      ⊎_elim
      (λ (p : begins_with v x ≡ true).
      ⊎_elim
      (λ (q : begins_with v y ≡ true). rw (p, q, passed_one h.first p, passed_one h.second q, h.pivot, pivot_of, pivot_in))
      (λ (q : begins_with v y ≡ false). rw (p, q, passed_one h.first p, passed_none h.second q, pivot_of, pivot_in))
      (both (begins_with v y)))
      (λ (p : begins_with v x ≡ false). rw (p, passed_none h.first p, pivot_of, pivot_in))
      (both (begins_with v x))

  -- the answers below the pivot, the pivot, and the answers above it
  abbrev pub found_below : List ℕ
  found_below = found_in (partition (take s.first.below a) (take s.second.below b))

  abbrev pub found_above : List ℕ
  found_above = found_in (partition (drop s.first.above a) (drop s.second.above b))

  pub found_split : found_in (partition a b) ≡ found_below ++ (pivot_in s ++ found_above)
  unfolding found_in
  found_split =
      rw (partition_split a b e.some, pivot_same, h.first.below, h.second.below, drop_above h.first, drop_above h.second)

  -- ---- the sides

  pub below_length : min (length (take s.first.below a)) (length (take s.second.below b)) ≡ min s.first.below s.second.below
  below_length = let w = below_within in omega (arith, length-take s.first.below a, length-take s.second.below b)

  pub below_entered : 0 < min s.first.below s.second.below → Entered (take s.first.below a) (take s.second.below b)
  below_entered p =
      let l = below_length in
      record { first = rise_take s.first.below a e.first; second = rise_take s.second.below b e.second; some = omega arith }

  pub below_shorter : min (length (take s.first.below a)) (length (take s.second.below b)) ≤ min (length a) (length b) / 2
  below_shorter = rw (h.first.below, h.second.below) (below_half a b e.some)

  pub above_length : min (length (drop s.first.above a)) (length (drop s.second.above b)) ≡ min (length a - s.first.above) (length b - s.second.above)
  above_length = ap₂ min (length-drop s.first.above a) (length-drop s.second.above b)

  pub above_entered : min (length a - s.first.above) (length b - s.second.above) ≢ 0 → Entered (drop s.first.above a) (drop s.second.above b)
  above_entered p =
      let l = above_length in
      record { first = rise_drop s.first.above a e.first; second = rise_drop s.second.above b e.second; some = omega arith }

  pub above_shorter : min (length (drop s.first.above a)) (length (drop s.second.above b)) ≤ min (length a) (length b) / 2
  above_shorter = rw (drop_above h.first, drop_above h.second) (above_half a b e.some)

  -- a shorter length that is halved has one binary digit less
  pub halved_digits : (n nesting : ℕ) → n ≤ min (length a) (length b) / 2 → digits (min (length a) (length b)) ≤ nesting → (1 ≤ nesting) × (digits n ≤ nesting - 1)
  halved_digits n nesting l d = let p = half_digits (min (length a) (length b)) n e.some l in (omega arith, omega arith)
