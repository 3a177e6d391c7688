-- The place of a run's first bin: it lies in the run, whose bins are the numbers from there on, and in every front that holds the run's zeros. Assumes nothing.
use Prim.Native.Nat.{ℕ, zero, suc, ◌+◌, ◌-◌, ◌≤◌}
use lib.ListN.{take}
use mathlib.Core.List.{List, [], ◌∷◌}
use mathlib.Core.Logic.{⊎_elim}
use mathlib.Core.Path.{◌≡◌, refl, sym, ap, ◌∙◌, subst}
use native.Mathlib.Omega.{arith}
use Rattle.model.proofs.FirstChecks.{run_ordered}
use Rattle.model.proofs.From.{rank_nil, rank_pass, rank_stop, rank_le, drop_rank}
use Rattle.model.proofs.Ordered.{ordered_take}
use Rattle.model.proofs.Slices.{part_length, drop_part, take_part}
use Rattle.model.proofs.Tests.{lt_or_le}
use Rattle.model.specs.Rows.{Ordered}
use Rattle.model.specs.Runs.{first_bin, slice, from, rank}
use Rattle.first_bin.specs.Lent.{LentAt, first_bin_at}

-- a front that holds all numbers below v has the same rank
rank_front : (v n : ℕ) (s : List ℕ) → rank v s ≤ n → rank v (take n s) ≡ rank v s
rank_front v zero s h = let e : rank v s ≡ 0 = omega arith in rank_nil v ∙ sym e
rank_front v (suc n) [] h = refl
rank_front v (suc n) (x ∷ s) h =
    ⊎_elim
    (λ q. rank_pass v x (take n s) q ∙ (ap suc (rank_front v n s (let e = rank_pass v x s q in omega arith)) ∙ sym (rank_pass v x s q)))
    (λ q. rank_stop v x (take n s) q ∙ sym (rank_stop v x s q))
    (lt_or_le x v)

module _ (numbers : List ℕ) (a e : ℕ) where
  -- its bins are the numbers from there on
  pub bins_from : from first_bin (slice numbers a e) ≡ slice numbers (first_bin_at numbers a e) e
  unfolding first_bin_at
  bins_from = sym (drop_rank first_bin (slice numbers a e)) ∙ drop_part (rank first_bin (slice numbers a e)) a e numbers

  module _ (l : LentAt numbers a e) where
    pub first_inside : first_bin_at numbers a e ≤ e
    unfolding first_bin_at
    first_inside =
        let k = rank_le first_bin (slice numbers a e) in
        let n = part_length a e numbers l.inside in
        let o = l.order in
        omega arith

    module _ (n : ℕ) (h : rank first_bin (slice numbers a e) ≤ n) (k : n ≤ e - a) where
      -- a front of n numbers, which holds the zeros, is in order
      pub front_ordered : Ordered 0 (slice numbers a (a + n))
      front_ordered = subst (λ s. Ordered 0 s) (take_part n a e numbers k) (ordered_take n (slice numbers a e) (run_ordered a (slice numbers a e) l.risen))

      -- and the first bin stands after as many numbers of it as are zeros
      pub front_first : a + rank first_bin (slice numbers a (a + n)) ≡ first_bin_at numbers a e
      unfolding first_bin_at
      front_first = ap (λ s. a + rank first_bin s) (sym (take_part n a e numbers k)) ∙ ap (λ x. a + x) (rank_front first_bin n (slice numbers a e) h)
