-- The pivot written after so many answers, if it is an answer. Assumes nothing.
use Prim.Native.Nat.{ℕ, ◌+◌, ◌≤◌}
use borrow.Author.Tests.{eq-eqb, ne_eqb}
use lib.Dec.{eqb}
use lib.ListN.{length, take, set}
use mathlib.Core.Bool.{true, false}
use mathlib.Core.List.{List, [], ◌∷◌, ◌++◌}
use mathlib.Core.Logic.{⊎_elim, ◌≢◌}
use mathlib.Core.Path.{◌≡◌, subst}
use native.Mathlib.Numerals.{add-one}
use native.Mathlib.Omega.{arith}
use Rattle.model.proofs.Tests.{both}
use Rattle.row_fill.proofs.Keeping.{Keeping, keeping_start, keeping_end, keeping_full, keeping_put}
use Rattle.row_fill.specs.Keeps.{Keeps}
use Rattle.refusal.specs.declared.Reason.TheVariants.{AnswersFull}
use Rattle.std.specs.Prelude.{Ok, Err}
use Rattle.pair_partition.specs.Sides.{pivot_in}
use Rattle.pair_partition.specs.declared.Split.{Split}

module _ (s : Split) where
  pub not_first : s.first.above ≡ s.first.below → pivot_in s ≡ []
  unfolding pivot_in
  not_first e = rw (eq-eqb s.first.above s.first.below e, pivot_in)

  pub not_second : s.second.above ≡ s.second.below → pivot_in s ≡ []
  unfolding pivot_in
  not_second e =
      ⊎_elim
      (λ (q : eqb s.first.above s.first.below ≡ true). rw (q, pivot_in))
      (λ (q : eqb s.first.above s.first.below ≡ false). rw (q, eq-eqb s.second.above s.second.below e, pivot_in))
      (both (eqb s.first.above s.first.below))

  pub in_both : s.first.above ≢ s.first.below → s.second.above ≢ s.second.below → pivot_in s ≡ s.pivot ∷ []
  unfolding pivot_in
  in_both e f = rw (ne_eqb s.first.above s.first.below e, ne_eqb s.second.above s.second.below f, pivot_in)

  module _ (row : List ℕ) (count : ℕ) (h : count ≤ length row) where
    due : {l : List ℕ} → pivot_in s ≡ l → Keeping (take count row ++ pivot_in s) row row count l
    due e = subst (λ l. Keeping (take count row ++ pivot_in s) row row count l) e (keeping_start row count (pivot_in s) h)

    pub put_none : pivot_in s ≡ [] → Keeps (take count row ++ pivot_in s) row row (Ok count)
    put_none e = keeping_end (due e)

    pub put_full : pivot_in s ≡ s.pivot ∷ [] → count ≡ length row → Keeps (take count row ++ pivot_in s) row row (Err AnswersFull)
    put_full e l = keeping_full (due e) l

    pub put_one : pivot_in s ≡ s.pivot ∷ [] → count ≢ length row → Keeps (take count row ++ pivot_in s) row (set row count s.pivot) (Ok (count + 1))
    put_one e l = rw (add-one count) (keeping_end (keeping_put (due e) (omega arith)))
