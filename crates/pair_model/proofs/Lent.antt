-- Two lent runs that pass the first checks: where they stand, that they are in order, and that their bins rise. Assumes nothing.
use Prim.Native.Nat.{ℕ, ◌≤◌}
use lib.ListN.{length, get_or}
use mathlib.Core.List.{List, [], ◌∷◌}
use mathlib.Core.Path.{◌≡◌, refl, sym, ap, ◌∙◌}
use native.Mathlib.Omega.{arith}
use Rattle.first_bin.specs.Lent.{LentAt}
use Rattle.model.proofs.FirstChecks.{then_first, then_second, refuse_if_law, slice_fits, bins_rise, lists_rise, not_fallen, eqb_not, Listed, lists_passed}
use Rattle.model.specs.Demands.{Fits}
use Rattle.model.specs.Refusals.{passed, last_end, list_checks}
use Rattle.model.specs.Rows.{Rise}
use Rattle.model.specs.Runs.{first_bin, past_bin, most_numbers, slice, from, runs_from, runs}
use Rattle.pair_model.specs.Pair.{partition, partition_of, pair_checks}

two_numbers : (s : List ℕ) → length s ≡ 2 → s ≡ get_or s 0 0 ∷ get_or s 1 0 ∷ []
two_numbers [] h = absurd (omega arith)
two_numbers (x ∷ []) h = absurd (omega arith)
two_numbers (x ∷ y ∷ []) h = refl
two_numbers (x ∷ y ∷ z ∷ s) h = absurd (omega arith)

two_runs : (numbers : List ℕ) (e f : ℕ)
    → partition_of (runs numbers (e ∷ f ∷ [])) ≡ partition (from first_bin (slice numbers 0 e)) (from first_bin (slice numbers e f))
unfolding partition_of runs runs_from
two_runs numbers e f = refl

two_last : (e f : ℕ) → last_end 0 (e ∷ f ∷ []) ≡ f
unfolding last_end
two_last e f = refl

module _ (numbers ends : List ℕ) (h : pair_checks numbers ends ≡ passed) where
  pub pair_two : length ends ≡ 2
  unfolding pair_checks
  pair_two = eqb_not (length ends) 2 (refuse_if_law _ 1 (length ends) (then_first _ _ h))

  pub pair_lists : list_checks numbers ends ≡ passed
  unfolding pair_checks
  pair_lists = then_second _ _ h

  pub pair_ends : ends ≡ get_or ends 0 0 ∷ get_or ends 1 0 ∷ []
  pair_ends = two_numbers ends pair_two

  pub pair_listed : Listed numbers ends
  pair_listed = lists_passed numbers ends pair_lists

  pub pair_runs : partition_of (runs numbers ends)
      ≡ partition (from first_bin (slice numbers 0 (get_or ends 0 0))) (from first_bin (slice numbers (get_or ends 0 0) (get_or ends 1 0)))
  pair_runs = ap (λ z. partition_of (runs numbers z)) pair_ends ∙ two_runs numbers (get_or ends 0 0) (get_or ends 1 0)

  pub pair_inside : (get_or ends 0 0 ≤ get_or ends 1 0) × (get_or ends 1 0 ≡ length numbers)
  pair_inside =
      let f = (not_fallen 0 0 (get_or ends 0 0) (get_or ends 1 0 ∷ []) (rw pair_ends at pair_listed.ends_rise)).1 in
      ((not_fallen (get_or ends 0 0) 1 (get_or ends 1 0) [] f).0, sym (ap (last_end 0) pair_ends ∙ two_last _ _) ∙ pair_listed.ends_last)

  pub pair_few : length numbers ≤ most_numbers
  pair_few = pair_listed.few_numbers

  -- each run rises after the zeros at its start
  pub pair_lent : LentAt numbers 0 (get_or ends 0 0) × LentAt numbers (get_or ends 0 0) (get_or ends 1 0)
  pair_lent =
      let i = pair_inside in
      let t = pair_two in
      let r = lists_rise 0 numbers ends pair_listed.numbers_rise in (
        record { order = omega arith; inside = omega arith; risen = r 0 (omega arith) },
        record { order = omega arith; inside = omega arith; risen = r 1 (omega arith) },
      )

  pub pair_rise : Fits past_bin numbers
      → (Rise first_bin (from first_bin (slice numbers 0 (get_or ends 0 0)))) × (Rise first_bin (from first_bin (slice numbers (get_or ends 0 0) (get_or ends 1 0))))
  pair_rise fits =
      let l = pair_lent in (
        bins_rise _ _ l.0.risen (slice_fits past_bin 0 (get_or ends 0 0) numbers fits),
        bins_rise _ _ l.1.risen (slice_fits past_bin (get_or ends 0 0) (get_or ends 1 0) numbers fits),
      )
