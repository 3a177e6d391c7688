-- The two runs of a pair as the code lends them: what the first checks say, where their bins stand, and that these rise. Assumes nothing.
use Prim.Native.Nat.{ℕ, ◌-◌}
use lib.ListN.{length, get_or, drop, length-take, length-drop}
use mathlib.Core.List.{List}
use mathlib.Core.Path.{◌≡◌, sym, ap, ◌∙◌}
use native.Mathlib.Omega.{arith}
use Rattle.first_bin.proofs.Places.{bins_from}
use Rattle.first_bin.specs.Lent.{LentAt, first_bin_at}
use Rattle.model.proofs.From.{from_length}
use Rattle.model.specs.Demands.{Fits}
use Rattle.model.specs.Refusals.{passed}
use Rattle.model.specs.Runs.{first_bin, past_bin, slice, from, runs}
use Rattle.pair_model.proofs.Lent.{pair_runs, pair_inside, pair_few, pair_lent, pair_rise}
use Rattle.pair_model.proofs.Sides.{rise_weaken}
use Rattle.pair_model.specs.Pair.{partition, found_in, partition_of, pair_checks}
use Rattle.pair_partition.specs.Sides.{Risen}

-- ---- a run's bins

pub bins_part : (numbers : List ℕ) (start end : ℕ) {first : ℕ} → first ≡ first_bin_at numbers start end
    → slice numbers first end ≡ from first_bin (slice numbers start end)
bins_part numbers start end e = ap (λ f. slice numbers f end) e ∙ sym (bins_from numbers start end)

-- ---- both runs

module _ (numbers ends : List ℕ) (h : pair_checks numbers ends ≡ passed) {middle : ℕ} (e : middle ≡ get_or ends 0 0) where
  last_is : length numbers ≡ get_or ends 1 0
  last_is = sym (pair_inside numbers ends h).1

  pub first_lent : LentAt numbers 0 middle
  first_lent = rw e (pair_lent numbers ends h).0

  pub second_lent : LentAt numbers middle (length numbers)
  second_lent = rw (e, last_is) (pair_lent numbers ends h).1

  pub found_pair : found_in (partition (from first_bin (slice numbers 0 middle)) (from first_bin (slice numbers middle (length numbers))))
      ≡ found_in (partition_of (runs numbers ends))
  found_pair = rw (e, last_is) (ap found_in (sym (pair_runs numbers ends h)))

  pub risen_pair : Fits past_bin numbers → Risen (from first_bin (slice numbers 0 middle)) (from first_bin (slice numbers middle (length numbers)))
  risen_pair fits =
      let r = pair_rise numbers ends h fits in
      let f = pair_few numbers ends h in
      let n = from_length first_bin (slice numbers 0 (get_or ends 0 0)) in
      let t = length-take (get_or ends 0 0 - 0) (drop 0 numbers) in
      let d = length-drop 0 numbers in
      rw (e, last_is) (record { first = rise_weaken (omega arith) r.0; second = rise_weaken (omega arith) r.1; few = omega arith })
