-- The mask of all runs names each of them. A run has no more bins than numbers, and no more of these than its ends say. So where the first checks pass the call
-- returns a sum that is not below the sum of the bounds over the runs, over all or over those that a mask chooses. Assumes nothing.
use Prim.Native.Nat.{ℕ, suc, ◌+◌, ◌-◌, ◌*◌, ◌/◌, ◌%◌, ◌^◌, ◌≤◌, ◌<◌}
use borrow.Author.Tests.{le-ltb, eq-eqb}
use lib.ListN.{length, drop, length-take}
use lib.Pow.{high, ones_lt, ones_split}
use mathlib.Core.Bool.{true, false}
use mathlib.Core.List.{List, [], ◌∷◌}
use mathlib.Core.Logic.{⊎_elim}
use mathlib.Core.Path.{◌≡◌, refl, sym, ap, ◌∙◌}
use native.Mathlib.Nat.{mul-le-mul_left}
use native.Mathlib.Omega.{arith}
use Rattle.model.specs.Compared.{bound_of, bound_in, bound}
use Rattle.bound.specs.Bound.{Sum, sum_from, every, named, order_checks, end_checks, chosen_end_checks, bound_by, probe_bound, probe_bound_chosen}
use Rattle.model.proofs.Chosen.{chosen_nil, chosen_in, chosen_out}
use Rattle.model.proofs.Count.{total_map}
use Rattle.model.proofs.Digits.{digits_mono}
use Rattle.model.proofs.FirstChecks.{Listed, then_first, then_second, lists_passed, every_run}
use Rattle.model.proofs.From.{from_length}
use Rattle.model.proofs.Masks.{bit_of}
use Rattle.model.proofs.Tests.{both}
use Rattle.model.specs.Refusals.{passed, ◌then◌, refuse_if, refuse_at, last_end, count_check, mask_check, first_checks, weighted_checks, chosen_checks}
use Rattle.model.specs.Runs.{Run, first_bin, most_numbers, slice, from, runs_from, runs, weighted_run, weighted, total, one, bit, names, chosen}

-- ---- all runs

all_bits : (k i : ℕ) → i < k → bit (2 ^ k - 1) i ≡ 1
all_bits k i h =
    let e : suc (k - suc i) + i ≡ k = omega arith in
    let s : 2 ^ k - 1 ≡ (2 ^ suc (k - suc i) - 1) * 2 ^ i + (2 ^ i - 1) = ap (λ x. 2 ^ x - 1) (sym e) ∙ ones_split (suc (k - suc i)) i in
    let q : (2 ^ k - 1) / 2 ^ i ≡ 2 ^ suc (k - suc i) - 1 = ap (λ x. x / 2 ^ i) s ∙ high (2 ^ suc (k - suc i) - 1) i (ones_lt i) in
    let d : 2 ^ suc (k - suc i) ≡ 2 * 2 ^ (k - suc i) = omega arith in
    let p = lib.Pow.pow_pos (k - suc i) in
    bit_of (2 ^ k - 1) i ∙ (ap (λ x. x % 2) q ∙ omega arith)

sum_all : (k d i a : ℕ) (ends : List ℕ) → i + length ends ≤ k → sum_from (named (2 ^ k - 1)) d i a ends ≡ sum_from every d i a ends
unfolding sum_from
sum_all k d i a [] h = refl
sum_all k d i a (e ∷ ends) h =
    let s = sum_all k d (suc i) e ends (omega arith) in
    rw (eq-eqb (bit (2 ^ k - 1) i) 1 (all_bits k i (omega arith))) (omega arith)

pub sum_every : (d : ℕ) (ends : List ℕ) → sum_from (named (2 ^ length ends - 1)) d 0 0 ends ≡ sum_from every d 0 0 ends
sum_every d ends = sum_all (length ends) d 0 0 ends (omega arith)

-- ---- where the first checks pass

-- one run more
bound_cons : (m d : ℕ) (r : Run) (rs : List Run) → bound d (chosen m (r ∷ rs)) ≡ one (names m r) * bound_in d r + bound d (chosen m rs)
unfolding one bound total
bound_cons m d r rs =
    ⊎_elim
    (λ (q : names m r ≡ true). rw (chosen_in m r rs q, q) (omega arith))
    (λ (q : names m r ≡ false). rw (chosen_out m r rs q, q) (omega arith))
    (both (names m r))

bound_mono : (d : ℕ) {m n : ℕ} → m ≤ n → bound_of d m ≤ bound_of d n
unfolding bound_of
bound_mono d h = mul-le-mul_left (2 * d) (digits_mono h)

-- its bins are at most as many as the numbers between its ends
bins_few : (a e : ℕ) (numbers : List ℕ) → length (from first_bin (slice numbers a e)) ≤ e - a
bins_few a e numbers =
    let k = from_length first_bin (slice numbers a e) in
    let n = length-take (e - a) (drop a numbers) in
    omega arith

sum_from_law : (m d i a : ℕ) (numbers ends : List ℕ) → bound d (chosen m (runs_from i a numbers ends)) ≤ sum_from (named m) d i a ends
unfolding sum_from bound total runs_from names bound_in
sum_from_law m d i a numbers [] = let e = ap (bound d) (chosen_nil m) in omega arith
sum_from_law m d i a numbers (e ∷ ends) =
    let s = sum_from_law m d (suc i) e numbers ends in
    let r : Run = record { label = i; weight = 1; bins = from first_bin (slice numbers a e) } in
    let c = bound_cons m d r (runs_from (suc i) e numbers ends) in
    let k = mul-le-mul_left (one (named m i)) (bound_mono d (bins_few a e numbers)) in
    omega arith

-- The sum that is made from the ends is never smaller than the bound over the runs with these ends.
pub sum_chosen : (m d : ℕ) (numbers ends : List ℕ) → bound d (chosen m (runs numbers ends)) ≤ sum_from (named m) d 0 0 ends
unfolding runs
sum_chosen m d numbers ends = sum_from_law m d 0 0 numbers ends

pub sum_bound : (d : ℕ) (numbers ends : List ℕ) → bound d (runs numbers ends) ≤ sum_from every d 0 0 ends
sum_bound d numbers ends =
    let s = sum_chosen (2 ^ length ends - 1) d numbers ends in
    let c = ap (bound d) (every_run numbers ends) in
    let e = sum_every d ends in
    omega arith

order_passed : (numbers ends : List ℕ) → Listed numbers ends → order_checks ends ≡ passed
unfolding order_checks ◌then◌ refuse_if refuse_at
order_passed numbers ends p =
    let e = p.ends_last in
    let f = p.few_numbers in
    let l : last_end 0 ends ≤ most_numbers = omega arith in
    rw (p.ends_rise, le-ltb most_numbers (last_end 0 ends) l)

-- what the first checks give
pieces : (t : ℕ) (numbers ends : List ℕ) → first_checks numbers ends t ≡ passed → (count_check ends ≡ passed) × Listed numbers ends
unfolding first_checks
pieces t numbers ends h = (then_first _ _ h, lists_passed numbers ends (then_second _ _ (then_second _ _ h)))

chosen_pieces : (m t : ℕ) (numbers ends : List ℕ) → chosen_checks numbers ends m t ≡ passed
    → (count_check ends ≡ passed) × (mask_check (length ends) m 0 ≡ passed) × Listed numbers ends
unfolding chosen_checks
chosen_pieces m t numbers ends h =
    let r = then_second _ _ h in
    (then_first _ _ h, then_first _ _ r, lists_passed numbers ends (then_second _ _ (then_second _ _ r)))

weighted_pieces : (wanted : ℕ) (numbers ends weights : List ℕ) → weighted_checks numbers ends weights wanted ≡ passed → (count_check ends ≡ passed) × Listed numbers ends
unfolding weighted_checks
weighted_pieces wanted numbers ends weights h =
    (then_first _ _ h, lists_passed numbers ends (then_second _ _ (then_second _ _ (then_second _ _ h))))

-- For lists that pass the first checks the call returns a sum, and this is never smaller than the bound over the runs, which counts bins, whatever they weigh.
listed_bound : (d : ℕ) (numbers ends : List ℕ) → (count_check ends ≡ passed) × Listed numbers ends
    → (sum : ℕ) × (probe_bound ends d ≡ Sum sum) × (bound d (runs numbers ends) ≤ sum)
unfolding probe_bound end_checks bound_by ◌then◌
listed_bound d numbers ends p = (sum_from every d 0 0 ends, rw (p.0, order_passed numbers ends p.1), sum_bound d numbers ends)

pub bound_passed : (d t : ℕ) (numbers ends : List ℕ) → first_checks numbers ends t ≡ passed
    → (sum : ℕ) × (probe_bound ends d ≡ Sum sum) × (bound d (runs numbers ends) ≤ sum)
bound_passed d t numbers ends h = listed_bound d numbers ends (pieces t numbers ends h)

weighted_same : (d : ℕ) (weights : List ℕ) (rs : List Run) → bound d (weighted weights rs) ≡ bound d rs
unfolding bound bound_in weighted weighted_run
weighted_same d weights rs = total_map (bound_in d) (weighted_run weights) rs

pub weighted_bound_passed : (d wanted : ℕ) (numbers ends weights : List ℕ) → weighted_checks numbers ends weights wanted ≡ passed
    → (sum : ℕ) × (probe_bound ends d ≡ Sum sum) × (bound d (weighted weights (runs numbers ends)) ≤ sum)
weighted_bound_passed d wanted numbers ends weights h =
    let s = listed_bound d numbers ends (weighted_pieces wanted numbers ends weights h) in
    let e = weighted_same d weights (runs numbers ends) in
    let l = s.2 in
    (s.0, s.1, omega arith)

pub chosen_bound_passed : (d m t : ℕ) (numbers ends : List ℕ) → chosen_checks numbers ends m t ≡ passed
    → (sum : ℕ) × (probe_bound_chosen ends m d ≡ Sum sum) × (bound d (chosen m (runs numbers ends)) ≤ sum)
unfolding probe_bound_chosen chosen_end_checks bound_by ◌then◌
chosen_bound_passed d m t numbers ends h =
    let p = chosen_pieces m t numbers ends h in
    (sum_from (named m) d 0 0 ends, rw (p.0, p.1, order_passed numbers ends p.2), sum_chosen m d numbers ends)
