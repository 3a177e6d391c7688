-- Lists and a threshold that pass the first checks: the runs rise, are labelled from 0 on, and can meet the threshold; their number is at most 64. So it is
-- for the runs that a mask chooses, of which all runs are a case.
-- Assumes nothing.
use Prim.Native.Nat.{ℕ, zero, suc, ◌+◌, ◌-◌, ◌/◌, ◌^◌, ◌≤◌, ◌<◌}
use borrow.Author.Tests.{ltb-false, eqb-false, lt-ltb, le-ltb, eq-eqb, ne_eqb}
use lib.Count.{ones, ones-ones}
use lib.Dec.{ltb, eqb}
use lib.ListN.{length, get_or, take, drop}
use mathlib.Core.Bool.{Bool, true, false, not}
use mathlib.Core.List.Memᴰ
use mathlib.Core.List.{List, [], ◌∷◌, Memᴰ}
use mathlib.Core.Logic.{⊎_elim, ◌⊎◌, ◌≢◌}
use mathlib.Core.Option.{Option, none, some}
use lib.Pow.{pow_pos, pow-lt}
use mathlib.Core.Path.{◌≡◌, refl, sym, ap, ◌∙◌, subst}
use native.Mathlib.Nat.{div-eq_of_lt, div-lt_iff_lt-mul, one-mul}
use native.Mathlib.Omega.{arith}
use Rattle.model.specs.Demands.{Fits}
use Rattle.model.specs.Plain.{Counted}
use Rattle.model.specs.Refusals.{Check, passed, refusal, ◌then◌, refuse_if, refuse_at, falls_from, last_end, unrisen_in, count_check, misweighed, weights_check, threshold_check, sum_of_weights, list_checks, mask_check, first_checks, weighted_checks, chosen_checks}
use Rattle.model.specs.Runs.{first_bin, past_bin, slice, from, runs_from, runs, weighted, weight_of_all, chosen, unrisen_after, unrisen_run, most_numbers, most_runs}
use Rattle.model.specs.Rows.{Rise, rise_nil, rise_cons, Ordered, ordered_nil, ordered_cons}
use Rattle.model.proofs.From.{from_pass, from_stop, from_nil}
use Rattle.model.proofs.Masks.{Labelled, labelled_nil, labelled_cons, ascending}
use Rattle.model.proofs.Chosen.{chosen_ascending, chosen_rising, chosen_all, ones_chosen}
use Rattle.model.proofs.Plain.{all_plain, chosen_plain, plain_all, counted}
use Rattle.model.proofs.Tests.{lt_or_le, or_false}
use Rattle.model.proofs.Truth.{Fit}
use Rattle.model.proofs.Walking.{Rising}
use Rattle.model.proofs.Weighted.{weighted_ascending, weighted_rising, weighted_sum}
use Rattle.model.proofs.Zeros.{first_is, zero_unchecked, bin_checked}

-- ---- checks in order

pub then_first : (a b : Check) → (a then b) ≡ passed → a ≡ passed
unfolding ◌then◌
then_first passed b e = refl
then_first (refusal n p) b e = e

pub then_second : (a b : Check) → (a then b) ≡ passed → b ≡ passed
unfolding ◌then◌
then_second passed b e = e
then_second (refusal n p) b e = cc

pub refuse_if_law : (b : Bool) (n p : ℕ) → refuse_if b n p ≡ passed → b ≡ false
unfolding refuse_if
refuse_if_law true n p e = cc
refuse_if_law false n p e = refl

pub refuse_at_law : (n : ℕ) (o : Option ℕ) → refuse_at n o ≡ passed → o ≡ none
unfolding refuse_at
refuse_at_law n none e = refl
refuse_at_law n (some p) e = cc

-- ---- runs

pub runs_length : (i a : ℕ) (numbers ends : List ℕ) → length (runs_from i a numbers ends) ≡ length ends
unfolding runs_from
runs_length i a numbers [] = refl
runs_length i a numbers (e ∷ ends) = ap suc (runs_length (suc i) e numbers ends)

pub runs_labelled : (i a : ℕ) (numbers ends : List ℕ) → Labelled i (runs_from i a numbers ends)
unfolding runs_from
runs_labelled i a numbers [] = labelled_nil
runs_labelled i a numbers (e ∷ ends) = labelled_cons refl (runs_labelled (suc i) e numbers ends)

take_mem : (n : ℕ) (s : List ℕ) {x : ℕ} → Memᴰ x (take n s) → Memᴰ x s
take_mem zero s m = absurd (Memᴰ.not-nil m)
take_mem (suc n) [] m = m
take_mem (suc n) (y ∷ s) m = ⊎_elim (λ e. Memᴰ.head e) (λ k. Memᴰ.tail (take_mem n s k)) (Memᴰ.cases_cons m)

drop_mem : (n : ℕ) (s : List ℕ) {x : ℕ} → Memᴰ x (drop n s) → Memᴰ x s
drop_mem zero s m = m
drop_mem (suc n) [] m = m
drop_mem (suc n) (y ∷ s) m = Memᴰ.tail (drop_mem n s m)

pub slice_fits : (w a e : ℕ) (numbers : List ℕ) → Fits w numbers → Fits w (slice numbers a e)
slice_fits w a e numbers h = record { each = λ x k. h.each x (drop_mem a numbers (take_mem (e - a) (drop a numbers) k)) }

-- where no number after x is out of order, the first of them is above x, and none after that is out of order
pub after_next : (i x y : ℕ) (s : List ℕ) → unrisen_after i x (y ∷ s) ≡ none → (x < y) × (unrisen_after (suc i) y s ≡ none)
unfolding unrisen_after
after_next i x y s e =
    ⊎_elim
    (λ (q : x < y). (q, rw (lt-ltb x y q, unrisen_after) at e))
    (λ (q : y ≤ x). let z : some (suc i) ≡ none = rw (le-ltb x y q, unrisen_after) at e in absurd (let w : ◌≡◌ {A = ℕ} 0 1 = cc in omega arith))
    (lt_or_le x y)

-- a list in which no number is out of order rises
risen_after : (i x : ℕ) (s : List ℕ) → unrisen_after i x s ≡ none → Fits past_bin s → Rise (suc x) s
risen_after i x [] e h = rise_nil
risen_after i x (y ∷ s) e h =
    let n = after_next i x y s e in
    rise_cons n.0 (h.each y (Memᴰ.head refl)) (risen_after (suc i) y s n.1 (record { each = λ z m. h.each z (Memᴰ.tail m) }))

-- A run that rises after the zeros at its start: its bins rise, and its numbers are in order.
pub bins_rise : (i : ℕ) (s : List ℕ) → unrisen_run i s ≡ none → Fits past_bin s → Rise first_bin (from first_bin s)
bins_rise i [] e h = rw (from_nil first_bin) rise_nil
bins_rise i (x ∷ s) e h =
    let t : Fits past_bin s = record { each = λ y m. h.each y (Memᴰ.tail m) } in
    ⊎_elim
    (λ (q : x < first_bin). rw (from_pass first_bin x s q) (bins_rise (suc i) s (sym (zero_unchecked i x s q) ∙ e) t))
    (λ (q : first_bin ≤ x).
    rw (from_stop first_bin x s q)
    (rise_cons q (h.each x (Memᴰ.head refl)) (risen_after i x s (sym (bin_checked i x s q) ∙ e) t)))
    (lt_or_le x first_bin)

ordered_after : (i x : ℕ) (s : List ℕ) → unrisen_after i x s ≡ none → Ordered x s
ordered_after i x [] e = ordered_nil
ordered_after i x (y ∷ s) e = let n = after_next i x y s e in let l : x ≤ y = omega (arith, n.0) in ordered_cons l (ordered_after (suc i) y s n.1)

pub run_ordered : (i : ℕ) (s : List ℕ) → unrisen_run i s ≡ none → Ordered 0 s
run_ordered i [] e = ordered_nil
run_ordered i (x ∷ s) e =
    ⊎_elim
    (λ (q : x < first_bin).
    let f = first_is in
    let z : 0 ≡ x = omega arith in
    ordered_cons (omega arith) (subst (λ y. Ordered y s) z (run_ordered (suc i) s (sym (zero_unchecked i x s q) ∙ e))))
    (λ (q : first_bin ≤ x). ordered_cons (omega arith) (ordered_after i x s (sym (bin_checked i x s q) ∙ e)))
    (lt_or_le x first_bin)

-- Where no number is out of order in its run: in the first run none is, nor in the others.
pub not_unrisen : (a e : ℕ) (numbers ends : List ℕ) → unrisen_in a numbers (e ∷ ends) ≡ none
    → (unrisen_run a (slice numbers a e) ≡ none) × (unrisen_in e numbers ends ≡ none)
unfolding unrisen_in
not_unrisen a e numbers ends h = go (unrisen_run a (slice numbers a e)) refl
  where
    go : (o : Option ℕ) → unrisen_run a (slice numbers a e) ≡ o → (unrisen_run a (slice numbers a e) ≡ none) × (unrisen_in e numbers ends ≡ none)
    go none k = (k, rw (k, unrisen_in) at h)
    go (some i) k = let z : some i ≡ none = rw (k, unrisen_in) at h in absurd (let w : ◌≡◌ {A = ℕ} 0 1 = cc in omega arith)

-- So each run rises after the zeros at its start.
pub lists_rise : (a : ℕ) (numbers ends : List ℕ) → unrisen_in a numbers ends ≡ none → (i : ℕ) → i < length ends
    → unrisen_run (get_or (a ∷ ends) i 0) (slice numbers (get_or (a ∷ ends) i 0) (get_or ends i 0)) ≡ none
lists_rise a numbers [] h i l = absurd (omega arith)
lists_rise a numbers (e ∷ ends) h zero l = (not_unrisen a e numbers ends h).0
lists_rise a numbers (e ∷ ends) h (suc i) l = lists_rise e numbers ends (not_unrisen a e numbers ends h).1 i (omega arith)

all_risen : (i a : ℕ) (numbers ends : List ℕ) → unrisen_in a numbers ends ≡ none → Fits past_bin numbers → Rising (runs_from i a numbers ends)
unfolding runs_from
all_risen i a numbers [] h f = record { each = λ r m. absurd (Memᴰ.not-nil m) }
all_risen i a numbers (e ∷ ends) h f =
    let n = not_unrisen a e numbers ends h in
    let s = bins_rise a (slice numbers a e) n.0 (slice_fits past_bin a e numbers f) in
    let others = all_risen (suc i) e numbers ends n.1 f in
    record {
      each = λ r m.
          ⊎_elim
          (λ (q : r ≡ record { label = i; weight = 1; bins = from first_bin (slice numbers a e) }). rw q s)
          (λ k. others.each r k)
          (Memᴰ.cases_cons m);
    }

-- ends that do not fall: the first is not below the one before, the others do not fall, and the last is not below it either
pub not_fallen : (b i e : ℕ) (ends : List ℕ) → falls_from b i (e ∷ ends) ≡ none → (b ≤ e) × (falls_from e (suc i) ends ≡ none)
unfolding falls_from
not_fallen b i e ends h =
    ⊎_elim
    (λ (q : e < b).
    let z : some i ≡ none = rw (lt-ltb e b q, falls_from) at h in
    absurd (let w : ◌≡◌ {A = ℕ} 0 1 = cc in omega arith))
    (λ (q : b ≤ e). (q, rw (le-ltb e b q, falls_from) at h))
    (lt_or_le e b)

pub end_last : (b i : ℕ) (ends : List ℕ) → falls_from b i ends ≡ none → b ≤ last_end b ends
unfolding last_end
end_last b i [] h = omega arith
end_last b i (e ∷ ends) h =
    let n = not_fallen b i e ends h in
    let l = end_last e (suc i) ends n.1 in
    omega (arith, n.0)

-- a bound on the number at each place
pub fits : (w : ℕ) (s : List ℕ) → ((i : ℕ) → get_or s i 0 < w) → Fits w s
fits w [] h = record { each = λ x m. absurd (Memᴰ.not-nil m) }
fits w (y ∷ s) h =
    record {
      each = λ x m.
          ⊎_elim (λ (e : x ≡ y). rw e (h 0)) (λ n. (fits w s (λ i. h (suc i))).each x n) (Memᴰ.cases_cons m);
    }

-- What the first checks give, piece by piece.
pub record Listed (numbers ends : List ℕ) : Type 0 where
  pub ends_rise : falls_from 0 0 ends ≡ none
  pub ends_last : last_end 0 ends ≡ length numbers
  pub few_numbers : length numbers ≤ most_numbers
  pub numbers_rise : unrisen_in 0 numbers ends ≡ none

pub eqb_not : (a b : ℕ) → not (eqb a b) ≡ false → a ≡ b
eqb_not a b e = borrow.Author.Tests.eqb-true a b (borrow.Author.Tests.not-false (eqb a b) e)

pub count_passed : (ends : List ℕ) → count_check ends ≡ passed → (0 < length ends) × (length ends ≤ most_runs)
unfolding count_check
count_passed ends e =
    let d = or_false (eqb (length ends) 0) (ltb most_runs (length ends)) (refuse_if_law _ 1 (length ends) e) in
    let n : length ends ≢ 0 = eqb-false (length ends) 0 d.0 in
    (omega arith, ltb-false most_runs (length ends) d.1)

pub threshold_passed : (k t place : ℕ) → threshold_check k t place ≡ passed → (0 < t) × (t ≤ k)
unfolding threshold_check
threshold_passed k t place e =
    let d = or_false (eqb t 0) (ltb k t) (refuse_if_law _ 2 place e) in
    let n : t ≢ 0 = eqb-false t 0 d.0 in
    (omega arith, ltb-false k t d.1)

pub mask_passed : (k m place : ℕ) → mask_check k m place ≡ passed → (0 < m) × (m < 2 ^ k)
unfolding mask_check
mask_passed k m place e =
    let d = or_false (eqb m 0) (not (eqb (m / 2 ^ k) 0)) (refuse_if_law _ 13 place e) in
    let n : m ≢ 0 = eqb-false m 0 d.0 in
    let z = eqb_not (m / 2 ^ k) 0 d.1 in
    let i = (div-lt_iff_lt-mul {x = m} {y = 1} (pow_pos k)).0 (omega arith) in
    (omega arith, omega (arith, one-mul (2 ^ k)))

pub lists_passed : (numbers ends : List ℕ) → list_checks numbers ends ≡ passed → Listed numbers ends
unfolding list_checks
lists_passed numbers ends e =
    let c₃ = refuse_at_law 3 (falls_from 0 0 ends) (then_first _ _ e) in
    let e₄ = then_second _ _ e in
    let c₄ = refuse_if_law _ 3 (length ends) (then_first _ _ e₄) in
    let c₅ = refuse_at_law 4 (unrisen_in 0 numbers ends) (then_second _ _ e₄) in
    let d₄ = or_false (not (eqb (last_end 0 ends) (length numbers))) (ltb most_numbers (length numbers)) c₄ in
    record {
      ends_rise = c₃;
      ends_last = eqb_not (last_end 0 ends) (length numbers) d₄.0;
      few_numbers = ltb-false most_numbers (length numbers) d₄.1;
      numbers_rise = c₅;
    }

-- and the other way round
pub threshold_passes : (k t place : ℕ) → 0 < t → t ≤ k → threshold_check k t place ≡ passed
unfolding threshold_check refuse_if
threshold_passes k t place h l = let n : t ≢ 0 = omega arith in rw (ne_eqb t 0 n, le-ltb k t l)

pub mask_passes : (k m place : ℕ) → 0 < m → m < 2 ^ k → mask_check k m place ≡ passed
unfolding mask_check refuse_if
mask_passes k m place h l = let n : m ≢ 0 = omega arith in rw (ne_eqb m 0 n, eq-eqb (m / 2 ^ k) 0 (div-eq_of_lt l))

-- Lists and a threshold that pass the first checks.
pub record Passed (numbers ends : List ℕ) (t : ℕ) : Type 0 where
  pub some_runs : 0 < length ends
  pub few_runs : length ends ≤ most_runs
  pub threshold : 0 < t
  pub met : t ≤ length ends
  pub lists : Listed numbers ends

pub first_passed : (numbers ends : List ℕ) (t : ℕ) → first_checks numbers ends t ≡ passed → Passed numbers ends t
unfolding first_checks
first_passed numbers ends t e =
    let c = count_passed ends (then_first _ _ e) in
    let e₂ = then_second _ _ e in
    let h = threshold_passed (length ends) t t (then_first _ _ e₂) in
    record { some_runs = c.0; few_runs = c.1; threshold = h.0; met = h.1; lists = lists_passed numbers ends (then_second _ _ e₂) }

pub weights_passed : (k : ℕ) (weights : List ℕ) → weights_check k weights ≡ passed → (length weights ≡ k) × (misweighed 0 weights ≡ none)
unfolding weights_check
weights_passed k weights e =
    (eqb_not (length weights) k (refuse_if_law _ 17 k (then_first _ _ e)), refuse_at_law 17 (misweighed 0 weights) (then_second _ _ e))

-- The same with weights and a wanted weight.
pub record WeightedPassed (numbers ends weights : List ℕ) (wanted : ℕ) : Type 0 where
  pub some_runs : 0 < length ends
  pub few_runs : length ends ≤ most_runs
  pub row : length weights ≡ length ends
  pub threshold : 0 < wanted
  pub met : wanted ≤ sum_of_weights weights
  pub lists : Listed numbers ends

pub weighted_passed : (numbers ends weights : List ℕ) (wanted : ℕ) → weighted_checks numbers ends weights wanted ≡ passed → WeightedPassed numbers ends weights wanted
unfolding weighted_checks
weighted_passed numbers ends weights wanted e =
    let c = count_passed ends (then_first _ _ e) in
    let e₂ = then_second _ _ e in
    let w = weights_passed (length ends) weights (then_first _ _ e₂) in
    let e₃ = then_second _ _ e₂ in
    let h = threshold_passed (sum_of_weights weights) wanted wanted (then_first _ _ e₃) in
    record {
      some_runs = c.0;
      few_runs = c.1;
      row = w.0;
      threshold = h.0;
      met = h.1;
      lists = lists_passed numbers ends (then_second _ _ e₃);
    }

-- The same with a mask that chooses runs.
pub record ChosenPassed (numbers ends : List ℕ) (m t : ℕ) : Type 0 where
  pub some_runs : 0 < length ends
  pub few_runs : length ends ≤ most_runs
  pub some_chosen : 0 < m
  pub only : m < 2 ^ length ends
  pub threshold : 0 < t
  pub met : t ≤ ones m
  pub lists : Listed numbers ends

pub chosen_passed : (numbers ends : List ℕ) (m t : ℕ) → chosen_checks numbers ends m t ≡ passed → ChosenPassed numbers ends m t
unfolding chosen_checks
chosen_passed numbers ends m t e =
    let c = count_passed ends (then_first _ _ e) in
    let e₂ = then_second _ _ e in
    let d = mask_passed (length ends) m 0 (then_first _ _ e₂) in
    let e₃ = then_second _ _ e₂ in
    let h = threshold_passed (ones m) t t (then_first _ _ e₃) in
    record {
      some_runs = c.0;
      few_runs = c.1;
      some_chosen = d.0;
      only = d.1;
      threshold = h.0;
      met = h.1;
      lists = lists_passed numbers ends (then_second _ _ e₃);
    }

-- all checks of it, from the pieces
pub chosen_checks_law : (numbers ends : List ℕ) (m t : ℕ) → count_check ends ≡ passed → list_checks numbers ends ≡ passed → 0 < m → m < 2 ^ length ends
    → 0 < t → t ≤ ones m → chosen_checks numbers ends m t ≡ passed
unfolding chosen_checks ◌then◌
chosen_checks_law numbers ends m t c l h o p q =
    rw (c, mask_passes (length ends) m 0 h o, threshold_passes (ones m) t t p q, l)

-- A question over all runs is the one in which all are chosen.
pub all_chosen_checks : (numbers ends : List ℕ) (t : ℕ) → first_checks numbers ends t ≡ passed → chosen_checks numbers ends (2 ^ length ends - 1) t ≡ passed
unfolding first_checks
all_chosen_checks numbers ends t e =
    let p = first_passed numbers ends t e in
    let h = p.some_runs in
    let k = p.met in
    let i = pow-lt h in
    let n = ones-ones (length ends) in
    chosen_checks_law numbers ends (2 ^ length ends - 1) t (then_first _ _ e) (then_second _ _ (then_second _ _ e)) (omega arith) (omega arith) p.threshold (omega arith)

pub runs_rising : (numbers ends : List ℕ) → Fits past_bin numbers → Listed numbers ends → Rising (runs numbers ends)
unfolding runs
runs_rising numbers ends h p = all_risen 0 0 numbers ends p.numbers_rise h

pub all_labelled : (numbers ends : List ℕ) → Labelled 0 (runs numbers ends)
unfolding runs
all_labelled numbers ends = runs_labelled 0 0 numbers ends

pub all_length : (numbers ends : List ℕ) → length (runs numbers ends) ≡ length ends
unfolding runs
all_length numbers ends = runs_length 0 0 numbers ends

-- what the chosen runs weigh where no weights are given: as many as are chosen
pub chosen_weighs : (numbers ends : List ℕ) (m : ℕ) → m < 2 ^ length ends → weight_of_all (chosen m (runs numbers ends)) ≡ ones m
chosen_weighs numbers ends m h =
    plain_all (chosen_plain m (all_plain numbers ends))
    ∙ ones_chosen m (runs numbers ends) (all_labelled numbers ends) (subst (λ x. m < 2 ^ x) (sym (all_length numbers ends)) h)

pub chosen_fit : (numbers ends : List ℕ) (m t : ℕ) → Fits past_bin numbers → chosen_checks numbers ends m t ≡ passed → Fit (chosen m (runs numbers ends)) t
chosen_fit numbers ends m t h e =
    let p = chosen_passed numbers ends m t e in
    let l = all_labelled numbers ends in
    let k = chosen_weighs numbers ends m p.only in
    let q = p.met in
    record {
      rising = chosen_rising m (runs numbers ends) (runs_rising numbers ends h p.lists);
      labels = chosen_ascending m (runs numbers ends) (ascending l);
      some = p.threshold;
      met = omega arith;
    }

pub every_run : (numbers ends : List ℕ) → chosen (2 ^ length ends - 1) (runs numbers ends) ≡ runs numbers ends
every_run numbers ends =
    ap (λ x. chosen (2 ^ x - 1) (runs numbers ends)) (sym (all_length numbers ends)) ∙ chosen_all (runs numbers ends) (all_labelled numbers ends)

pub fit : (numbers ends : List ℕ) (t : ℕ) → Fits past_bin numbers → first_checks numbers ends t ≡ passed → Fit (runs numbers ends) t
fit numbers ends t h e =
    subst (λ x. Fit x t) (every_run numbers ends) (chosen_fit numbers ends (2 ^ length ends - 1) t h (all_chosen_checks numbers ends t e))

-- what the runs with weights weigh: the sum of the row
pub weighted_weighs : (numbers ends weights : List ℕ) → length weights ≡ length ends → weight_of_all (weighted weights (runs numbers ends)) ≡ sum_of_weights weights
weighted_weighs numbers ends weights e =
    weighted_sum weights (runs numbers ends) (all_labelled numbers ends) (all_length numbers ends ∙ sym e)

pub weighted_fit : (numbers ends weights : List ℕ) (wanted : ℕ) → Fits past_bin numbers → weighted_checks numbers ends weights wanted ≡ passed
    → Fit (weighted weights (runs numbers ends)) wanted
weighted_fit numbers ends weights wanted h e =
    let p = weighted_passed numbers ends weights wanted e in
    let s = weighted_weighs numbers ends weights p.row in
    let m = p.met in
    record {
      rising = weighted_rising weights (runs_rising numbers ends h p.lists);
      labels = weighted_ascending weights (ascending (all_labelled numbers ends));
      some = p.threshold;
      met = omega arith;
    }

-- Where no weights are given weights are numbers of runs, of all runs and of those that a mask chooses.
pub runs_counted : (numbers ends : List ℕ) → Counted (runs numbers ends)
runs_counted numbers ends = counted (all_plain numbers ends) (ascending (all_labelled numbers ends))

pub chosen_counted : (m : ℕ) (numbers ends : List ℕ) → Counted (chosen m (runs numbers ends))
chosen_counted m numbers ends =
    counted (chosen_plain m (all_plain numbers ends)) (chosen_ascending m (runs numbers ends) (ascending (all_labelled numbers ends)))
