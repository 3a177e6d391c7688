-- The first checks of a call with many questions: where all are passed, every question passes those over its chosen runs. Assumes nothing.
use Prim.Native.Nat.{ℕ, zero, suc, ◌+◌, ◌*◌, ◌^◌, ◌≤◌, ◌<◌}
use borrow.Author.Tests.{ltb-false}
use lib.Count.{ones}
use lib.Dec.{ltb, eqb}
use lib.ListN.{length, get_or}
use mathlib.Core.Bool.{not}
use mathlib.Core.List.{List, [], ◌∷◌}
use mathlib.Core.Path.{◌≡◌, refl}
use native.Mathlib.Omega.{arith}
use Rattle.model.specs.Many.{ManyCheck, all_passed, refusal_in, in_question, rows_check, question_checks, many_checks}
use Rattle.model.specs.Refusals.{Check, passed, refusal, ◌then◌, refuse_if, count_check, threshold_check, list_checks, mask_check, chosen_checks}
use Rattle.model.proofs.FirstChecks.{then_first, then_second, refuse_if_law, eqb_not, mask_passed, threshold_passed, chosen_checks_law}
use Rattle.model.proofs.Tests.{or_false}

pub question_first : (q : ℕ) (c : Check) (d : ManyCheck) → in_question q c d ≡ all_passed → c ≡ passed
unfolding in_question
question_first q passed d e = refl
question_first q (refusal n p) d e = cc

pub question_second : (q : ℕ) (c : Check) (d : ManyCheck) → in_question q c d ≡ all_passed → d ≡ all_passed
unfolding in_question
question_second q passed d e = e
question_second q (refusal n p) d e = cc

-- a question whose mask and threshold pass
pub record Sound (k m t : ℕ) : Type 0 where
  pub some_chosen : 0 < m
  pub only : m < 2 ^ k
  pub threshold : 0 < t
  pub met : t ≤ ones m

pub sound : (k i : ℕ) (ms ts : List ℕ) → length ms ≡ length ts → question_checks k i ms ts ≡ all_passed → (q : ℕ) → q < length ms
    → Sound k (get_or ms q 0) (get_or ts q 0)
unfolding question_checks
sound k i [] ts l e q h = absurd (omega arith)
sound k i (m ∷ ms) [] l e q h = absurd (omega arith)
sound k i (m ∷ ms) (t ∷ ts) l e zero h =
    let f = question_first i _ _ e in
    let d = mask_passed k m i (then_first _ _ f) in
    let g = threshold_passed (ones m) t (ones m) (then_second _ _ f) in
    record { some_chosen = d.0; only = d.1; threshold = g.0; met = g.1 }
sound k i (m ∷ ms) (t ∷ ts) l e (suc q) h = sound k (suc i) ms ts (omega arith) (question_second i _ _ e) q (omega arith)

pub rows_passed : (masks thresholds results : List ℕ) → rows_check masks thresholds results ≡ passed
    → (length masks ≡ length thresholds) × (2 * length masks ≤ length results)
unfolding rows_check
rows_passed masks thresholds results e =
    let d = or_false (not (eqb (length masks) (length thresholds))) (ltb (length results) (2 * length masks)) (refuse_if_law _ 14 (length masks) e) in
    (eqb_not (length masks) (length thresholds) d.0, ltb-false (length results) (2 * length masks) d.1)

-- What the first checks of a call give.
pub record ManyPassed (numbers ends masks thresholds results : List ℕ) : Type 0 where
  pub counted : count_check ends ≡ passed
  pub lists : list_checks numbers ends ≡ passed
  pub rows : length masks ≡ length thresholds
  pub room : 2 * length masks ≤ length results
  pub each : (q : ℕ) → q < length masks → chosen_checks numbers ends (get_or masks q 0) (get_or thresholds q 0) ≡ passed

pub many_passed : (numbers ends masks thresholds results : List ℕ) → many_checks numbers ends masks thresholds results ≡ all_passed
    → ManyPassed numbers ends masks thresholds results
unfolding many_checks
many_passed numbers ends masks thresholds results e =
    let f = question_first 0 _ _ e in
    let c = then_first _ _ f in
    let g = then_second _ _ f in
    let l = then_first _ _ g in
    let d = rows_passed masks thresholds results (then_second _ _ g) in
    let r = d.0 in
    record {
      counted = c;
      lists = l;
      rows = r;
      room = d.1;
      each = λ q h.
          let s = sound (length ends) 0 masks thresholds r (question_second 0 _ _ e) q h in
          chosen_checks_law numbers ends (get_or masks q 0) (get_or thresholds q 0) c l s.some_chosen s.only s.threshold s.met;
    }
