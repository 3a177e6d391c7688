-- What the first checks of a call give by the tests made so far. Assumes nothing.
use Prim.Native.Nat.{ℕ, suc, ◌≤◌, ◌<◌}
use lib.Count.{ones}
use lib.ListN.{length, get_or, drop, drop_of_length-le}
use lib.Seq.{drop-cons}
use mathlib.Core.List.{List}
use mathlib.Core.Path.{◌≡◌, refl, sym, ap, ◌∙◌}
use native.Mathlib.Omega.{arith}
use Rattle.model.proofs.FirstChecks.{then_first, then_second, count_passed}
use Rattle.model.proofs.ManyChecks.{rows_passed}
use Rattle.model.specs.Many.{ManyCheck, all_passed, refusal_in, in_question, rows_check, question_checks}
use Rattle.model.specs.Refusals.{Check, passed, refusal, ◌then◌, count_check, list_checks, mask_check, threshold_check}
use Rattle.model.specs.Runs.{most_runs}

-- ---- a question's check, and those after it

pub passed_in : (q : ℕ) (d : ManyCheck) → in_question q passed d ≡ d
unfolding in_question
passed_in q d = refl

pub refusal_first : (q n p : ℕ) (d : ManyCheck) → in_question q (refusal n p) d ≡ refusal_in q n p
unfolding in_question
refusal_first q n p d = refl

pub ruleset first_in = (passed_in, refusal_first)

-- the checks of the call have passed
pub call_passed : (numbers ends masks thresholds results : List ℕ)
    → passed ≡ (count_check ends then list_checks numbers ends then rows_check masks thresholds results)
    → (length ends ≤ most_runs) × (length masks ≡ length thresholds)
call_passed numbers ends masks thresholds results e =
    ((count_passed _ (then_first _ _ (sym e))).1, (rows_passed masks thresholds results (then_second _ _ (then_second _ _ (sym e)))).0)

-- ---- the questions from index q on

-- question q's own check
pub choice : ℕ → List ℕ → List ℕ → ℕ → Check
choice k masks thresholds q =
    mask_check k (get_or masks q 0) q then threshold_check (ones (get_or masks q 0)) (get_or thresholds q 0) (ones (get_or masks q 0))

pub choice_is : (k : ℕ) (masks thresholds : List ℕ) (q m t o : ℕ) → m ≡ get_or masks q 0 → t ≡ get_or thresholds q 0 → o ≡ ones m
    → (mask_check k m q then threshold_check (ones m) t o) ≡ choice k masks thresholds q
unfolding choice
choice_is k masks thresholds q m t o e f g = rw (g, e, f)

module _ (k : ℕ) (masks thresholds : List ℕ) (same : length masks ≡ length thresholds) (q : ℕ) where
  questions : q < length masks
      → question_checks k q (drop q masks) (drop q thresholds)
      ≡ in_question q (choice k masks thresholds q) (question_checks k (suc q) (drop (suc q) masks) (drop (suc q) thresholds))
  unfolding question_checks choice
  questions l = λ i. question_checks k q (drop-cons masks q 0 l i) (drop-cons thresholds q 0 (let e = same in omega arith) i)

  pub question_refused : q < length masks → {n p : ℕ} → choice k masks thresholds q ≡ refusal n p
      → refusal_in q n p ≡ question_checks k q (drop q masks) (drop q thresholds)
  question_refused l e = sym (refusal_first q _ _ _) ∙ (ap (λ c. in_question q c (question_checks k (suc q) (drop (suc q) masks) (drop (suc q) thresholds))) (sym e) ∙ sym (questions l))

  pub question_passed : q < length masks → choice k masks thresholds q ≡ passed
      → question_checks k q (drop q masks) (drop q thresholds) ≡ question_checks k (suc q) (drop (suc q) masks) (drop (suc q) thresholds)
  question_passed l e = questions l ∙ (ap (λ c. in_question q c (question_checks k (suc q) (drop (suc q) masks) (drop (suc q) thresholds))) e ∙ passed_in q _)

  pub questions_passed : length masks ≤ q → all_passed ≡ question_checks k q (drop q masks) (drop q thresholds)
  unfolding question_checks
  questions_passed l = sym (ap (λ s. question_checks k q s (drop q thresholds)) (drop_of_length-le masks l))
