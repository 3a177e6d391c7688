-- `question_checks` goes through the questions with their indices. Assumes nothing.
use Rattle.std.proofs.Common.{◌≡◌, ℕ, suc, ◌<◌, add-one, zero-add, List, length, get_or, drop, Result, Ok, Err, MatchResult, refl, sym, ap, ◌∙◌, arith, rules}
use Rattle.std.specs.List.{zip, enumerate_from}
use Rattle.std.proofs.lemmas.Grind.{get_or_default_zero}
use Rattle.std.proofs.lemmas.Iterator.{YieldsList-from_slice, YieldsList-from_zip}
use Rattle.std.proofs.lemmas.Iterator.Consumers.{YieldsList-from_enumerate, YieldsList-turn, YieldsList-end}
use Rattle.std.proofs.lemmas.List.{length_push}
use Rattle.std.proofs.lemmas.List.FromFn.{get_or-enumerate_from, length-enumerate_from}
use Rattle.std.proofs.lemmas.Result.{err_from_is_err_and}
use Rattle.std.proofs.lemmas.Slice.Zip.{length-zip, get_or-zip}
use lib.Count.{ones}
use Rattle.model.specs.Many.{refusal_in, question_checks}
use Rattle.model.specs.Refusals.{passed, refusal, ◌then◌, mask_check, threshold_check}
use Rattle.first_checks.specs.Checked.{check_of}
use Rattle.refusal.specs.Number.{number_of}
use Rattle.refusal.specs.declared.Refusal.{Refusal}
use Rattle.query_checks.specs.declared.ManyRefusal.{ManyRefusal}
use Rattle.query_checks.specs.Checks.{many_check_of}
use Rattle.query_checks.proofs.Laws.{choice, choice_is, question_refused, question_passed, questions_passed}
use Rattle.query_checks.proofs.question_checks.Goals as goal

-- ---- the questions, each with its index

abbrev questions : List ℕ → List ℕ → List (ℕ × (ℕ × ℕ))
questions masks thresholds = enumerate_from 0 (zip masks thresholds)

module _ (masks thresholds : List ℕ) (same : length masks ≡ length thresholds) where
  how_many : length (questions masks thresholds) ≡ length masks
  how_many = length-enumerate_from 0 (zip masks thresholds) ∙ (length-zip masks thresholds ∙ omega arith)

  record Placed (n q mask threshold : ℕ) : Type 0 where
    within : n < length masks
    index : q ≡ n
    mask_is : mask ≡ get_or masks n 0
    threshold_is : threshold ≡ get_or thresholds n 0

  placed : (n q mask threshold : ℕ) → n < length (questions masks thresholds)
      → ◌≡◌ {A = ℕ × (ℕ × ℕ)} (q, (mask, threshold)) (get_or (questions masks thresholds) n (q, (mask, threshold))) → Placed n q mask threshold
  placed n q mask threshold l e =
      let h = how_many in
      let m = length-zip masks thresholds in
      let z = get_or-zip masks thresholds n (mask, threshold) (omega arith) (omega arith) in
      let f = e ∙ (get_or-enumerate_from 0 (zip masks thresholds) n (q, (mask, threshold)) (omega arith)) in
      record {
        within = omega arith;
        index = ap (λ p. p.0) f ∙ zero-add n;
        mask_is = ap (λ p. p.1.0) f ∙ (ap (λ p. p.0) z ∙ get_or_default_zero masks n mask (omega arith));
        threshold_is = ap (λ p. p.1.1) f ∙ (ap (λ p. p.1) z ∙ get_or_default_zero thresholds n threshold (omega arith));
      }

-- ---- a check's refusal with its question's index

module _ (q : ℕ) where
  ok_of : (checked : Result (Unit {0}) Refusal) (mapped : Result (Unit {0}) ManyRefusal)
      → MatchResult checked (λ u. mapped ≡ Ok u) (λ r. mapped ≡ Err (record { refusal = r; question = q }))
      → (u : Unit {0}) → mapped ≡ Ok u → check_of checked ≡ passed
  ok_of (Ok v) mapped m u e = refl
  ok_of (Err r) mapped m u e = absurd (let z : Err (record { refusal = r; question = q }) ≡ Ok u = sym m ∙ e in cc)

  err_of : (checked : Result (Unit {0}) Refusal) (mapped : Result (Unit {0}) ManyRefusal)
      → MatchResult checked (λ u. mapped ≡ Ok u) (λ r. mapped ≡ Err (record { refusal = r; question = q }))
      → (m : ManyRefusal) → mapped ≡ Err m → (m.question ≡ q) × (check_of checked ≡ refusal (number_of m.refusal.reason) m.refusal.place)
  err_of (Ok v) mapped n m e = absurd (let z : Ok v ≡ Err m = sym n ∙ e in cc)
  err_of (Err r) mapped n m e =
      let i : record { refusal = r; question = q } ≡ m = (let z : Err (record { refusal = r; question = q }) ≡ Err m = sym n ∙ e in cc) in
      (ap (λ x. x.question) (sym i), ap (λ x. refusal (number_of x.refusal.reason) x.refusal.place) i)

-- ---- a turn, with what the question's own check gave

module _ (k : ℕ) (masks thresholds : List ℕ) (same : length masks ≡ length thresholds) (n q mask threshold count : ℕ)
    (p : Placed masks thresholds same n q mask threshold) (o : count ≡ ones mask) (checked : Result (Unit {0}) Refusal) (mapped : Result (Unit {0}) ManyRefusal)
    (c : check_of checked ≡ (mask_check k mask q then threshold_check (ones mask) threshold count))
    (m : MatchResult checked (λ u. mapped ≡ Ok u) (λ r. mapped ≡ Err (record { refusal = r; question = q }))) where
  own : check_of checked ≡ choice k masks thresholds n
  own = c ∙ (ap (λ i. mask_check k mask i then threshold_check (ones mask) threshold count) p.index ∙ choice_is k masks thresholds n mask threshold count p.mask_is p.threshold_is o)

  refused : (r : ManyRefusal) → mapped ≡ Err r → many_check_of (Err r) ≡ question_checks k n (drop n masks) (drop n thresholds)
  refused r e =
      let f = err_of q checked mapped m r e in
      ap (λ i. refusal_in i (number_of r.refusal.reason) r.refusal.place) (f.0 ∙ p.index)
      ∙ question_refused k masks thresholds same n p.within (sym own ∙ f.1)

  passes : (u : Unit {0}) → mapped ≡ Ok u
      → question_checks k n (drop n masks) (drop n thresholds) ≡ question_checks k (suc n) (drop (suc n) masks) (drop (suc n) thresholds)
  passes u e = question_passed k masks thresholds same n p.within (sym own ∙ ok_of q checked mapped m u e)

pub loop-question-init : goal.loop-question-init
loop-question-init c = refl

pub returns-in_err-map_err : goal.returns-in_err-map_err
returns-in_err-map_err c =
    let a = c.args in
    let l = c.loop-question in
    let i = c.in-Some in
    let n = length l.yielded in
    let t = YieldsList-turn (YieldsList-from_enumerate (YieldsList-from_zip (YieldsList-from_slice a.masks.now cc) (YieldsList-from_slice a.thresholds.now cc)) cc) l.yielded l.question-iterator l.yielded_by c.next.result c.next.new.self (i.question, (i.mask, i.threshold)) i.is c.next.ensures.steps in
    let p = placed a.masks.now a.thresholds.now c.requires.1 n i.question i.mask.now i.threshold.now t.0 t.1 in
    let e = err_from_is_err_and c.from_residual.result c.from_residual.ensures.1 in
    rw (e.1, e.2)
    (refused a.k a.masks.now a.thresholds.now c.requires.1 n i.question i.mask.now i.threshold.now c.ones_of-ones.result p c.ones_of-ones.ensures c.choice_check.result c.map_err.result c.choice_check.ensures (search rules) c.in_err-map_err.field-0.0 c.in_err-map_err.was
    ∙ sym l.invariant)

pub loop-question-preserved : goal.loop-question-preserved
loop-question-preserved c =
    let a = c.args in
    let l = c.loop-question in
    let i = c.in-Some in
    let n = length l.yielded in
    let t = YieldsList-turn (YieldsList-from_enumerate (YieldsList-from_zip (YieldsList-from_slice a.masks.now cc) (YieldsList-from_slice a.thresholds.now cc)) cc) l.yielded l.question-iterator l.yielded_by c.next.result c.next.new.self (i.question, (i.mask, i.threshold)) i.is c.next.ensures.steps in
    let p = placed a.masks.now a.thresholds.now c.requires.1 n i.question i.mask.now i.threshold.now t.0 t.1 in
    let e = length_push l.yielded (i.question, (i.mask, i.threshold)) in
    rw (e, add-one n)
    (l.invariant
    ∙ passes a.k a.masks.now a.thresholds.now c.requires.1 n i.question i.mask.now i.threshold.now c.ones_of-ones.result p c.ones_of-ones.ensures c.choice_check.result c.map_err.result c.choice_check.ensures (search rules) c.in_ok-map_err.field-0 c.in_ok-map_err.was)

pub returns : goal.returns
returns c =
    let a = c.args in
    let l = c.loop-question in
    let t = YieldsList-end (YieldsList-from_enumerate (YieldsList-from_zip (YieldsList-from_slice a.masks.now cc) (YieldsList-from_slice a.thresholds.now cc)) cc) l.yielded l.question-iterator l.yielded_by c.next.result c.next.new.self c.in-None.is c.next.ensures.steps in
    questions_passed a.k a.masks.now a.thresholds.now c.requires.1 (length l.yielded) (let h = how_many a.masks.now a.thresholds.now c.requires.1 in omega (arith, t.1)) ∙ sym l.invariant
