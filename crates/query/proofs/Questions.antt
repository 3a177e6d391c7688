-- What a question returns, from its first checks or from how its walk ended. Assumes nothing.
use Prim.Native.Nat.{ℕ, ◌-◌, ◌^◌, ◌≤◌, ◌<◌}
use lib.ListN.{length}
use lib.Pow.{pow_pos}
use mathlib.Core.List.{List, []}
use mathlib.Core.Path.{◌≡◌, sym, ap, ◌∙◌, subst}
use native.Mathlib.Omega.{arith}
use Rattle.model.specs.Compared.{whole_walk}
use Rattle.model.specs.Demands.{Demand2, Demand3}
use Rattle.model.specs.Refusals.{Check, Outcome, Answered, refused, passed, refusal, first_checks, weighted_checks, checked_first, answered_by}
use Rattle.model.specs.Runs.{Run, runs, weighted, weight_of_all, chosen}
use Rattle.model.proofs.Demands.{demand2_by, demand3_by}
use Rattle.model.proofs.FirstChecks.{then_second, first_passed, weighted_passed, weighted_weighs, all_length, every_run}
use Rattle.model.proofs.Plain.{all_plain, plain_all}
use Rattle.model.proofs.Truth.{Fit}
use Rattle.model.proofs.Weighted.{weighted_none}
use Rattle.walk_progress.specs.Progress.{no_counts, outcome_at, ended, onward}
use Rattle.walk_progress.proofs.Progress.{onward_start}
use Rattle.walk_tally.specs.Tally.{left_in, halved_in, undoubled}
use Rattle.walk_write.specs.Writes.{counts_of, ends_with}
use Rattle.walk_whole.specs.Whole.{asked_runs, counts_from, ComesTo}
use Rattle.std.specs.Prelude.{Result}
use Rattle.walk_rounds.specs.Ends.{number_at, state_at}
use Rattle.walk_write.specs.declared.State.{State}
use Rattle.walk_write.specs.declared.Stopped.{Stopped}
use Rattle.query.specs.Answerable.{Answerable}
use Rattle.query.specs.Outcomes.{Returns}

-- ---- the first checks passed

-- with a threshold: there are no weights
pub plain_runs : (numbers ends : List ℕ) → weighted [] (runs numbers ends) ≡ runs numbers ends
plain_runs numbers ends = weighted_none (runs numbers ends) (all_plain numbers ends)

pub plain_answerable : (numbers ends : List ℕ) (t : ℕ) → first_checks numbers ends t ≡ passed → Answerable numbers ends [] t
unfolding first_checks
plain_answerable numbers ends t e =
    let p = first_passed numbers ends t e in
    let w = ap weight_of_all (plain_runs numbers ends) ∙ (plain_all (all_plain numbers ends) ∙ all_length numbers ends) in
    let m = p.met in
    record {
      some_runs = p.some_runs;
      few = p.few_runs;
      row = λ h. absurd (omega arith);
      some = p.threshold;
      met = omega arith;
      lists = then_second _ _ (then_second _ _ e);
    }

pub weighted_answerable : (numbers ends weights : List ℕ) (wanted : ℕ) → weighted_checks numbers ends weights wanted ≡ passed → Answerable numbers ends weights wanted
unfolding weighted_checks
weighted_answerable numbers ends weights wanted e =
    let p = weighted_passed numbers ends weights wanted e in
    let w = weighted_weighs numbers ends weights p.row in
    let m = p.met in
    record {
      some_runs = p.some_runs;
      few = p.few_runs;
      row = λ h. p.row;
      some = p.threshold;
      met = omega arith;
      lists = then_second _ _ (then_second _ _ (then_second _ _ e));
    }

-- ---- all runs are chosen

module _ (numbers ends ws : List ℕ) (m : ℕ) (f : m ≡ 2 ^ length ends - 1) where
  all_asked : asked_runs numbers ends ws m ≡ weighted ws (runs numbers ends)
  all_asked = ap (weighted ws) (ap (λ x. chosen x (runs numbers ends)) f ∙ every_run numbers ends)

  pub all_only : m < 2 ^ length ends
  all_only = let p = pow_pos (length ends) in omega arith

  pub all_met : (t : ℕ) → Answerable numbers ends ws t → t ≤ weight_of_all (asked_runs numbers ends ws m)
  all_met t a = let e = ap weight_of_all all_asked in let h = a.met in omega arith

  -- a question over all runs, where nothing is written yet and the whole allowance is left
  asked : (t allowance tally : ℕ) (A B A' B' : List ℕ) (r : Result State Stopped) → (left_in tally ≡ allowance) × (halved_in tally ≡ 0) → ComesTo numbers ends ws m t 0 0 tally A B A' B' r
      → answered_by passed (weighted ws (runs numbers ends)) t allowance A B ≡ ends_with (number_at r) allowance (state_at r) A' B'
  unfolding answered_by checked_first no_counts counts_from
  asked t allowance tally A B A' B' r l h =
      let z : 0 ≡ allowance - undoubled tally = omega (arith, l.0) in
      let y : 0 ≡ halved_in tally = sym l.1 in
      onward_start t (weighted ws (runs numbers ends)) allowance A B
      ∙ ((λ i. onward allowance (record { answers = 0; parts = 0; bytes = 0; doublings = z i; halvings = y i }) A B (whole_walk t (sym all_asked i)))
      ∙ h.as_asked allowance (omega (arith, l.0, l.1)))

  pub ends_so : (t allowance tally : ℕ) (A B A' B' : List ℕ) (r : Result State Stopped) (o : Outcome) → (left_in tally ≡ allowance) × (halved_in tally ≡ 0)
      → ComesTo numbers ends ws m t 0 0 tally A B A' B' r → o ≡ outcome_at (number_at r) (counts_of allowance (state_at r))
      → Returns (answered_by passed (weighted ws (runs numbers ends)) t allowance A B) o A' B'
  unfolding ends_with ended
  ends_so t allowance tally A B A' B' r o l h e =
      let q = asked t allowance tally A B A' B' r l h in
      record {
        outcome_agrees = e ∙ sym (ap (λ x. x.outcome) q);
        answers_are = sym (ap (λ x. x.answers) q);
        certificate_is = sym (ap (λ x. x.certificate) q);
      }

-- ---- what is returned

-- what holds of an outcome and buffers holds of those that are returned
pub returned : (P : Outcome → List ℕ → List ℕ → Type 0) (a : Answered) {o : Outcome} {A' B' : List ℕ} → Returns a o A' B'
    → P a.outcome a.answers a.certificate → P o A' B'
returned P a {o} {A'} {B'} h p =
    subst (λ x. P o A' x) (sym h.certificate_is) (subst (λ x. P o x a.certificate) (sym h.answers_are) (subst (λ x. P x a.answers a.certificate) (sym h.outcome_agrees) p))

-- a refusal of the first checks, whatever the call comes to after them
pub refused_first : (c : Check) (a : Answered) (A B : List ℕ) (n p : ℕ) → c ≡ refusal n p → (o : Outcome) → o ≡ refused n p 0 0 0 0 → Returns (checked_first c a A B) o A B
unfolding checked_first
refused_first c a A B n p e o f = record { outcome_agrees = f ∙ rw e; answers_are = rw e; certificate_is = rw e }

module _ (c : Check) (rs : List Run) (t allowance : ℕ) (A B : List ℕ) where
  pub answered_first : c ≡ passed → (A' B' : List ℕ) (o : Outcome) → Returns (answered_by passed rs t allowance A B) o A' B' → Returns (answered_by c rs t allowance A B) o A' B'
  answered_first e A' B' o h = subst (λ x. Returns (answered_by x rs t allowance A B) o A' B') (sym e) h

  -- demands 2 and 3 hold of what is returned
  pub demanded : (A' B' : List ℕ) (o : Outcome) → (c ≡ passed → Fit rs t) → Returns (answered_by c rs t allowance A B) o A' B'
      → Returns (answered_by c rs t allowance A B) o A' B' × (Demand2 c rs t o A' B' × Demand3 c rs t allowance (length A) B o B')
  demanded A' B' o g h =
      let q = answered_by c rs t allowance A B in (
        h,
        (
          returned (Demand2 c rs t) q h (demand2_by rs t allowance A B c g),
          returned (λ x A₁ B₁. Demand3 c rs t allowance (length A) B x B₁) q h (demand3_by rs t allowance A B c g),
        ),
      )
