-- What a call returns, from its first checks or from how its questions ended. Assumes nothing.
use Prim.Native.Nat.{ℕ, ◌-◌}
use mathlib.Core.List.{List}
use mathlib.Core.Path.{◌≡◌, sym, ap, ◌∙◌, subst}
use native.Mathlib.Omega.{arith}
use Rattle.std.specs.Prelude.{Result, Err}
use Rattle.model.specs.Demands.{Fits}
use Rattle.model.specs.Many.{all_passed, refusal_in, many_checks, events_of, reached, ManyOutcome, many_outcome, AnsweredMany, answered_many, walks_of, query_many}
use Rattle.model.specs.ManyDemands.{ManyDemand2, ManyDemand3}
use Rattle.model.specs.Certificate.{answers_of, encode}
use Rattle.model.specs.Compared.{parts_of, cost, doublings_of, halvings_of}
use Rattle.model.specs.Refusals.{over}
use Rattle.model.specs.Runs.{past_bin, runs}
use Rattle.model.proofs.ManyChecks.{many_passed}
use Rattle.model.proofs.ManyDemands.{many_demand2, many_demand3}
use Rattle.query_each.specs.Questions.{counts_so, Fitted, Rows, from_question, end_of, totals_of, Answers}
use Rattle.query_each.specs.declared.Cut.{Cut}
use Rattle.query_each.specs.declared.Totals.{Totals}
use Rattle.query_progress.specs.Calls.{call_outcome, call_ended, call_onward}
use Rattle.query_progress.proofs.Calls.{call_start}
use Rattle.walk_progress.specs.Progress.{no_counts}
use Rattle.walk_tally.specs.Tally.{left_in, halved_in, undoubled}
use Rattle.query_checks.specs.declared.ManyRefusal.{ManyRefusal}
use Rattle.query_many.specs.Outcomes.{many_outcome_is, FirstRefusedMany, ReturnsMany}
use Rattle.query_many.specs.declared.RefusedMany.{RefusedMany}
use Rattle.refusal.specs.Number.{number_of}

-- what is written before the first question
abbrev pub none : ℕ → Totals
none tally = record { answers = 0; parts = 0; bytes = 0; tally = tally }

pub fitted_first : (tally : ℕ) (A B : List ℕ) → halved_in tally ≡ 0 → Fitted A B (none tally)
fitted_first tally A B h = record { answered = omega arith; written = omega arith; parts = omega arith; allowed = omega arith }

pub rows_first : (numbers ends masks thresholds R : List ℕ) → many_checks numbers ends masks thresholds R ≡ all_passed → Rows numbers ends masks thresholds R
rows_first numbers ends masks thresholds R e =
    let p = many_passed numbers ends masks thresholds R e in
    record { checked = p.each; rows = p.rows; room = p.room }

pub ends_so : (numbers ends masks thresholds : List ℕ) (allowance tally : ℕ) (A B R A' B' R' : List ℕ) (r : Result Totals Cut) (o : ManyOutcome)
    → many_checks numbers ends masks thresholds R ≡ all_passed → (left_in tally ≡ allowance) × (halved_in tally ≡ 0)
    → Answers numbers ends masks thresholds (none tally) A B R A' B' R' r
    → o ≡ call_outcome (end_of r) (counts_so allowance (totals_of r))
    → ReturnsMany (query_many numbers ends masks thresholds allowance A B R) o A' B' R'
unfolding query_many walks_of from_question call_ended counts_so no_counts
ends_so numbers ends masks thresholds allowance tally A B R A' B' R' r o e l h f =
    let z : 0 ≡ allowance - undoubled tally = omega (arith, l.0) in
    let y : 0 ≡ halved_in tally = sym l.1 in
    let w : query_many numbers ends masks thresholds allowance A B R ≡ call_ended (end_of r) (counts_so allowance (totals_of r)) A' B' R' =
    rw (e, query_many)
    (call_start allowance A B R (runs numbers ends) masks thresholds
    ∙ ((λ i. call_onward allowance 0 (record { answers = 0; parts = 0; bytes = 0; doublings = z i; halvings = y i }) A B R (runs numbers ends) masks thresholds)
    ∙ h.comes_to allowance (omega (arith, l.0, l.1)))) in
    record {
      outcome_agrees = f ∙ sym (ap (λ (x : AnsweredMany). x.outcome) w);
      answers_are = sym (ap (λ (x : AnsweredMany). x.answers) w);
      certificate_is = sym (ap (λ (x : AnsweredMany). x.certificate) w);
      results_are = sym (ap (λ (x : AnsweredMany). x.results) w);
    }

-- a refusal of the first checks
pub refused_first : (numbers ends masks thresholds : List ℕ) (allowance : ℕ) (A B R : List ℕ) (first : ManyRefusal)
    → many_checks numbers ends masks thresholds R ≡ refusal_in first.question (number_of first.refusal.reason) first.refusal.place
    → (r : RefusedMany) → FirstRefusedMany first r
    → ReturnsMany (query_many numbers ends masks thresholds allowance A B R) (many_outcome_is (Err r)) A B R
unfolding query_many answered_many many_outcome events_of parts_of answers_of encode doublings_of halvings_of cost reached over
refused_first numbers ends masks thresholds allowance A B R first e r f =
    record { outcome_agrees = f ∙ rw (e, query_many); answers_are = rw (e, query_many); certificate_is = rw (e, query_many); results_are = rw (e, query_many) }

-- demands 2 and 3 hold of what is returned
pub demanded : (numbers ends masks thresholds : List ℕ) (allowance : ℕ) (A B R A' B' R' : List ℕ) (o : ManyOutcome) → Fits past_bin numbers
    → ReturnsMany (query_many numbers ends masks thresholds allowance A B R) o A' B' R'
    → ReturnsMany (query_many numbers ends masks thresholds allowance A B R) o A' B' R'
    × (ManyDemand2 numbers ends masks thresholds R o A' B' R' × ManyDemand3 numbers ends masks thresholds allowance A B R o B' R')
demanded numbers ends masks thresholds allowance A B R A' B' R' o f h =
    let x = query_many numbers ends masks thresholds allowance A B R in (
      h,
      (
        subst (λ y. ManyDemand2 numbers ends masks thresholds R o A' B' y) (sym h.results_are)
            (subst (λ y. ManyDemand2 numbers ends masks thresholds R o A' y x.results) (sym h.certificate_is)
            (subst (λ y. ManyDemand2 numbers ends masks thresholds R o y x.certificate x.results) (sym h.answers_are)
            (subst (λ y. ManyDemand2 numbers ends masks thresholds R y x.answers x.certificate x.results) (sym h.outcome_agrees)
            (many_demand2 numbers ends masks thresholds allowance A B R f)))),
        subst (λ y. ManyDemand3 numbers ends masks thresholds allowance A B R o B' y) (sym h.results_are)
            (subst (λ y. ManyDemand3 numbers ends masks thresholds allowance A B R o y x.results) (sym h.certificate_is)
            (subst (λ y. ManyDemand3 numbers ends masks thresholds allowance A B R y x.certificate x.results) (sym h.outcome_agrees)
            (many_demand3 numbers ends masks thresholds allowance A B R f))),
      ),
    )
