-- What the call returns, from a walk that a refusal ended or from the answers after it, and that the demands hold of it. Assumes nothing.
use Prim.Native.Nat.{ℕ, zero, suc, ◌≤◌}
use lib.ListN.{length, take, drop, length-append}
use lib.Seq.{take-nil, take-append_seam}
use mathlib.Core.List.{List}
use mathlib.Core.Logic.{◌≢◌}
use mathlib.Core.Path.{◌≡◌, refl, sym, ap, ◌∙◌, subst}
use native.Mathlib.Omega.{arith}
use Rattle.field_read.proofs.Held.{held_encode}
use Rattle.field_read.specs.Held.{parts_held}
use Rattle.model.specs.Alone.{new_bins, other_runs, other_mask, alone_checks, alone_in, walk_without_answers, answers_after, full_number, ended_after, query_alone}
use Rattle.model.specs.AloneDemands.{AloneDemand2, AloneDemand3}
use Rattle.model.specs.Certificate.{encode}
use Rattle.model.specs.Compared.{parts_of, whole_certificate}
use Rattle.model.specs.Demands.{Fits}
use Rattle.model.specs.Refusals.{passed, refusal, Ended, cut_walk, Outcome, refused, Answered, answered_with, checked_first, over, outcome_with}
use Rattle.model.specs.Runs.{past_bin, runs}
use Rattle.model.proofs.Alone.{others_chosen, alone_passed, alone_fit, new_rising}
use Rattle.model.proofs.AloneDemands.{alone_demand2, alone_demand3}
use Rattle.model.proofs.Checking.{Narrow, chosen_narrow}
use Rattle.model.proofs.Demands.{whole_true, all_parts_law}
use Rattle.query.proofs.Questions.{returned}
use Rattle.query.specs.Outcomes.{Returns}
use Rattle.query_alone.specs.Others.{Walked, in_gaps_of, FoundAfter}
use Rattle.query_difference.specs.Gaps.{in_gaps}
use Rattle.query_difference.proofs.Difference.{gaps_without}
use Rattle.walk_progress.specs.Progress.{Counts, counts_with, outcome_at}
use Rattle.walk_progress.proofs.Progress.{outcome_start}
use Rattle.std.specs.Prelude.{Result, Ok, Err}
use Rattle.refusal.proofs.Number.{number_above}
use Rattle.refusal.specs.Number.{number_of}
use Rattle.walk_rounds.specs.Ends.{number_at, state_at}
use Rattle.walk_write.specs.declared.State.{State}
use Rattle.walk_write.specs.declared.Stopped.{Stopped}

-- a walk that a refusal ended leaves no answers, and one that reached its end leaves those that fit
stopped_alone : (n : ℕ) (e : Ended) (found A B : List ℕ) → e.refused ≡ suc n
    → answered_with (take (length A) (answers_after e found)) (ended_after e found (length A)) A B
    ≡ record { outcome = outcome_with 0 (record { events = e.events; refused = suc n }); answers = A; certificate = over (encode (parts_of e.events)) B }
unfolding answered_with answers_after ended_after over
stopped_alone n e found A B h = rw (h, answers_after, ended_after, take-nil {A = ℕ} (length A)) refl

ended_alone : (e : Ended) (found A B : List ℕ) → e.refused ≡ 0
    → answered_with (take (length A) (answers_after e found)) (ended_after e found (length A)) A B
    ≡ answered_with (take (length A) found) (record { events = e.events; refused = full_number (length A) found }) A B
unfolding answers_after ended_after full_number
ended_alone e found A B h = rw (h, answers_after, ended_after) refl

module _ (numbers ends : List ℕ) (t allowance : ℕ) (A B B' : List ℕ) (r : Result State Stopped) (passes : alone_checks numbers ends t ≡ passed)
    (walked : Walked (walk_without_answers t (other_runs (runs numbers ends)) allowance (length B)) allowance B B' r) where
  abbrev e : Ended
  e = walk_without_answers t (other_runs (runs numbers ends)) allowance (length B)

  bytes_are : (state_at r).bytes ≡ length (encode (parts_of e.events))
  unfolding Rattle.walk_progress.specs.Progress.counts_more Rattle.walk_progress.specs.Progress.no_counts
  bytes_are = ap (λ (c : Counts). c.bytes) (walked.counts 0) ∙ omega arith

  pub bytes_fit : (state_at r).bytes ≤ length B'
  unfolding over
  bytes_fit =
      let b = bytes_are in
      let n = ap length walked.certificate_is ∙ length-append (encode (parts_of e.events)) (drop (length (encode (parts_of e.events))) B) in
      omega arith

  -- the outcome with so many answers
  outcome_now : (n a : ℕ) → outcome_at n (counts_with allowance a (state_at r).parts (state_at r).bytes (state_at r).tally) ≡ outcome_with a (record { events = e.events; refused = n })
  outcome_now n a = ap (outcome_at n) (walked.counts a) ∙ sym (outcome_start a e.events n)

  passed_first : query_alone numbers ends t allowance A B
      ≡ answered_with (take (length A) (answers_after e (alone_in t (runs numbers ends)))) (ended_after e (alone_in t (runs numbers ends)) (length A)) A B
  unfolding query_alone checked_first
  passed_first = rw passes refl

  pub alone_stopped : (s : Stopped) → r ≡ Err s → (o : Outcome)
      → o ≡ outcome_at (number_of s.reason) (counts_with allowance 0 s.at.parts s.at.bytes s.at.tally) → Returns (query_alone numbers ends t allowance A B) o A B'
  alone_stopped s i o h =
      let n = number_above s.reason in
      let k = ap number_at i in
      let m : e.refused ≡ suc n.0 = sym walked.number ∙ (k ∙ n.1) in
      let q = passed_first ∙ stopped_alone n.0 e (alone_in t (runs numbers ends)) A B m in
      let c : (a : ℕ) → outcome_at (number_of s.reason) (counts_with allowance a s.at.parts s.at.bytes s.at.tally) ≡ outcome_with a (record { events = e.events; refused = number_of s.reason }) =
      λ a.
      ap (λ (w : State). outcome_at (number_of s.reason) (counts_with allowance a w.parts w.bytes w.tally)) (sym (ap state_at i)) ∙ outcome_now (number_of s.reason) a in
      record {
        outcome_agrees = h ∙ (c 0 ∙ (ap (λ x. outcome_with 0 (record { events = e.events; refused = x })) n.1 ∙ sym (ap (λ (x : Answered). x.outcome) q)));
        answers_are = sym (ap (λ (x : Answered). x.answers) q);
        certificate_is = walked.certificate_is ∙ sym (ap (λ (x : Answered). x.certificate) q);
      }

  -- what lies in the gaps of the bytes written is what the new test found alone
  found_is : Fits past_bin numbers → (number_at r) ≡ 0 → in_gaps_of (new_bins (runs numbers ends)) B' (state_at r).bytes ≡ alone_in t (runs numbers ends)
  unfolding in_gaps_of over alone_in walk_without_answers cut_walk
  found_is f z =
      let g = alone_fit numbers ends t f passes in
      let whole = whole_certificate t (other_runs (runs numbers ends)) in
      let c = whole_true g in
      let k : Narrow (other_runs (runs numbers ends)) =
      subst Narrow (others_chosen numbers ends) (chosen_narrow numbers ends (other_mask (length ends)) (alone_passed numbers ends t passes).few_runs) in
      let w : take (state_at r).bytes B' ≡ encode (parts_of e.events) =
      (λ i. take (bytes_are i) (walked.certificate_is i)) ∙ take-append_seam (encode (parts_of e.events)) _ in
      let p : parts_of e.events ≡ whole = all_parts_law (other_runs (runs numbers ends)) t _ (sym walked.number ∙ z) in
      let h : parts_held (take (state_at r).bytes B') ≡ whole = ap parts_held (w ∙ ap encode p) ∙ held_encode whole k c.covering c.each in
      ap (λ ps. in_gaps ps (new_bins (runs numbers ends))) h ∙ gaps_without _ whole (new_bins (runs numbers ends)) c.covering (new_rising numbers ends t f passes)

  pub alone_ended : Fits past_bin numbers → (number_at r) ≡ 0 → (A' : List ℕ) (o : Outcome) → FoundAfter (new_bins (runs numbers ends)) B' allowance (state_at r) A A' o
      → Returns (query_alone numbers ends t allowance A B) o A' B'
  unfolding answered_with
  alone_ended f z A' o h =
      let found = alone_in t (runs numbers ends) in
      let s = found_is f z in
      let q = passed_first ∙ ended_alone e found A B (sym walked.number ∙ z) in
      record {
        outcome_agrees = h.outcome_agrees
            ∙ (ap (λ x. outcome_at (full_number (length A) x) (counts_with allowance (length (take (length A) x)) (state_at r).parts (state_at r).bytes (state_at r).tally)) s
            ∙ (outcome_now (full_number (length A) found) (length (take (length A) found)) ∙ sym (ap (λ (x : Answered). x.outcome) q)));
        answers_are = h.answers_are ∙ (ap (λ x. over (take (length A) x) A) s ∙ sym (ap (λ (x : Answered). x.answers) q));
        certificate_is = walked.certificate_is ∙ sym (ap (λ (x : Answered). x.certificate) q);
      }

-- ---- the call

-- demands 2 and 3 hold of what is returned
pub demanded : (numbers ends : List ℕ) (t allowance : ℕ) (A B : List ℕ) → Fits past_bin numbers → (A' B' : List ℕ) (o : Outcome)
    → Returns (query_alone numbers ends t allowance A B) o A' B'
    → Returns (query_alone numbers ends t allowance A B) o A' B' × (AloneDemand2 numbers ends t (length A) o A' B' × AloneDemand3 numbers ends t allowance B o B')
demanded numbers ends t allowance A B f A' B' o h =
    let q = query_alone numbers ends t allowance A B in (
      h,
      (
        returned (AloneDemand2 numbers ends t (length A)) q h (alone_demand2 numbers ends t allowance A B f),
        returned (λ x A₁ B₁. AloneDemand3 numbers ends t allowance B x B₁) q h (alone_demand3 numbers ends t allowance A B f),
      ),
    )
