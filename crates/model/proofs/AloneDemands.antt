-- Demands 2 and 3 for the call that asks what one run found alone: every clause, for any lists and threshold that pass its first checks, any allowance and any
-- buffers. Assumes nothing.
use Prim.Native.Nat.{ℕ, zero, suc, ◌≤◌, ◌<◌}
use borrow.Author.Tests.{lt-ltb, le-ltb, eq-eqb, ne_eqb}
use lib.ListN.{length, take}
use lib.Seq.{take_all, take-nil}
use mathlib.Core.List.{List}
use mathlib.Core.Logic.{⊎_elim, ◌≢◌}
use mathlib.Core.Path.{◌≡◌, refl, sym, ◌∙◌, subst}
use native.Mathlib.Omega.{arith}
use Rattle.model.specs.Alone.{other_runs, other_mask, alone_checks, alone_in, walk_without_answers, answers_after, full_number, ended_after, query_alone}
use Rattle.model.specs.AloneDemands.{AloneExact, walk_refused_by, AnswersAlone, AloneCertified, AloneDemand2, AloneDemand3}
use Rattle.model.specs.Certificate.{Part, answers_of, encode, TrueCertificate}
use Rattle.model.specs.Compared.{whole_walk, parts_of, whole_certificate}
use Rattle.model.specs.Demands.{Fits, answers_in, parts_in, bytes_in, doublings_made, halvings_made, refused_by, Bounded}
use Rattle.model.specs.Refusals.{passed, Room, Ended, cut, cut_walk, Outcome, Answered, outcome_with, answered_with, checked_first, valid, check_chosen}
use Rattle.model.specs.Runs.{Run, past_bin, runs}
use Rattle.model.specs.Walk.{Event}
use Rattle.model.proofs.Alone.{others_chosen, alone_chosen_checks, alone_fit, new_rising, alone_exact, others_clear, never_full}
use Rattle.model.proofs.Checking.{chosen_accepted}
use Rattle.model.proofs.Demands.{whole_true, outcome_parts, outcome_doublings, outcome_halvings, outcome_refused, all_parts_law, certified_walk, bounded_walk, answers_front, certificate_front}
use Rattle.model.proofs.Tests.{lt_or_le}
use Rattle.model.proofs.Truth.{Fit}

-- ---- after the walk

-- the refusal that ended the walk, from the one of the call
by_five : (o : Outcome) → refused_by o ≡ 5 → walk_refused_by o ≡ 0
unfolding walk_refused_by
by_five o e = rw (eq-eqb (refused_by o) 5 e, walk_refused_by)

by_other : (o : Outcome) → refused_by o ≢ 5 → walk_refused_by o ≡ refused_by o
unfolding walk_refused_by
by_other o h = rw (ne_eqb (refused_by o) 5 h, walk_refused_by)

module _ (found : List ℕ) (places : ℕ) where
  -- after a walk that reached its end
  one_more : (es : List Event) → places < length found → (ended_after (record { events = es; refused = 0 }) found places).refused ≡ 5
  unfolding ended_after full_number
  one_more es q = rw (lt-ltb places (length found) q, full_number)

  -- where all answers fit, the call is refused as its walk is
  pub all_fit : (es : List Event) (n : ℕ) → length found ≤ places → (ended_after (record { events = es; refused = n }) found places).refused ≡ n
  unfolding ended_after full_number
  all_fit es zero q = rw (le-ltb places (length found) q, full_number)
  all_fit es (suc n) q = refl

  -- The answers that are written, given all of them, after a walk that 5 did not end.
  answers_alone : (rs : List Run) (t : ℕ) → AloneExact rs t found → (es : List Event) (n : ℕ) → n ≢ 5
      → AnswersAlone rs t (ended_after (record { events = es; refused = n }) found places).refused places
      (take places (answers_after (record { events = es; refused = n }) found))
  unfolding ended_after answers_after
  answers_alone rs t x es zero h =
      ⊎_elim
      (λ (q : places < length found).
      rw (one_more es q) (record { exact = λ e. absurd (omega arith); full = λ e. (found, x, q, refl); stopped = λ e d. absurd (d refl) }))
      (λ (q : length found ≤ places).
      rw (all_fit es 0 q, take_all places found q)
      (record { exact = λ e. x; full = λ e. absurd (omega arith); stopped = λ e d. absurd (e refl) }))
      (lt_or_le places (length found))
  answers_alone rs t x es (suc n) h =
      record { exact = λ e. absurd (omega arith); full = λ e. absurd (h e); stopped = λ e d. take-nil places }

  walked_by : (a : ℕ) (es : List Event) (n : ℕ) → n ≢ 5 → walk_refused_by (outcome_with a (ended_after (record { events = es; refused = n }) found places)) ≡ n
  unfolding ended_after
  walked_by a es zero h =
      ⊎_elim
      (λ (q : places < length found). by_five _ (outcome_refused a es _ ∙ one_more es q))
      (λ (q : length found ≤ places). let z = outcome_refused a es _ ∙ all_fit es 0 q in by_other _ (omega arith) ∙ z)
      (lt_or_le places (length found))
  walked_by a es (suc n) h = let z = outcome_refused a es (suc n) in by_other _ (λ e. h (sym z ∙ e)) ∙ z

  -- only a walk that 7 ended is refused as 7
  pub spent_walked : (a : ℕ) (es : List Event) (n : ℕ) → n ≢ 5 → refused_by (outcome_with a (ended_after (record { events = es; refused = n }) found places)) ≡ 7 → n ≡ 7
  spent_walked a es n h e = sym (walked_by a es n h) ∙ (by_other _ (omega arith) ∙ e)

-- ---- the call

module _ (numbers ends : List ℕ) (t allowance : ℕ) (answers certificate : List ℕ) where
  abbrev others : List Run
  others = other_runs (runs numbers ends)

  abbrev whole : List Part
  whole = whole_certificate t others

  abbrev room : Room
  room = record { probes = allowance; answers = length (answers_of whole); bytes = length certificate }

  abbrev walked : Ended
  walked = cut room (whole_walk t others)

  abbrev found : List ℕ
  found = alone_in t (runs numbers ends)

  abbrev written : List ℕ
  written = take (length answers) (answers_after walked found)

  abbrev ended : Ended
  ended = ended_after walked found (length answers)

  given : Answered
  given = answered_with written ended answers certificate

  given_passed : alone_checks numbers ends t ≡ passed → query_alone numbers ends t allowance answers certificate ≡ given
  unfolding query_alone walk_without_answers cut_walk checked_first given
  given_passed e = rw e

  -- 5 did not end the walk
  not_full : walked.refused ≢ 5
  unfolding walk_without_answers cut_walk
  not_full = never_full t others allowance (length certificate)

  -- The certificate of a walk that reached its end is accepted by the checker that is told the other runs.
  accepted_alone : Fit others t → alone_checks numbers ends t ≡ passed → walked.refused ≡ 0
      → check_chosen numbers ends (other_mask (length ends)) t (encode (parts_of walked.events)) ≡ valid (length (answers_of whole)) (length (parts_of walked.events))
  accepted_alone g e z =
      rw (all_parts_law others t room z)
      (chosen_accepted numbers ends (other_mask (length ends)) t whole (alone_chosen_checks numbers ends t e)
      (subst (λ rs. TrueCertificate rs t whole) (sym (others_chosen numbers ends)) (whole_true g)))

  certified_alone : Fits past_bin numbers → alone_checks numbers ends t ≡ passed
      → AloneCertified numbers ends t (refused_by given.outcome) (walk_refused_by given.outcome) (parts_in given.outcome) (length answers)
      (take (answers_in given.outcome) given.answers) (take (bytes_in given.outcome) given.certificate)
  unfolding given answered_with ended_after
  certified_alone h e =
      let g = alone_fit numbers ends t h e in
      let c = certified_walk others t room g in
      rw (
        answers_front written ended answers certificate,
        certificate_front written ended answers certificate,
        outcome_refused _ ended.events ended.refused,
        walked_by found (length answers) _ walked.events walked.refused not_full,
        outcome_parts _ ended.events ended.refused,
      )
      (record {
        answers_are =
            answers_alone found (length answers) (runs numbers ends) t (alone_exact (runs numbers ends) t g (new_rising numbers ends t h e)) walked.events
            walked.refused not_full;
        certified = rw (← c.answered) c;
        clear = others_clear numbers ends t g;
        checked = accepted_alone g e;
      })

  bounded_alone : Fit others t → (ps : List Part) → TrueCertificate others t ps
      → Bounded others t allowance walked.events (refused_by given.outcome) (parts_in given.outcome) (doublings_made given.outcome)
      (halvings_made given.outcome) (take (bytes_in given.outcome) given.certificate) (length ps)
  unfolding given answered_with ended_after
  bounded_alone g ps c =
      let b = bounded_walk others t room g ps c in
      rw (
        certificate_front written ended answers certificate,
        outcome_parts _ ended.events ended.refused,
        outcome_doublings _ ended.events ended.refused,
        outcome_halvings _ ended.events ended.refused,
      )
      (record {
        fewest = b.fewest;
        written = b.written;
        few = b.few;
        each_whole = b.each_whole;
        each = b.each;
        sum = b.sum;
        doubling_sum = b.doubling_sum;
        halving_sum = b.halving_sum;
        enough = λ l e. b.enough l (spent_walked found (length answers) _ walked.events walked.refused not_full e);
      })

  pub alone_demand2 : Fits past_bin numbers
      → AloneDemand2 numbers ends t (length answers) (query_alone numbers ends t allowance answers certificate).outcome
      (query_alone numbers ends t allowance answers certificate).answers (query_alone numbers ends t allowance answers certificate).certificate
  alone_demand2 h = record { for_every = λ e. rw (given_passed e) (certified_alone h e) }

  pub alone_demand3 : Fits past_bin numbers
      → AloneDemand3 numbers ends t allowance certificate (query_alone numbers ends t allowance answers certificate).outcome
      (query_alone numbers ends t allowance answers certificate).certificate
  unfolding cut_walk
  alone_demand3 h = record { for_every = λ e ps c. rw (given_passed e) (bounded_alone (alone_fit numbers ends t h e) ps c) }
