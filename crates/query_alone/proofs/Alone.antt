-- The mask of the other runs, the walk over them, and the answers after it. Assumes nothing.
use Prim.Native.Nat.{ℕ, zero, suc, ◌+◌, ◌-◌, ◌*◌, ◌^◌, ◌≤◌, ◌<◌}
use borrow.Author.Tests.{lt-ltb, le-ltb}
use lib.ListN.{length, get_or, take, drop}
use lib.Pow.{pow_pos}
use lib.Seq.{take_all}
use mathlib.Core.List.{List, [], ◌∷◌}
use mathlib.Core.Path.{◌≡◌, refl, sym, ap, ◌∙◌, subst}
use native.Mathlib.Omega.{arith}
use Rattle.field_read.specs.Held.{parts_held}
use Rattle.field_write.specs.Stored.{placed}
use Rattle.model.specs.Alone.{new_bins, other_runs, other_mask, alone_checks, walk_without_answers, full_number}
use Rattle.model.specs.Certificate.{answers_of, encode}
use Rattle.model.specs.Compared.{whole_walk, parts_of, whole_certificate}
use Rattle.model.specs.Refusals.{passed, list_checks, cut, cut_walk, Answered, Outcome, over}
use Rattle.model.specs.Runs.{Run, runs, bit, weight_of_all}
use Rattle.model.proofs.Alone.{others_chosen, other_ones, other_only, alone_passed}
use Rattle.model.proofs.FirstChecks.{then_second}
use Rattle.model.proofs.Masks.{bit_of}
use Rattle.query_alone.specs.Others.{RunsPlaced, Walked, in_gaps_of, FoundAfter}
use Rattle.query_difference.specs.Gaps.{in_gaps}
use Rattle.row_fill.proofs.Keeping.{keeps_row}
use Rattle.row_fill.specs.Keeps.{Keeps}
use Rattle.refusal.specs.Number.{number_of}
use Rattle.refusal.specs.declared.Reason.{Reason}
use Rattle.refusal.specs.declared.Reason.TheVariants.{AnswersFull}
use Rattle.walk_progress.specs.Progress.{Counts, no_counts, counts_with, counts_more, outcome_at, room_with, probes_so, ended, onward}
use Rattle.walk_progress.proofs.Progress.{counts_same, outcome_same, onward_silent, over_placed, room_start}
use Rattle.std.specs.Prelude.{Result, Ok, Err}
use Rattle.walk_rounds.specs.Ends.{number_at, state_at}
use Rattle.walk_write.specs.declared.State.{State}
use Rattle.walk_write.specs.declared.Stopped.{Stopped}
use Rattle.walk_state.specs.State.{runs_at}
use Rattle.walk_tally.specs.Tally.{left_in, halved_in, undoubled}
use Rattle.walk_whole.specs.Whole.{asked_runs, counts_from, ComesTo}
use Rattle.walk_whole.proofs.Plain.{plain_asked, plain_weighs}
use Rattle.walk_write.specs.Writes.{counts_of, ends_with}

-- ---- the mask of the other runs

low_bit : (k : ℕ) → 0 < k → bit (2 ^ k - 1) 0 ≡ 1
low_bit zero h = absurd (omega arith)
low_bit (suc k) h =
    let p = pow_pos k in
    let e : 2 ^ suc k ≡ 2 * 2 ^ k = omega arith in
    bit_of (2 ^ suc k - 1) 0 ∙ omega arith

pub others_mask : (k m r : ℕ) → 0 < k → m ≡ 2 ^ k - 1 → r + bit m 0 * 2 ^ 0 ≡ m → r ≡ other_mask k
unfolding other_mask
others_mask k m r h e f =
    let b = ap (λ x. bit x 0) e ∙ low_bit k h in
    let q : bit m 0 * 2 ^ 0 ≡ 1 * 2 ^ 0 = ap (λ x. x * 2 ^ 0) b in
    let p = pow_pos k in
    omega arith

-- ---- the walk

-- the lists are among the first checks
pub alone_lists : (numbers ends : List ℕ) (t : ℕ) → alone_checks numbers ends t ≡ passed → list_checks numbers ends ≡ passed
unfolding alone_checks
alone_lists numbers ends t e = then_second _ _ (then_second _ _ e)

module _ (numbers ends : List ℕ) (t m : ℕ) (e : alone_checks numbers ends t ≡ passed) (f : m ≡ other_mask (length ends)) where
  others_asked : asked_runs numbers ends [] m ≡ other_runs (runs numbers ends)
  others_asked =
      ap (asked_runs numbers ends []) f ∙ (plain_asked numbers ends (other_mask (length ends)) ∙ others_chosen numbers ends)

  pub others_only : m < 2 ^ length ends
  others_only = subst (λ x. x < 2 ^ length ends) (sym f) (other_only (length ends))

  pub others_met : t ≤ weight_of_all (asked_runs numbers ends [] m)
  others_met =
      let w = ap (λ x. weight_of_all (asked_runs numbers ends [] x)) f ∙ plain_weighs numbers ends (other_mask (length ends)) (other_only (length ends)) in
      let n = other_ones (length ends) in
      let k = (alone_passed numbers ends t e).met in
      omega arith

  pub walked_so : (allowance tally : ℕ) (B A' B' : List ℕ) (r : Result State Stopped) → (left_in tally ≡ allowance) × (halved_in tally ≡ 0)
      → ComesTo numbers ends [] m t 1 0 tally [] B A' B' r → Walked (walk_without_answers t (other_runs (runs numbers ends)) allowance (length B)) allowance B B' r
  unfolding walk_without_answers cut_walk whole_certificate counts_from ends_with ended counts_of room_with probes_so counts_more no_counts
  walked_so allowance tally B A' B' r l h =
      let W = whole_walk t (other_runs (runs numbers ends)) in
      let z : allowance - undoubled tally ≡ 0 = omega (arith, l.0, l.1) in
      let c : Counts = record { answers = 1; parts = 0; bytes = 0; doublings = 0; halvings = 0 } in
      let w = walk_without_answers t (other_runs (runs numbers ends)) allowance (length B) in
      let first : counts_from allowance 1 0 tally ≡ c = counts_same refl refl refl z l.1 in
      let so : onward allowance c [] B W ≡ ended w.refused (counts_more c 0 w.events) [] (placed B 0 (encode (parts_of w.events))) =
      onward_silent allowance c [] B W (omega arith)
      ∙ ap (λ x. ended (cut x W).refused (counts_more c 0 (cut x W).events) [] (placed B 0 (encode (parts_of (cut x W).events))))
      (sym (room_start allowance (length (answers_of (parts_of W))) B)) in
      let d = sym so ∙ ((λ i. onward allowance (sym first i) [] B (whole_walk t (sym others_asked i))) ∙ h.as_asked allowance (omega (arith, l.0, l.1))) in
      let o = outcome_same w.refused (number_at r) _ (counts_of allowance (state_at r)) (ap (λ (x : Answered). x.outcome) d) in
      let g = o.1 in
      record {
        left = omega (arith, h.left_then, l.0, l.1);
        number = sym o.0;
        counts = λ a.
            counts_same (omega arith) (sym (ap (λ (x : Counts). x.parts) g)) (sym (ap (λ (x : Counts). x.bytes) g)) (sym (ap (λ (x : Counts). x.doublings) g))
            (sym (ap (λ (x : Counts). x.halvings) g));
        certificate_is = sym (over_placed (encode (parts_of w.events)) B ∙ ap (λ (x : Answered). x.certificate) d);
      }

-- ---- the answers after it

-- run 0's part of the numbers
first_part : (numbers ends firsts : List ℕ) (rs : List Run) → 0 < length ends → length firsts ≡ length ends → runs_at 0 numbers firsts ends ≡ rs
    → take (get_or ends 0 0 - get_or firsts 0 0) (drop (get_or firsts 0 0) numbers) ≡ new_bins rs
unfolding runs_at new_bins
first_part numbers [] firsts rs h l e = absurd (omega arith)
first_part numbers (x ∷ ends) [] rs h l e = absurd (omega arith)
first_part numbers (x ∷ ends) (y ∷ firsts) rs h l e = ap new_bins e

module _ (numbers ends firsts : List ℕ) (p : RunsPlaced numbers ends firsts) where
  pub new_part : take (get_or ends 0 0 - get_or firsts 0 0) (drop (get_or firsts 0 0) numbers) ≡ new_bins (runs numbers ends)
  new_part = first_part numbers ends firsts (runs numbers ends) p.some_runs p.placed.inside.lengths p.placed.runs_are_law

  pub new_inside : (get_or firsts 0 0 ≤ get_or ends 0 0) × (get_or ends 0 0 ≤ length numbers)
  new_inside = (p.placed.inside.before 0 p.some_runs, p.placed.inside.within 0 p.some_runs)

module _ (run certificate : List ℕ) (allowance : ℕ) (w : State) (A A' : List ℕ) (o : Outcome) where
  abbrev found : List ℕ
  found = in_gaps_of run certificate w.bytes

  -- the bytes of the certificate from its front on
  pub kept_front : (r : Result ℕ Reason) → Keeps (in_gaps (parts_held (take w.bytes certificate)) run) A A' r → Keeps found A A' r
  unfolding in_gaps_of
  kept_front r k = k

  pub found_all : (n : ℕ) → Keeps found A A' (Ok n) → o ≡ outcome_at 0 (counts_with allowance n w.parts w.bytes w.tally)
      → FoundAfter run certificate allowance w A A' o
  unfolding full_number
  found_all n k e =
      let t = take_all (length A) found k.1 in
      let c : n ≡ length (take (length A) found) = k.0 ∙ sym (ap length t) in
      record {
        outcome_agrees = e ∙ rw (le-ltb (length A) (length found) k.1, full_number) (ap (λ x. outcome_at 0 (counts_with allowance x w.parts w.bytes w.tally)) c);
        answers_are = keeps_row found A A' (Ok n) k;
      }

  pub found_full : (reason : Reason) → Keeps found A A' (Err reason)
      → o ≡ outcome_at (number_of reason) (counts_with allowance (length A') w.parts w.bytes w.tally) → FoundAfter run certificate allowance w A A' o
  unfolding full_number
  found_full reason k e =
      record {
        outcome_agrees = e
            ∙ (ap (λ r. outcome_at (number_of r) (counts_with allowance (length A') w.parts w.bytes w.tally)) k.0
            ∙ rw (lt-ltb (length A) (length found) k.1, full_number) (ap (λ x. outcome_at 5 (counts_with allowance (length x) w.parts w.bytes w.tally)) k.2));
        answers_are = keeps_row found A A' (Err reason) k;
      }
