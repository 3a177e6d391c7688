-- A question under way: what it comes to, given what is written so far and what its walk is still to do. Definitions only.
use Rattle.std.specs.Prelude.{ℕ, zero, suc, ◌+◌, ◌-◌, Bool, true, false, List, [], leb, length}
use Rattle.field_write.specs.Stored.{placed}
use Rattle.model.specs.Certificate.{answers_of, encode}
use Rattle.model.specs.Compared.{parts_of, doublings_of, halvings_of}
use Rattle.model.specs.Refusals.{Room, Ended, cut, Outcome, accepted, refused, Answered}
use Rattle.model.specs.Walk.{Event}
use Rattle.walk_tally.specs.Tally.{halved_in, undoubled}

-- what is written and made so far
pub record Counts : Type 0 where
  pub answers : ℕ
  pub parts : ℕ
  pub bytes : ℕ
  pub doublings : ℕ
  pub halvings : ℕ

unfoldable pub no_counts : Counts
no_counts = record { answers = 0; parts = 0; bytes = 0; doublings = 0; halvings = 0 }

-- the counts where a tally tells how the probes of an allowance are spent
abbrev pub counts_with : ℕ → ℕ → ℕ → ℕ → ℕ → Counts
counts_with allowance answers parts bytes tally =
    record { answers = answers; parts = parts; bytes = bytes; doublings = allowance - undoubled tally; halvings = halved_in tally }

-- the probes of both kinds
unfoldable pub probes_so : Counts → ℕ
probes_so c = c.doublings + c.halvings

-- the outcome of a walk that ended with these counts, and of one that a refusal ended
unfoldable pub outcome_at : ℕ → Counts → Outcome
outcome_at zero c = accepted c.answers c.parts c.bytes c.doublings c.halvings
outcome_at (suc n) c = refused (suc n) c.parts c.answers c.bytes c.doublings c.halvings

unfoldable pub ended : ℕ → Counts → List ℕ → List ℕ → Answered
ended n c answers certificate = record { outcome = outcome_at n c; answers = answers; certificate = certificate }

-- the counts with so many answers more and what some events add besides, and with all that they add
unfoldable pub counts_more : Counts → ℕ → List Event → Counts
counts_more c answers es =
    record {
      answers = c.answers + answers;
      parts = c.parts + length (parts_of es);
      bytes = c.bytes + length (encode (parts_of es));
      doublings = c.doublings + doublings_of es;
      halvings = c.halvings + halvings_of es;
    }

abbrev pub counts_after : Counts → List Event → Counts
counts_after c es = counts_more c (length (answers_of (parts_of es))) es

-- A walk whose count of answers is above the places of the answer buffer is told not to write answers: it writes and counts none, so that 5 cannot end it.
unfoldable pub writes_answers : Counts → List ℕ → Bool
writes_answers c answers = leb c.answers (length answers)

-- of these answers those that are written
unfoldable pub answers_written : Counts → List ℕ → List ℕ → List ℕ
answers_written c answers found = elim (writes_answers c answers) [ true ↦ found | false ↦ [] ]

-- what is left of the answer buffer for what a walk is still to do: room for all its answers where none is written
unfoldable pub places_for : Counts → List ℕ → List Event → ℕ
places_for c answers es = elim (writes_answers c answers) [ true ↦ length answers - c.answers | false ↦ length (answers_of (parts_of es)) ]

-- what is left of the allowance and of the buffers, so many places for answers
unfoldable pub room_with : ℕ → Counts → ℕ → List ℕ → Room
room_with allowance c places certificate = record { probes = allowance - probes_so c; answers = places; bytes = length certificate - c.bytes }

abbrev pub room_at : ℕ → Counts → List ℕ → List ℕ → Room
room_at allowance c answers certificate = room_with allowance c (length answers - c.answers) certificate

-- What a question comes to from here on, with counts, the buffers as they are now, and what its walk is still to do.
unfoldable pub finish : Counts → List ℕ → List ℕ → Ended → Answered
finish c answers certificate e =
    let found = answers_written c answers (answers_of (parts_of e.events)) in
    ended e.refused (counts_more c (length found) e.events) (placed answers c.answers found) (placed certificate c.bytes (encode (parts_of e.events)))

unfoldable pub onward : ℕ → Counts → List ℕ → List ℕ → List Event → Answered
onward allowance c answers certificate es = finish c answers certificate (cut (room_with allowance c (places_for c answers es) certificate) es)

-- the counts after a part, an answer being written or not, and after some probes of either kind
unfoldable pub with_answer : Counts → Counts
with_answer c = record { answers = c.answers + 1; parts = c.parts + 1; bytes = c.bytes + 15; doublings = c.doublings; halvings = c.halvings }

unfoldable pub with_unwritten : Counts → Counts
with_unwritten c = record { answers = c.answers; parts = c.parts + 1; bytes = c.bytes + 15; doublings = c.doublings; halvings = c.halvings }

unfoldable pub with_gap : Counts → Counts
with_gap c = record { answers = c.answers; parts = c.parts + 1; bytes = c.bytes + 19; doublings = c.doublings; halvings = c.halvings }

unfoldable pub with_probes : ℕ → ℕ → Counts → Counts
with_probes d h c = record { answers = c.answers; parts = c.parts; bytes = c.bytes; doublings = c.doublings + d; halvings = c.halvings + h }
