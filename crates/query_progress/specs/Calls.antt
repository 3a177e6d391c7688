-- A call with many questions under way: what it comes to, given what is written so far and the questions still to come. Definitions only.
use Rattle.std.specs.Prelude.{ℕ, ◌*◌, List}
use Rattle.field_write.specs.Stored.{placed}
use Rattle.model.specs.Certificate.{answers_of, encode}
use Rattle.model.specs.Compared.{parts_of}
use Rattle.model.specs.Many.{ManyCheck, all_passed, refusal_in, walks, events_of, ending, reached, ManyOutcome, all_accepted, refused_in, AnsweredMany}
use Rattle.model.specs.Runs.{Run}
use Rattle.walk_progress.specs.Progress.{Counts, counts_after, room_at}

-- the outcome of a call that ended so, with these counts
unfoldable pub call_outcome : ManyCheck → Counts → ManyOutcome
call_outcome all_passed c = all_accepted c.answers c.parts c.bytes c.doublings c.halvings
call_outcome (refusal_in q n p) c = refused_in q n p c.answers c.parts c.bytes c.doublings c.halvings

unfoldable pub call_ended : ManyCheck → Counts → List ℕ → List ℕ → List ℕ → AnsweredMany
call_ended e c answers certificate results =
    record { outcome = call_outcome e c; answers = answers; certificate = certificate; results = results }

-- What a call comes to from here on, with the counts of all questions before, the buffers as they are now, and the questions from index q on.
unfoldable pub call_onward : ℕ → ℕ → Counts → List ℕ → List ℕ → List ℕ → List Run → List ℕ → List ℕ → AnsweredMany
call_onward allowance q c answers certificate results rs ms ts =
    let ws = walks (room_at allowance c answers certificate) rs ms ts in
    call_ended (ending q ws) (counts_after c (events_of ws)) (placed answers c.answers (answers_of (parts_of (events_of ws))))
    (placed certificate c.bytes (encode (parts_of (events_of ws)))) (placed results (2 * q) (reached c.answers c.bytes ws))
