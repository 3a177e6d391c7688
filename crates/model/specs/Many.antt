-- docs/SPECIFICATION.md, 'Many questions': the first checks, the walks and the outcome of a call that puts many questions to one set of runs.
-- Definitions only.
use Rattle.std.specs.Prelude.{ℕ, zero, suc, ◌+◌, ◌*◌, ◌||◌, not, List, [], ◌∷◌, ◌++◌, ltb, eqb, length}
use Rattle.std.specs.Int.Count.{ones}
use Rattle.model.specs.Certificate.{answers_of, encode}
use Rattle.model.specs.Compared.{whole_walk, parts_of, doublings_of, halvings_of}
use Rattle.model.specs.Refusals.{Check, passed, refusal, ◌then◌, refuse_if, count_check, threshold_check, list_checks, mask_check, Room, after, Ended, cut, over}
use Rattle.model.specs.Runs.{Run, runs, chosen}
use Rattle.model.specs.Walk.{Event}

-- Checks of a call: all are passed, or one is refused with its number, its place and the index of its question, 0 if it belongs to none.
pub data ManyCheck : Type 0 where
  all_passed : ManyCheck
  refusal_in : (question number place : ℕ) → ManyCheck

-- a question's check, and the checks after it
unfoldable pub in_question : ℕ → Check → ManyCheck → ManyCheck
in_question q passed c = c
in_question q (refusal n p) c = refusal_in q n p

-- 14: the rows of masks and thresholds differ in length, or the result row has fewer than two places for each question; place the number of masks.
unfoldable pub rows_check : List ℕ → List ℕ → List ℕ → Check
rows_check masks thresholds results =
    refuse_if (not (eqb (length masks) (length thresholds)) || ltb (length results) (2 * length masks)) 14 (length masks)

-- Question by question, from index q on, 13 just before 2: the place of 13 is the question's index, that of 2 the number of ones in its mask.
unfoldable pub question_checks : ℕ → ℕ → List ℕ → List ℕ → ManyCheck
question_checks k q [] ts = all_passed
question_checks k q (m ∷ ms) [] = all_passed
question_checks k q (m ∷ ms) (t ∷ ts) =
    in_question q (mask_check k m q then threshold_check (ones m) t (ones m)) (question_checks k (suc q) ms ts)

-- All is checked before the first walk: 1, 3, 4, 14, then the questions. All runs are checked, chosen or not.
unfoldable pub many_checks : List ℕ → List ℕ → List ℕ → List ℕ → List ℕ → ManyCheck
many_checks numbers ends masks thresholds results =
    in_question 0 (count_check ends then list_checks numbers ends then rows_check masks thresholds results) (question_checks (length ends) 0 masks thresholds)

-- what is left after some events
unfoldable pub left_after : Room → List Event → Room
left_after room [] = room
left_after room (e ∷ es) = left_after (after room e) es

-- The walks of the questions, one after another, each over its chosen runs and with what those before it left of the allowance and the buffers. A walk
-- that a refusal ends is the last.
unfoldable pub walks : Room → List Run → List ℕ → List ℕ → List Ended
walks room rs [] ts = []
walks room rs (m ∷ ms) [] = []
walks room rs (m ∷ ms) (t ∷ ts) =
    let e = cut room (whole_walk t (chosen m rs)) in
    e ∷ elim e.refused [ zero ↦ walks (left_after room e.events) rs ms ts | suc n ↦ [] ]

-- all that some walks do, in order
unfoldable pub events_of : List Ended → List Event
events_of [] = []
events_of (e ∷ es) = e.events ++ events_of es

-- How walks ended, the first of them being question q's: the place of 5, 6 and 7 counts the whole parts of the question's own.
unfoldable pub ending : ℕ → List Ended → ManyCheck
ending q [] = all_passed
ending q (e ∷ es) = elim e.refused [ zero ↦ ending (suc q) es | suc n ↦ refusal_in q (suc n) (length (parts_of e.events)) ]

-- For each finished question the answers and bytes reached so far, a and b being those before the first of them.
unfoldable pub reached : ℕ → ℕ → List Ended → List ℕ
reached a b [] = []
reached a b (e ∷ es) =
    elim e.refused [
      | suc n ↦ []
      | zero ↦
          let answers = a + length (answers_of (parts_of e.events)) in
          let bytes = b + length (encode (parts_of e.events)) in
          answers ∷ bytes ∷ reached answers bytes es
    ]

-- The outcome of a call. The counts are the whole call's; a refused call also returns its number, its place and its question's index.
pub data ManyOutcome : Type 0 where
  all_accepted : (answers parts bytes doublings halvings : ℕ) → ManyOutcome
  refused_in : (question number place answers parts bytes doublings halvings : ℕ) → ManyOutcome

unfoldable pub many_outcome : ManyCheck → List Event → ManyOutcome
many_outcome c es =
    let ps = parts_of es in
    let a = length (answers_of ps) in
    let b = length (encode ps) in
    let d = doublings_of es in
    let h = halvings_of es in
    elim c [ all_passed ↦ all_accepted a (length ps) b d h | refusal_in q n p ↦ refused_in q n p a (length ps) b d h ]

-- The outcome with what then stands in the answer buffer, in the certificate buffer and in the result row.
pub record AnsweredMany : Type 0 where
  pub outcome : ManyOutcome
  pub answers : List ℕ
  pub certificate : List ℕ
  pub results : List ℕ

-- Answers and certificates follow each other in the two buffers.
unfoldable pub answered_many : ManyCheck → List Ended → List ℕ → List ℕ → List ℕ → AnsweredMany
answered_many c ws answers certificate results =
    record {
      outcome = many_outcome c (events_of ws);
      answers = over (answers_of (parts_of (events_of ws))) answers;
      certificate = over (encode (parts_of (events_of ws))) certificate;
      results = over (reached 0 0 ws) results;
    }

-- the walks of a call, with an allowance that is never refilled and so many places in the buffers
unfoldable pub walks_of : List ℕ → List ℕ → List ℕ → List ℕ → ℕ → List ℕ → List ℕ → List Ended
walks_of numbers ends masks thresholds allowance answers certificate =
    walks (record { probes = allowance; answers = length answers; bytes = length certificate }) (runs numbers ends) masks thresholds

unfoldable pub query_many : List ℕ → List ℕ → List ℕ → List ℕ → ℕ → List ℕ → List ℕ → List ℕ → AnsweredMany
query_many numbers ends masks thresholds allowance answers certificate results =
    elim (many_checks numbers ends masks thresholds results) [
      | all_passed ↦
          let ws = walks_of numbers ends masks thresholds allowance answers certificate in
          answered_many (ending 0 ws) ws answers certificate results
      | refusal_in q n p ↦ answered_many (refusal_in q n p) [] answers certificate results
    ]
