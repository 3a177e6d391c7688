-- docs/SPECIFICATION.md, 'The refusals': the first checks, the walk with an allowance and buffers, and the outcomes of question and checker for
-- any input. Definitions only.
use Rattle.std.specs.Prelude.{ℕ, zero, suc, ◌+◌, ◌-◌, ◌/◌, ◌^◌, Bool, true, false, ◌&&◌, ◌||◌, not, List, [], ◌∷◌, ◌++◌, ltb, leb, eqb, length, drop}
use Rattle.std.proofs.Math.Option.{Option, none, some}
use Rattle.std.specs.Int.Bits.{bit_and}
use Rattle.std.specs.Int.Count.{ones}
use Rattle.model.specs.Certificate.{Part, answer, gap, first_of, last_of, answers_of, encode, size_of, unreadable, read, read_field}
use Rattle.model.specs.Compared.{whole_walk, parts_of, doublings_of, halvings_of}
use Rattle.model.specs.Between.{within}
use Rattle.model.specs.Runs.{Run, first_bin, past_bin, slice, runs, unrisen_run, holds, weighted, weight_of, mask_of_all, names, chosen, most_runs, most_numbers, most_weight}
use Rattle.model.specs.Walk.{Event, sought, doubled, halved, wrote}

-- A check is passed or is refused with the refusal's number and place. Checks are made in order, and the first one met decides.
pub data Check : Type 0 where
  passed : Check
  refusal : (number place : ℕ) → Check

infixr 20 ◌then◌
unfoldable pub ◌then◌ : Check → Check → Check
passed then c = c
refusal n p then c = refusal n p

-- refused with a number and a place where a test holds, or at the place found
unfoldable pub refuse_if : Bool → ℕ → ℕ → Check
refuse_if true n p = refusal n p
refuse_if false n p = passed

unfoldable pub refuse_at : ℕ → Option ℕ → Check
refuse_at n none = passed
refuse_at n (some p) = refusal n p

-- An end is below the one before: its index, the first such. (Here: b is the one before and i the index of the first of the ends.)
unfoldable pub falls_from : ℕ → ℕ → List ℕ → Option ℕ
falls_from b i [] = none
falls_from b i (e ∷ ends) = elim (ltb e b) [ true ↦ some i | false ↦ falls_from e (suc i) ends ]

unfoldable pub last_end : ℕ → List ℕ → ℕ
last_end b [] = b
last_end b (e ∷ ends) = last_end e ends

-- A number is not above the one before it in its run, zeros at the run's start passed over: its index in the row as it is lent, the first such. (Here: the first
-- run starts at index a.)
unfoldable pub unrisen_in : ℕ → List ℕ → List ℕ → Option ℕ
unrisen_in a numbers [] = none
unrisen_in a numbers (e ∷ ends) = elim (unrisen_run a (slice numbers a e)) [ some i ↦ some i | none ↦ unrisen_in e numbers ends ]

-- The first checks, those of the door, in pieces. 1: k is 0 or above 64, place k.
unfoldable pub count_check : List ℕ → Check
count_check ends = refuse_if (eqb (length ends) 0 || ltb most_runs (length ends)) 1 (length ends)

-- 17: the row of weights has not k weights, place k; else, a weight is outside 1 to 255: its index, the first such. (Here: i is the index of the first of them.)
unfoldable pub misweighed : ℕ → List ℕ → Option ℕ
misweighed i [] = none
misweighed i (w ∷ weights) = elim (eqb w 0 || ltb most_weight w) [ true ↦ some i | false ↦ misweighed (suc i) weights ]

unfoldable pub weights_check : ℕ → List ℕ → Check
weights_check k weights = refuse_if (not (eqb (length weights) k)) 17 k then refuse_at 17 (misweighed 0 weights)

-- 2: the threshold is 0 or above the number of the runs asked about, or the wanted weight 0 or above what they weigh together.
unfoldable pub threshold_check : ℕ → ℕ → ℕ → Check
threshold_check most t place = refuse_if (eqb t 0 || ltb most t) 2 place

-- what all runs weigh together, by the row of their weights
unfoldable pub sum_of_weights : List ℕ → ℕ
sum_of_weights [] = 0
sum_of_weights (w ∷ weights) = w + sum_of_weights weights

-- 3: an end is below the one before; else, the last end is not the length of the numbers, or that is above 1,048,576. 4: a run does not rise.
unfoldable pub list_checks : List ℕ → List ℕ → Check
list_checks numbers ends =
    refuse_at 3 (falls_from 0 0 ends) then
    refuse_if (not (eqb (last_end 0 ends) (length numbers)) || ltb most_numbers (length numbers)) 3 (length ends) then
    refuse_at 4 (unrisen_in 0 numbers ends)

-- 13: a mask that is to choose runs is zero or names a run not below k.
unfoldable pub mask_check : ℕ → ℕ → ℕ → Check
mask_check k m place = refuse_if (eqb m 0 || not (eqb (m / 2 ^ k) 0)) 13 place

-- The first checks of a call with a threshold, in the order of the table. It is held against the number of the runs asked about.
abbrev pub threshold_checks : ℕ → List ℕ → List ℕ → ℕ → Check
threshold_checks most numbers ends t = count_check ends then threshold_check most t t then list_checks numbers ends

-- Those of a question over all runs.
unfoldable pub first_checks : List ℕ → List ℕ → ℕ → Check
first_checks numbers ends t = threshold_checks (length ends) numbers ends t

-- Those of a question over all runs with weights: 17 right after 1, and the wanted weight is held against the sum of the weights.
unfoldable pub weighted_checks : List ℕ → List ℕ → List ℕ → ℕ → Check
weighted_checks numbers ends weights wanted =
    count_check ends then weights_check (length ends) weights then threshold_check (sum_of_weights weights) wanted wanted then list_checks numbers ends

-- Those over the runs that a mask chooses: the threshold is held against the ones in the mask.
unfoldable pub chosen_checks : List ℕ → List ℕ → ℕ → ℕ → Check
chosen_checks numbers ends m t =
    count_check ends then mask_check (length ends) m 0 then threshold_check (ones m) t t then list_checks numbers ends

-- What is left of the allowance, the answer buffer and the certificate buffer.
pub record Room : Type 0 where
  pub probes : ℕ
  pub answers : ℕ
  pub bytes : ℕ

-- At a probe 7, if the allowance is used up. At an answer 5, if the answer buffer is full, before 6. At any part 6, if it does not fit whole in the
-- certificate buffer. (0: nothing is refused.)
unfoldable pub met : Room → Event → ℕ
met room (sought i) = 0
met room (doubled i) = elim (eqb room.probes 0) [ true ↦ 7 | false ↦ 0 ]
met room (halved i) = elim (eqb room.probes 0) [ true ↦ 7 | false ↦ 0 ]
met room (wrote (answer v m)) =
    elim (eqb room.answers 0) [ true ↦ 5 | false ↦ elim (ltb room.bytes 15) [ true ↦ 6 | false ↦ 0 ] ]
met room (wrote (gap f l m)) = elim (ltb room.bytes 19) [ true ↦ 6 | false ↦ 0 ]

unfoldable pub after : Room → Event → Room
after room (sought i) = room
after room (doubled i) = record { probes = room.probes - 1; answers = room.answers; bytes = room.bytes }
after room (halved i) = record { probes = room.probes - 1; answers = room.answers; bytes = room.bytes }
after room (wrote (answer v m)) = record { probes = room.probes; answers = room.answers - 1; bytes = room.bytes - 15 }
after room (wrote (gap f l m)) = record { probes = room.probes; answers = room.answers; bytes = room.bytes - 19 }

-- A walk that refusal 5, 6 or 7 ends is the whole walk up to that check. What was done, and the refusal's number, 0 where no refusal ends it.
pub record Ended : Type 0 where
  pub events : List Event
  pub refused : ℕ

unfoldable pub cut : Room → List Event → Ended
cut room [] = record { events = []; refused = 0 }
cut room (e ∷ es) =
    elim (met room e) [
      | zero ↦ let rest = cut (after room e) es in record { events = e ∷ rest.events; refused = rest.refused }
      | suc n ↦ record { events = []; refused = suc n }
    ]

unfoldable pub cut_walk : ℕ → List Run → ℕ → ℕ → ℕ → Ended
cut_walk t rs allowance answers bytes = cut (record { probes = allowance; answers = answers; bytes = bytes }) (whole_walk t rs)

-- An accepted question returns counts of answers, parts and bytes, and of doubling and of halving probes. A refused one returns its number, its place, the
-- answers and certificate bytes written and the probes made, of either kind; these are zero at the door, and the place of a walk refusal is the number of
-- whole parts written.
pub data Outcome : Type 0 where
  accepted : (answers parts bytes doublings halvings : ℕ) → Outcome
  refused : (number place answers bytes doublings halvings : ℕ) → Outcome

-- The outcome of a question with what then stands in the answer buffer and in the certificate buffer.
pub record Answered : Type 0 where
  pub outcome : Outcome
  pub answers : List ℕ
  pub certificate : List ℕ

-- what was written, and every later place unchanged
unfoldable pub over : List ℕ → List ℕ → List ℕ
over written buffer = written ++ drop (length written) buffer

-- what is returned where so many answers are written
unfoldable pub outcome_with : ℕ → Ended → Outcome
outcome_with a e =
    let ps = parts_of e.events in
    let b = length (encode ps) in
    let d = doublings_of e.events in
    let h = halvings_of e.events in
    elim e.refused [ zero ↦ accepted a (length ps) b d h | suc n ↦ refused (suc n) (length ps) a b d h ]

-- and where these are, with the buffers
unfoldable pub answered_with : List ℕ → Ended → List ℕ → List ℕ → Answered
answered_with found e answers certificate =
    record {
      outcome = outcome_with (length found) e;
      answers = over found answers;
      certificate = over (encode (parts_of e.events)) certificate;
    }

-- a call comes to this where its first checks are passed, and writes nothing where one is refused
unfoldable pub checked_first : Check → Answered → List ℕ → List ℕ → Answered
checked_first passed a answers certificate = a
checked_first (refusal n p) a answers certificate = record { outcome = refused n p 0 0 0 0; answers = answers; certificate = certificate }

-- What a question over these runs comes to, with its first checks: its answers are those of the parts that its walk writes.
unfoldable pub answered_by : Check → List Run → ℕ → ℕ → List ℕ → List ℕ → Answered
answered_by c rs t allowance answers certificate =
    let e = cut_walk t rs allowance (length answers) (length certificate) in
    checked_first c (answered_with (answers_of (parts_of e.events)) e answers certificate) answers certificate

-- A question is put to the runs with a threshold, or with weights and a wanted weight.
unfoldable pub query : List ℕ → List ℕ → ℕ → ℕ → List ℕ → List ℕ → Answered
query numbers ends t allowance answers certificate = answered_by (first_checks numbers ends t) (runs numbers ends) t allowance answers certificate

unfoldable pub query_weighted : List ℕ → List ℕ → List ℕ → ℕ → ℕ → List ℕ → List ℕ → Answered
query_weighted numbers ends weights wanted allowance answers certificate =
    answered_by (weighted_checks numbers ends weights wanted) (weighted weights (runs numbers ends)) wanted allowance answers certificate

-- The checker returns the counts of answers and parts, both zero on a refusal.
pub data Verdict : Type 0 where
  valid : (answers parts : ℕ) → Verdict
  invalid : (number place answers parts : ℕ) → Verdict

-- Refusal 9 at a field: its first number (or value) is not the next uncovered bin, its last is below its first, or nothing is uncovered.
unfoldable pub misplaced : ℕ → Part → Bool
misplaced b p = not (eqb (first_of p) b) || (ltb (last_of p) (first_of p) || eqb b past_bin)

-- Refusal 10: the mask names a run that is none of these, or the runs that it names, for an answer, weigh too little, or those that it leaves out, for a gap,
-- too much.
unfoldable pub names_other : List Run → ℕ → Bool
names_other rs m = not (eqb (bit_and m (mask_of_all rs)) m)

unfoldable pub misnamed : List Run → ℕ → Part → Bool
misnamed rs t (answer v m) = names_other rs m || ltb (weight_of (names m) rs) t
misnamed rs t (gap f l m) = names_other rs m || leb t (weight_of (λ r. not (names m r)) rs)

-- Refusal 11: a named run contradicts the part.
unfoldable pub contradicts : Part → Run → Bool
contradicts (answer v m) r = names m r && not (holds v r.bins)
contradicts (gap f l m) r = names m r && not (eqb (length (within f l r.bins)) 0)

unfoldable pub any_contradicts : Part → List Run → Bool
any_contradicts p [] = false
any_contradicts p (r ∷ rs) = contradicts p r || any_contradicts p rs

unfoldable pub check_part : List Run → ℕ → ℕ → ℕ → Part → Check
check_part rs t b at p =
    refuse_if (misplaced b p) 9 at then
    refuse_if (misnamed rs t p) 10 at then
    refuse_if (any_contradicts p rs) 11 at

-- one more part, which is an answer or a gap
unfoldable pub counted : Part → Verdict → Verdict
counted (answer v m) (valid a n) = valid (suc a) (suc n)
counted (answer v m) (invalid x y b k) = invalid x y b k
counted (gap f l m) (valid a n) = valid a (suc n)
counted (gap f l m) (invalid x y b k) = invalid x y b k

-- At the end 9: a bin is still uncovered, b being the next one.
unfoldable pub at_end : ℕ → ℕ → Verdict
at_end b at = elim (eqb b past_bin) [ true ↦ valid 0 0 | false ↦ invalid 9 at 0 0 ]

-- The checker settles one field fully before the next, from the next uncovered bin b and the offset at on. (Each field has at least one byte.)
unfoldable pub check_from : ℕ → List Run → ℕ → ℕ → ℕ → List ℕ → Verdict
check_from zero rs t b at bytes = at_end b at
check_from (suc fuel) rs t b at [] = at_end b at
check_from (suc fuel) rs t b at (x ∷ bytes) =
    elim (read_field (x ∷ bytes)) [
      | unreadable n ↦ invalid n at 0 0
      | read p rest ↦
          elim (check_part rs t b at p) [
            | refusal n place ↦ invalid n place 0 0
            | passed ↦ counted p (check_from fuel rs t (suc (last_of p)) (at + size_of p) rest)
          ]
    ]

unfoldable pub judged : Check → List Run → ℕ → List ℕ → Verdict
judged c rs t certificate =
    elim c [ passed ↦ check_from (length certificate) rs t first_bin 0 certificate | refusal n p ↦ invalid n p 0 0 ]

-- The checker judges by all runs, by those alone that a mask chooses, or by all runs with weights.
unfoldable pub check : List ℕ → List ℕ → ℕ → List ℕ → Verdict
check numbers ends t certificate = judged (first_checks numbers ends t) (runs numbers ends) t certificate

unfoldable pub check_chosen : List ℕ → List ℕ → ℕ → ℕ → List ℕ → Verdict
check_chosen numbers ends m t certificate = judged (chosen_checks numbers ends m t) (chosen m (runs numbers ends)) t certificate

unfoldable pub check_weighted : List ℕ → List ℕ → List ℕ → ℕ → List ℕ → Verdict
check_weighted numbers ends weights wanted certificate =
    judged (weighted_checks numbers ends weights wanted) (weighted weights (runs numbers ends)) wanted certificate
