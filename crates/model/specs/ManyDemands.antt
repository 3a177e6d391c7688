-- Demands 2 and 3 as statements about a call with many questions: for every question, of what the call returns and leaves in its buffers and in its result
-- row. Definitions only.
use Rattle.std.specs.Prelude.{ℕ, zero, suc, ◌+◌, ◌-◌, ◌*◌, ◌≤◌, ◌<◌, true, false, ◌≢◌, ◌≡◌, ltb, eqb, length, get_or}
use mathlib.Core.List.{List, [], Memᴰ}
use Rattle.model.specs.Certificate.{Part, TrueCertificate}
use Rattle.model.specs.Compared.{whole_walk, whole_certificate, doublings_of, halvings_of, probes_of, doublings_in, halvings_in, probes_in, bound_in, bound}
use Rattle.model.specs.Demands.{Certified, Bounded}
use Rattle.model.specs.Many.{all_passed, many_checks, ManyOutcome, all_accepted, refused_in, walks_of}
use Rattle.model.specs.Refusals.{Ended}
use Rattle.model.specs.Runs.{Run, slice, runs, chosen, total}
use Rattle.model.specs.Walk.{Event}

-- What a call returns: the answers, parts, bytes and probes of either kind of all its questions, and the refusal's number, 0 where it is accepted.
unfoldable pub all_answers : ManyOutcome → ℕ
all_answers (all_accepted a n b d h) = a
all_answers (refused_in q x place a n b d h) = a

unfoldable pub all_parts : ManyOutcome → ℕ
all_parts (all_accepted a n b d h) = n
all_parts (refused_in q x place a n b d h) = n

unfoldable pub all_bytes : ManyOutcome → ℕ
all_bytes (all_accepted a n b d h) = b
all_bytes (refused_in q x place a n b d h) = b

unfoldable pub all_doublings : ManyOutcome → ℕ
all_doublings (all_accepted a n b d h) = d
all_doublings (refused_in q x place a n b d h) = d

unfoldable pub all_halvings : ManyOutcome → ℕ
all_halvings (all_accepted a n b d h) = h
all_halvings (refused_in q x place a n b d h) = h

unfoldable pub call_refused_by : ManyOutcome → ℕ
call_refused_by (all_accepted a n b d h) = 0
call_refused_by (refused_in q x place a n b d h) = x

-- Of n questions, how many are finished, and how many are begun: a refusal of the walk ends its question unfinished, and no other is begun.
unfoldable pub finished_of : ℕ → ManyOutcome → ℕ
finished_of n (all_accepted a m b d h) = n
finished_of n (refused_in q x place a m b d h) = q

unfoldable pub begun_of : ℕ → ManyOutcome → ℕ
begun_of n (all_accepted a m b d h) = n
begun_of n (refused_in q x place a m b d h) = suc q

-- The number of the refusal that ended question q, 0 where none did; and its parts: all of its whole certificate, so many, or as many as the place tells.
unfoldable pub ended_by : ManyOutcome → ℕ → ℕ
ended_by (all_accepted a n b d h) q = 0
ended_by (refused_in i x place a n b d h) q = elim (eqb q i) [ true ↦ x | false ↦ 0 ]

unfoldable pub parts_of_question : ManyOutcome → ℕ → ℕ → ℕ
parts_of_question (all_accepted a n b d h) whole q = whole
parts_of_question (refused_in i x place a n b d h) whole q = elim (eqb q i) [ true ↦ place | false ↦ whole ]

-- Question q's own answers or bytes in a buffer end where the result row tells, at place 2 × q + j, j being 0 for answers and 1 for bytes, or, where it is
-- not finished, at the call's count. They start where those of the question before it end.
unfoldable pub end_in : List ℕ → ℕ → ℕ → ℕ → ℕ → ℕ
end_in results finished all j q = elim (ltb q finished) [ true ↦ get_or results (2 * q + j) 0 | false ↦ all ]

unfoldable pub start_in : List ℕ → ℕ → ℕ → ℕ → ℕ → ℕ
start_in results finished all j zero = 0
start_in results finished all j (suc q) = end_in results finished all j q

unfoldable pub own_in : List ℕ → List ℕ → ℕ → ℕ → ℕ → ℕ → List ℕ
own_in buffer results finished all j q = slice buffer (start_in results finished all j q) (end_in results finished all j q)

-- the runs of question q, and its walk
unfoldable pub runs_of : List ℕ → List ℕ → List ℕ → ℕ → List Run
runs_of numbers ends masks q = chosen (get_or masks q 0) (runs numbers ends)

unfoldable pub walk_of : List Ended → ℕ → List Event
walk_of ws q = (get_or ws q (record { events = []; refused = 0 })).events

-- a sum over the first n questions
unfoldable pub sum_to : ℕ → (ℕ → ℕ) → ℕ
sum_to zero f = 0
sum_to (suc n) f = f 0 + sum_to n (λ q. f (suc q))

-- Demand 2 for a call: of every question that was begun, its own answers and its own bytes in the buffers after the call.
pub record ManyDemand2 (numbers ends masks thresholds results : List ℕ) (o : ManyOutcome) (answers' certificate' results' : List ℕ) : Type 0 where
  pub for_every : many_checks numbers ends masks thresholds results ≡ all_passed → (q : ℕ) → q < begun_of (length masks) o
      → Certified (runs_of numbers ends masks q) (get_or thresholds q 0) (ended_by o q)
      (parts_of_question o (length (whole_certificate (get_or thresholds q 0) (runs_of numbers ends masks q))) q)
      (own_in answers' results' (finished_of (length masks) o) (all_answers o) 0 q)
      (own_in certificate' results' (finished_of (length masks) o) (all_bytes o) 1 q)

-- Demand 3 for a call, d being the number of parts of another certificate for each question, and ws its walks. Every question's whole certificate has at most
-- its d parts, and its whole walk keeps to the bound in each chosen run; of a question that was begun so do the parts and probes that the call made, which are
-- that question's own. The parts returned, the probes and those of either kind are the sums over the questions, and an allowance no smaller than the sum of all
-- the questions' bounds never ends as spent.
pub record ManyBounded (numbers ends masks thresholds : List ℕ) (allowance : ℕ) (ws : List Ended) (o : ManyOutcome) (certificate' results' : List ℕ) (d : ℕ → ℕ) : Type 0 where
  pub fewest : (q : ℕ) → q < length masks → length (whole_certificate (get_or thresholds q 0) (runs_of numbers ends masks q)) ≤ d q
  pub each_whole : (q : ℕ) → q < length masks → (r : Run) → Memᴰ r (runs_of numbers ends masks q)
      → probes_in r.label (whole_walk (get_or thresholds q 0) (runs_of numbers ends masks q)) ≤ bound_in (d q) r
  pub each : (q : ℕ) → q < begun_of (length masks) o
      → Bounded (runs_of numbers ends masks q) (get_or thresholds q 0) (allowance - sum_to q (λ i. probes_of (walk_of ws i))) (walk_of ws q) (ended_by o q)
      (parts_of_question o (length (whole_certificate (get_or thresholds q 0) (runs_of numbers ends masks q))) q) (doublings_of (walk_of ws q)) (halvings_of (walk_of ws q))
      (own_in certificate' results' (finished_of (length masks) o) (all_bytes o) 1 q) (d q)
  pub parts : all_parts o
      ≡ sum_to (begun_of (length masks) o) (λ q. parts_of_question o (length (whole_certificate (get_or thresholds q 0) (runs_of numbers ends masks q))) q)
  pub probes : all_doublings o + all_halvings o
      ≡ sum_to (begun_of (length masks) o) (λ q. total (λ r. probes_in r.label (walk_of ws q)) (runs_of numbers ends masks q))
  pub doublings : all_doublings o
      ≡ sum_to (begun_of (length masks) o) (λ q. total (λ r. doublings_in r.label (walk_of ws q)) (runs_of numbers ends masks q))
  pub halvings : all_halvings o
      ≡ sum_to (begun_of (length masks) o) (λ q. total (λ r. halvings_in r.label (walk_of ws q)) (runs_of numbers ends masks q))
  pub enough : sum_to (length masks) (λ q. bound (d q) (runs_of numbers ends masks q)) ≤ allowance → call_refused_by o ≢ 7

-- Demand 3 whole: for all runs and questions that pass the first checks, for every family of true certificates, one for each question over its chosen runs,
-- whoever wrote them, and whatever allowance and buffers the call is lent.
pub record ManyDemand3 (numbers ends masks thresholds : List ℕ) (allowance : ℕ) (answers certificate results : List ℕ) (o : ManyOutcome)
    (certificate' results' : List ℕ) : Type 0 where
  pub for_every : many_checks numbers ends masks thresholds results ≡ all_passed → (ps : ℕ → List Part)
      → ((q : ℕ) → q < length masks → TrueCertificate (runs_of numbers ends masks q) (get_or thresholds q 0) (ps q))
      → ManyBounded numbers ends masks thresholds allowance (walks_of numbers ends masks thresholds allowance answers certificate) o certificate' results'
      (λ q. length (ps q))
