-- docs/SPECIFICATION.md, 'What one run found alone': the first checks, the answers and the outcome of the call that asks which bins of run 0, the new test, fewer
-- than t of the other runs have. Definitions only.
use Rattle.std.specs.Prelude.{ℕ, zero, suc, ◌-◌, ◌^◌, true, false, List, [], ◌∷◌, ltb, length, take, drop}
use Rattle.model.specs.Certificate.{answers_of}
use Rattle.model.specs.Compared.{whole_certificate}
use Rattle.model.specs.Refusals.{Check, threshold_checks, Ended, cut_walk, Answered, answered_with, checked_first}
use Rattle.model.specs.Runs.{Run, runs, holds}

-- Run 0 is the new test: its bins, and the other runs, 1 to k − 1, each with its label.
unfoldable pub new_bins : List Run → List ℕ
new_bins [] = []
new_bins (r ∷ rs) = r.bins

unfoldable pub other_runs : List Run → List Run
other_runs rs = drop 1 rs

-- the mask that names the other runs of k, bit 0 clear
unfoldable pub other_mask : ℕ → ℕ
other_mask k = 2 ^ k - 2

-- The answers are its bins that are no answer of the question over the other runs.
unfoldable pub without : List ℕ → List ℕ → List ℕ
without answers [] = []
without answers (x ∷ s) = elim (holds x answers) [ true ↦ without answers s | false ↦ x ∷ without answers s ]

unfoldable pub alone_in : ℕ → List Run → List ℕ
alone_in t rs = without (answers_of (whole_certificate t (other_runs rs))) (new_bins rs)

-- The certificate and the probes are those of the other runs' walk. It writes no answers, so that 5 cannot end it: here it is the walk with a place for each of its
-- answers.
unfoldable pub walk_without_answers : ℕ → List Run → ℕ → ℕ → Ended
walk_without_answers t rs allowance bytes = cut_walk t rs allowance (length (answers_of (whole_certificate t rs))) bytes

-- A threshold above k − 1 is refusal 2.
unfoldable pub alone_checks : List ℕ → List ℕ → ℕ → Check
alone_checks numbers ends t = threshold_checks (length ends - 1) numbers ends t

-- Answers are written after the walk. Where it reached its end, those that fit are, and one more that is due is 5; where 6 or 7 stopped it, none.
unfoldable pub answers_after : Ended → List ℕ → List ℕ
answers_after e found = elim e.refused [ zero ↦ found | suc n ↦ [] ]

unfoldable pub full_number : ℕ → List ℕ → ℕ
full_number places found = elim (ltb places (length found)) [ true ↦ 5 | false ↦ 0 ]

unfoldable pub ended_after : Ended → List ℕ → ℕ → Ended
ended_after e found places = record { events = e.events; refused = elim e.refused [ zero ↦ full_number places found | suc n ↦ suc n ] }

unfoldable pub query_alone : List ℕ → List ℕ → ℕ → ℕ → List ℕ → List ℕ → Answered
query_alone numbers ends t allowance answers certificate =
    let rs = runs numbers ends in
    let e = walk_without_answers t (other_runs rs) allowance (length certificate) in
    checked_first (alone_checks numbers ends t)
    (answered_with (take (length answers) (answers_after e (alone_in t rs))) (ended_after e (alone_in t rs) (length answers)) answers certificate) answers certificate
