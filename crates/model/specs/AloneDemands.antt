-- What is claimed of the call that asks what one run found alone: each about what the call returns and leaves in its buffers. Definitions only.
use Rattle.std.specs.Prelude.{ℕ, ◌<◌, true, false, ◌≢◌, ◌≡◌, eqb, length, take}
use mathlib.Core.List.{List, [], Memᴰ}
use Rattle.model.specs.Alone.{new_bins, other_runs, other_mask, alone_checks}
use Rattle.model.specs.Certificate.{Part, mask_of, answers_of}
use Rattle.model.specs.Compared.{whole_certificate}
use Rattle.model.specs.Demands.{answers_in, parts_in, bytes_in, refused_by, Lists, Certified, Demand3}
use Rattle.model.specs.Refusals.{passed, Outcome, valid, check_chosen}
use Rattle.model.specs.Runs.{Run, runs, bit, holds, weight_of}

-- The answers are exactly the new test's bins that fewer than t of the other runs hold, rising. (No weights come with this call: what runs weigh is how many they
-- are.)
abbrev pub AloneExact : List Run → ℕ → List ℕ → Type 0
AloneExact rs t answers = Lists (λ x. Memᴰ x (new_bins rs) × (weight_of (λ r. holds x r.bins) (other_runs rs) < t)) answers

-- The number of the refusal that ended the walk, 0 where none did: 5 comes after it.
unfoldable pub walk_refused_by : Outcome → ℕ
walk_refused_by o = elim (eqb (refused_by o) 5) [ true ↦ 0 | false ↦ refused_by o ]

-- The answers that a call wrote, which a refusal of this number ended, 0 where none did, with so many places lent for them: all of them; with 5 the first of them,
-- in every place; none otherwise.
pub record AnswersAlone (rs : List Run) (t number places : ℕ) (answers : List ℕ) : Type 0 where
  pub exact : number ≡ 0 → AloneExact rs t answers
  pub full : number ≡ 5 → (found : List ℕ) × AloneExact rs t found × (places < length found) × (answers ≡ take places found)
  pub stopped : number ≢ 0 → number ≢ 5 → answers ≡ []

-- Demand 2: of the answers; of the certificate over the other runs, with the answers that its parts tell, bit 0 clear throughout; and the checker, told the mask of
-- the other runs, accepts it where the walk reached its end.
pub record AloneCertified (numbers ends : List ℕ) (t number walked parts places : ℕ) (answers bytes : List ℕ) : Type 0 where
  pub answers_are : AnswersAlone (runs numbers ends) t number places answers
  pub certified : Certified (other_runs (runs numbers ends)) t walked parts (answers_of (take parts (whole_certificate t (other_runs (runs numbers ends))))) bytes
  pub clear : (p : Part) → Memᴰ p (whole_certificate t (other_runs (runs numbers ends))) → bit (mask_of p) 0 ≡ 0
  pub checked : walked ≡ 0
      → check_chosen numbers ends (other_mask (length ends)) t bytes ≡ valid (length (answers_of (whole_certificate t (other_runs (runs numbers ends))))) parts

pub record AloneDemand2 (numbers ends : List ℕ) (t places : ℕ) (o : Outcome) (answers certificate : List ℕ) : Type 0 where
  pub for_every : alone_checks numbers ends t ≡ passed
      → AloneCertified numbers ends t (refused_by o) (walk_refused_by o) (parts_in o) places (take (answers_in o) answers) (take (bytes_in o) certificate)

-- Demand 3 is that of a question over the other runs, whose walk has room for all its answers.
abbrev pub AloneDemand3 : List ℕ → List ℕ → ℕ → ℕ → List ℕ → Outcome → List ℕ → Type 0
AloneDemand3 numbers ends t allowance before o after =
    Demand3 (alone_checks numbers ends t) (other_runs (runs numbers ends)) t allowance (length (answers_of (whole_certificate t (other_runs (runs numbers ends))))) before o after
