-- What the check of one part gives. Definitions only.
use Rattle.std.specs.Prelude.{ℕ, suc, ◌+◌, ◌-◌, ◌^◌, ◌≤◌, ◌<◌, Bool, true, false, List, ◌≡◌, length, Result, Ok, Err, OnOk}
use Rattle.model.specs.Certificate.{Part, last_of}
use Rattle.model.specs.Refusals as model
use Rattle.model.specs.Runs.{Run, runs, weighted, chosen}
use Rattle.weights.specs.Named.{named_weight, Weighs}
use Rattle.check_cursor.specs.Cursors.{Cursors}
use Rattle.check_scan.specs.Scan.{part_is}
use Rattle.check_scan.specs.declared.Claim.{Claim}
use Rattle.refusal.specs.Number.{number_of}
use Rattle.refusal.specs.declared.Reason.{Reason}

-- the runs that the mask c chooses, with the weights of a row, each weighing 1 where the row has none
abbrev pub chosen_runs : List ℕ → List ℕ → List ℕ → ℕ → List Run
chosen_runs numbers ends weights c = chosen c (weighted weights (runs numbers ends))

-- how much the runs that a part names must weigh, of runs that weigh so much together
unfoldable pub needed : ℕ → ℕ → Bool → ℕ
needed all t true = t
needed all t false = all - t + 1

-- A mask that chooses some of the runs with these ends, a row with a weight for each run that it chooses or none at all, what these runs weigh, and a threshold
-- that is neither 0 nor above it.
pub record Choice (ends weights : List ℕ) (c t total : ℕ) : Type 0 where
  pub within : c < 2 ^ length ends
  pub row : Weighs c weights
  pub all : total ≡ named_weight weights c
  pub some : 0 < t
  pub met : t ≤ named_weight weights c

-- what a check says, a refusal at an offset
unfoldable pub numbered : Result Unit Reason → ℕ → model.Check
numbered (Ok _) at = model.passed
numbered (Err reason) at = model.refusal (number_of reason) at

-- An answer or a gap tested at the next uncovered bin by the runs that the mask c chooses, `few` being how much those that it names must weigh. After one that
-- passes, the cursors serve the bins after it.
pub record Tested (numbers ends weights : List ℕ) (c b : ℕ) (claim : Claim) (few : ℕ) (cursors : List ℕ) (r : Result Unit Reason) : Type 0 where
  pub refused_by : (t at : ℕ) → t ≤ named_weight weights c → few ≡ needed (named_weight weights c) t claim.held
      → model.check_part (chosen_runs numbers ends weights c) t b at (part_is claim) ≡ numbered r at
  pub ready : OnOk r (Cursors numbers ends cursors (suc (last_of (part_is claim))))

-- the same for a part and a threshold
pub record PartChecked (numbers ends weights : List ℕ) (c t b : ℕ) (p : Part) (cursors : List ℕ) (r : Result Unit Reason) : Type 0 where
  pub refused_by : (at : ℕ) → model.check_part (chosen_runs numbers ends weights c) t b at p ≡ numbered r at
  pub ready : OnOk r (Cursors numbers ends cursors (suc (last_of p)))
