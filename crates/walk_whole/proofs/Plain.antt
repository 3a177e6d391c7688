-- The runs of a question without weights. Assumes nothing.
use Prim.Native.Nat.{ℕ, ◌^◌, ◌<◌}
use lib.Count.{ones}
use lib.ListN.{length}
use mathlib.Core.List.{List, []}
use mathlib.Core.Path.{◌≡◌, ap, ◌∙◌}
use Rattle.model.specs.Runs.{runs, weight_of_all, chosen}
use Rattle.model.proofs.FirstChecks.{chosen_weighs}
use Rattle.model.proofs.Plain.{all_plain, chosen_plain}
use Rattle.model.proofs.Weighted.{weighted_none}
use Rattle.walk_whole.specs.Whole.{asked_runs}

-- where no weights are given, the runs of a question are those that its mask chooses, and weigh as much as they are many
pub plain_asked : (numbers ends : List ℕ) (m : ℕ) → asked_runs numbers ends [] m ≡ chosen m (runs numbers ends)
plain_asked numbers ends m = weighted_none (chosen m (runs numbers ends)) (chosen_plain m (all_plain numbers ends))

pub plain_weighs : (numbers ends : List ℕ) (m : ℕ) → m < 2 ^ length ends → weight_of_all (asked_runs numbers ends [] m) ≡ ones m
plain_weighs numbers ends m h = ap weight_of_all (plain_asked numbers ends m) ∙ chosen_weighs numbers ends m h
