-- What the code's verdict means in the numbers of docs/SPECIFICATION.md, 'The refusals', and demand 2 for a call of the checker. Definitions only.
use Rattle.std.specs.Prelude.{ℕ, List, ◌≡◌, Result, Ok, Err}
use Rattle.model.specs.Demands.{Accepts}
use Rattle.model.specs.Refusals as model
use Rattle.model.specs.Runs.{Run, runs, weighted, chosen}
use Rattle.refusal.specs.Number.{number_of}
use Rattle.refusal.specs.declared.Refusal.{Refusal}
use Rattle.checker.specs.declared.Counted.{Counted}

abbrev pub verdict_is : Result Counted Refusal → model.Verdict
verdict_is (Ok c) = model.valid c.answers c.parts
verdict_is (Err r) = model.invalid (number_of r.reason) r.place 0 0

-- demand 2 for the checker, for inputs that pass these first checks
pub record AcceptedBy (c : model.Check) (rs : List Run) (t : ℕ) (certificate : List ℕ) (v : model.Verdict) : Type 0 where
  pub for_every : c ≡ model.passed → Accepts rs t certificate v

-- over all runs, over those that a mask chooses, and over all runs with weights
abbrev pub Accepted : List ℕ → List ℕ → ℕ → List ℕ → model.Verdict → Type 0
Accepted numbers ends t certificate v = AcceptedBy (model.first_checks numbers ends t) (runs numbers ends) t certificate v

abbrev pub AcceptedChosen : List ℕ → List ℕ → ℕ → ℕ → List ℕ → model.Verdict → Type 0
AcceptedChosen numbers ends m t certificate v = AcceptedBy (model.chosen_checks numbers ends m t) (chosen m (runs numbers ends)) t certificate v

abbrev pub AcceptedWeighted : List ℕ → List ℕ → List ℕ → ℕ → List ℕ → model.Verdict → Type 0
AcceptedWeighted numbers ends weights wanted certificate v =
    AcceptedBy (model.weighted_checks numbers ends weights wanted) (weighted weights (runs numbers ends)) wanted certificate v
