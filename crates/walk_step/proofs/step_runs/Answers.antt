-- `step_runs` moves the runs that the mask names on by one, puts their keys back, and lowers the weight in play where a key is missing then. Assumes nothing.
use Rattle.std.proofs.Common.{ℕ, List, subst}
use Rattle.model.specs.Runs.{Run}
use Rattle.walk_put.proofs.Putting.{step_ready}
use Rattle.walk_state.specs.State.{runs_at, Holds}
use Rattle.walk_state.specs.Moves.{PlacedAt}
use Rattle.walk_step.proofs.Keeping.{not_after, all_kept, lowerable}
use Rattle.walk_step.proofs.step_runs.Goals as goal

-- the rows hold the runs that are placed
held : (numbers ends positions keys : List ℕ) (start : ℕ) (rs : List Run) → PlacedAt numbers ends rs positions
    → Holds numbers ends positions keys start (runs_at 0 numbers positions ends) → Holds numbers ends positions keys start rs
held numbers ends positions keys start rs p h = subst (λ x. Holds numbers ends positions keys start x) p.runs_are_law h

pub put_runs-start-requires : goal.put_runs-start-requires
put_runs-start-requires c =
    step_ready _ _ _ _ _ _ _ c.requires.0 c.step_each.ensures

pub overflow_sub-from : goal.overflow_sub-from
overflow_sub-from c =
    not_after _ _ _ _ _ _ c.requires.0 _ _ _ (held _ _ _ _ _ _ c.step_each.ensures c.put_runs-start.ensures)

pub stepped-left-requires : goal.stepped-left-requires
stepped-left-requires c =
    let h = held _ _ _ _ _ _ c.step_each.ensures c.put_runs-start.ensures in
    (lowerable _ _ _ _ _ _ c.requires.0 _ _ _ h _ _ c.requires.2, all_kept _ _ _ _ _ _ c.requires.0 _ _ _ h _ c.requires.1)

pub returns : goal.returns
returns c =
    (held _ _ _ _ _ _ c.step_each.ensures c.put_runs-start.ensures, c.stepped-left.ensures)
