-- The invariant is `Made`; each round that goes on raises the floor. Assumes nothing.
use Rattle.std.proofs.Common.{◌-◌}
use Rattle.model.specs.Runs.{past_bin}
use Rattle.walk_rounds.proofs.Finishing.{Made}
use Rattle.walk_state.specs.State.{chosen_at}
use Rattle.walk_rounds.proofs.all_rounds.Given as goal

abbrev pub invariant-loop-y : goal.invariant-loop-y
invariant-loop-y l =
    Made l.numbers l.ends l.weights l.chosen l.threshold (chosen_at l.weights l.chosen l.numbers l.initial.positions l.ends) l.initial.x l.initial.answers
    l.initial.certificate l.positions l.keys l.answers l.certificate l.x

abbrev pub decreases-loop-y : goal.decreases-loop-y
decreases-loop-y l = past_bin - l.x.floor
