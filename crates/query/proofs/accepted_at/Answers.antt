-- `accepted_at` returns the counts of a walk that reached its end. Assumes nothing.
use Rattle.std.proofs.Common.{ap, refl}
use Rattle.walk_progress.proofs.Progress.{counts_same}
use Rattle.walk_progress.specs.Progress.{outcome_at}
use Rattle.query.proofs.accepted_at.Goals as goal

pub returns : goal.returns
unfolding outcome_at
returns c = ap (outcome_at 0) (counts_same refl refl refl c.doublings-doublings.ensures c.halvings-halvings.ensures)
