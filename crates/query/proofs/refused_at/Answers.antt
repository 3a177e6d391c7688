-- `refused_at` returns the counts of a walk that a refusal ended; each reason has a number above 0. Assumes nothing.
use Rattle.std.proofs.Common.{◌≡◌, ◌∙◌, ap, refl}
use Rattle.model.specs.Refusals as model
use Rattle.refusal.proofs.Number.{number_above}
use Rattle.refusal.specs.Number.{number_of}
use Rattle.refusal.specs.declared.Reason.{Reason}
use Rattle.walk_progress.proofs.Progress.{counts_same}
use Rattle.walk_progress.specs.Progress.{Counts, outcome_at}
use Rattle.query.proofs.refused_at.Goals as goal

stopped : (reason : Reason) (c : Counts) → model.refused (number_of reason) c.parts c.answers c.bytes c.doublings c.halvings ≡ outcome_at (number_of reason) c
unfolding outcome_at
stopped reason c = rw (number_above reason).1 refl

pub returns : goal.returns
returns c =
    let a = c.args in
    let w = a.w in
    stopped a.reason (record { answers = a.answers; parts = w.parts; bytes = w.bytes; doublings = c.doublings.result; halvings = c.halvings.result })
    ∙ ap (outcome_at (number_of a.reason)) (counts_same refl refl refl c.doublings.ensures c.halvings.ensures)
