-- `copy_to` copies the bins up to `last` one by one. The invariant is `Copying`. Assumes nothing.
use Rattle.query_difference.proofs.Passing.{Copying}
use Rattle.query_difference.proofs.copy_to.Given as goal

abbrev pub invariant-loop-at : goal.invariant-loop-at
invariant-loop-at l = Copying l.run l.last l.place l.initial.answers l.answers l.count l.at l.n
