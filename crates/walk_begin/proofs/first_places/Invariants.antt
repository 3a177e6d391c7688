-- `first_places` puts the place of each run's first bin into a row. The invariant is `Begun`. Assumes nothing.
use Rattle.walk_begin.proofs.Beginning.{Begun}
use Rattle.walk_begin.proofs.first_places.Given as goal

abbrev pub invariant-loop-i : goal.invariant-loop-i
invariant-loop-i l = Begun l.numbers l.ends l.firsts l.start l.i
