-- `begin_each` puts each chosen run at its first bin and every other at its end. The invariant is `ChosenAt`. Assumes nothing.
use Rattle.walk_begin.specs.Begin.{ChosenAt}
use Rattle.walk_begin.proofs.begin_each.Given as goal

abbrev pub invariant-loop-i : goal.invariant-loop-i
invariant-loop-i l = ChosenAt l.ends l.firsts l.chosen l.positions l.i
