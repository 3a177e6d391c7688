-- `begin` puts each cursor at its run's first bin. The invariant is `Placed`. Assumes nothing.
use Rattle.check_cursor.proofs.Placing.{Placed}
use Rattle.check_cursor.proofs.begin.Given as goal

abbrev pub invariant-loop-i : goal.invariant-loop-i
invariant-loop-i l = Placed l.numbers l.ends l.cursors l.start l.i
