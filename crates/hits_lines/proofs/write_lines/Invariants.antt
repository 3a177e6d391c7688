-- `write_lines` stores the runs. The invariant is `Writing`; the measure is what is left of the bytes. Assumes nothing.
use Prim.Native.Nat.{◌-◌}
use lib.ListN.{length}
use Rattle.hits_lines.proofs.Writing.{Writing}
use Rattle.hits_lines.proofs.write_lines.Given as goal

abbrev pub invariant-loop-at : goal.invariant-loop-at
invariant-loop-at l = Writing l.bytes l.start l.initial.numbers l.initial.ends l.numbers l.ends l.at l.i l.n

abbrev pub decreases-loop-at : goal.decreases-loop-at
decreases-loop-at l = length l.bytes - l.at
