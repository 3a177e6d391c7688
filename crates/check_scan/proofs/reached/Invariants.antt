-- `reached` compares the cursors from the last to the first. The invariant: the mask is that of the cursors compared so far. Assumes nothing.
use Prim.Native.Nat.{◌-◌}
use lib.ListN.{length, drop}
use mathlib.Core.Path.{◌≡◌}
use Rattle.check_scan.specs.Scan.{reached_of}
use Rattle.check_scan.proofs.reached.Given as goal

abbrev pub invariant-loop-cursor : goal.invariant-loop-cursor
invariant-loop-cursor l = l.mask ≡ reached_of l.last (drop (length l.cursors - length l.yielded) l.cursors)
