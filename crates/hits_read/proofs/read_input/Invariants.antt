-- `read_input` counts bytes within the buffer, and ends. The loop's invariant: the size is at most the buffer's length, which stays as it is. The
-- measure is the room and the tries that are left: a read with bytes takes from the first, an interruption from the second. Assumes nothing.
use Rattle.std.proofs.Common.{◌≡◌, ◌+◌, ◌-◌, ◌≤◌, length}
use Rattle.hits_read.proofs.read_input.Given as goal

abbrev pub invariant-loop-size : goal.invariant-loop-size
invariant-loop-size g l = (l.size ≤ length l.buf) × (length l.buf ≡ length l.initial.buf)

abbrev pub decreases-loop-size : goal.decreases-loop-size
decreases-loop-size g l = length l.initial.buf - l.size + l.tries
