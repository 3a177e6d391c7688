-- `first_of` gives the length of the first piece, four bytes at a time. The invariant: it is what was passed with the length of the first piece of the rest. The
-- measure is the rest. Assumes nothing.
use Rattle.std.proofs.Common.{◌≡◌, ◌+◌, length}
use Rattle.text_read.specs.Pieces.{until}
use Rattle.text_read.proofs.first_of.Given as goal

abbrev pub invariant-loop-rest : goal.invariant-loop-rest
invariant-loop-rest l = (l.passed + length l.rest ≡ length l.bytes) × (until l.separator l.bytes ≡ l.passed + until l.separator l.rest)

abbrev pub decreases-loop-rest : goal.decreases-loop-rest
decreases-loop-rest l = length l.rest
