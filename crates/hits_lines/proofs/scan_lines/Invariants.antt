-- `scan_lines` gives the first line at fault, or the numbers of runs and numbers. The invariant is `Scanning`; the measure is what is left of the bytes.
-- Assumes nothing.
use Rattle.std.proofs.Common.{◌-◌, ◌≤◌, length}
use Rattle.hits_limits.specs.Limits.{most_bytes}
use Rattle.hits_lines.proofs.Lines.{Scanning}
use Rattle.hits_lines.proofs.scan_lines.Given as goal

abbrev pub invariant-loop-at : goal.invariant-loop-at
invariant-loop-at l = Scanning l.bytes l.start l.runs l.room l.at l.counts.runs l.counts.numbers × (length l.bytes ≤ most_bytes)

abbrev pub decreases-loop-at : goal.decreases-loop-at
decreases-loop-at l = length l.bytes - l.at
