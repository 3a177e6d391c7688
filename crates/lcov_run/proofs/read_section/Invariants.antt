-- `read_section` reads a section line by line. The invariant is `Progress`; the measure is what is left of the file. Assumes nothing.
use Rattle.std.proofs.Common.{◌+◌, ◌-◌, length}
use Rattle.lcov_run.proofs.Reading.{rest_of, Progress}
use Rattle.lcov_run.proofs.read_section.Given as goal

abbrev pub invariant-loop-at : goal.invariant-loop-at
invariant-loop-at l = Progress (rest_of l.file (length l.initial.run) 0 0 l.start) (rest_of l.file (length l.initial.run) l.count l.last l.at) l.initial.run l.run l.count

abbrev pub decreases-loop-at : goal.decreases-loop-at
decreases-loop-at l = length l.file + 1 - l.at
