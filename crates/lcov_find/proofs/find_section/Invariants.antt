-- `find_section` gives the place where a section's lines begin. The invariant: the section asked for is the one with the index left among those that open from
-- here on. The measure is what is left of the file. Assumes nothing.
use Rattle.std.proofs.Common.{◌≡◌, ◌+◌, ◌-◌, ◌≤◌, length}
use Rattle.lcov_form.specs.Reading.{section_of}
use Rattle.lcov_find.proofs.Finding.{left_of}
use Rattle.lcov_find.proofs.find_section.Given as goal

abbrev pub invariant-loop-at : goal.invariant-loop-at
invariant-loop-at l = (l.at ≤ length l.file + 1) × (left_of l.file l.at l.inside l.left ≡ section_of l.file l.index)

abbrev pub decreases-loop-at : goal.decreases-loop-at
decreases-loop-at l = length l.file + 1 - l.at
