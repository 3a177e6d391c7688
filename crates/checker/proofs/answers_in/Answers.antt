-- `answers_in` is 1 for an answer and 0 for a gap. Assumes nothing.
use Rattle.field_read.specs.Reading.{part_of}
use Rattle.checker.specs.Counts.{answer_count}
use Rattle.checker.proofs.answers_in.Goals as goal

pub returns-in-Answer : goal.returns-in-Answer
unfolding part_of answer_count
returns-in-Answer c = rw c.in-Answer.is

pub returns-in-Gap : goal.returns-in-Gap
unfolding part_of answer_count
returns-in-Gap c = rw c.in-Gap.is
