-- `past` gives the bin after a part. Assumes nothing.
use native.Mathlib.Numerals.{add-one}
use Rattle.field_read.specs.Reading.{part_of}
use Rattle.model.specs.Certificate.{last_of}
use Rattle.checker.proofs.past.Goals as goal

pub returns-in-Answer : goal.returns-in-Answer
unfolding part_of last_of
returns-in-Answer c = rw (c.in-Answer.is, c.from.ensures) (add-one c.in-Answer.value)

pub returns-in-Gap : goal.returns-in-Gap
unfolding part_of last_of
returns-in-Gap c = rw (c.in-Gap.is, c.from-in-Gap.ensures) (add-one c.in-Gap.last)
