-- `check_part` finds how much a gap's runs must weigh, and tests an answer or a gap. Assumes nothing.
use Rattle.check_part.proofs.Testing.{answer_last, gap_last, answer_checked, gap_checked}
use Rattle.check_part.proofs.check_part.Goals as goal

pub tested-requires : goal.tested-requires
tested-requires c =
    (c.requires.0, answer_last c.in-Answer.value c.in-Answer.mask, c.requires.1.within, c.requires.1.row, c.requires.1.all)

pub tested-requires-in-Gap : goal.tested-requires-in-Gap
tested-requires-in-Gap c =
    (c.requires.0, gap_last c.in-Gap.first c.in-Gap.last c.in-Gap.mask, c.requires.1.within, c.requires.1.row, c.requires.1.all)

pub returns-in-Answer : goal.returns-in-Answer
returns-in-Answer c =
    let a = c.args in
    rw c.in-Answer.is
    (answer_checked a.numbers.now a.ends.now a.weights.now a.chosen a.bin c.in-Answer.value c.in-Answer.mask a.threshold a.total _ c.tested.result c.requires.1
    c.tested.ensures)

pub returns-in-Gap : goal.returns-in-Gap
returns-in-Gap c =
    let a = c.args in
    rw c.in-Gap.is
    (gap_checked a.numbers.now a.ends.now a.weights.now a.chosen a.bin c.in-Gap.first c.in-Gap.last c.in-Gap.mask a.threshold a.total _ c.tested-in-Gap.result
    c.requires.1 c.tested-in-Gap.ensures)
