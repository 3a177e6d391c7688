-- `gap_before` writes a gap where there is one. Assumes nothing.
use Rattle.walk_write.proofs.Writing.{no_gap, some_gap}
use Rattle.walk_write.proofs.gap_before.Goals as goal

pub returns-then-v-w : goal.returns-then-v-w
returns-then-v-w c =
    let a = c.args in
    no_gap a.w a.certificate.now a.v a.named c.requires.0 c.requires.1 c.if-v-w.true

pub returns : goal.returns
returns c =
    let a = c.args in
    some_gap a.w a.certificate.now c.gap_to.new.certificate a.v a.named c.gap_to.result c.if-v-w.false c.gap_to.ensures
