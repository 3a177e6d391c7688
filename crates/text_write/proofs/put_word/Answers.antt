use Rattle.text_write.proofs.Laid.{lays_none}
use Rattle.text_write.proofs.Steps.{word_on, word_end}
use Rattle.text_write.proofs.put_word.Goals as goal

pub loop-byte-init : goal.loop-byte-init
loop-byte-init c = lays_none _ _ c.requires

pub loop-byte-preserved : goal.loop-byte-preserved
loop-byte-preserved c = word_on c.args.word.now c.loop-byte.byte-index c.loop-byte-test.true c.loop-byte.invariant c.put-next.ensures

pub returns : goal.returns
returns c = word_end c.args.word.now c.loop-byte.byte-index c.loop-byte-test.false c.loop-byte.invariant
