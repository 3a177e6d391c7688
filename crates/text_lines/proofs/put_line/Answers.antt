use Rattle.text_lines.proofs.Lines.{word_laid, next_laid, line_laid}
use Rattle.text_lines.proofs.put_line.Goals as goal

pub loop-x-init : goal.loop-x-init
loop-x-init c = word_laid c.args.word.now c.args.numbers.now c.put_word-next.ensures

pub loop-x-preserved : goal.loop-x-preserved
loop-x-preserved c =
    let l = c.loop-x in
    next_laid c.args.word.now c.args.numbers.now l.x-index c.loop-x-test.true l.invariant c.put-start.ensures c.put_number-next.ensures

pub returns : goal.returns
returns c =
    let l = c.loop-x in
    line_laid c.args.word.now c.args.numbers.now l.x-index c.loop-x-test.false l.invariant c.put.ensures
