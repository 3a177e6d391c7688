-- `put` lays one byte: it fits or it does not. Assumes nothing.
use borrow.Author.Rules.{rules}
use Rattle.text_write.proofs.Laid.{lays_here, lays_out}
use Rattle.text_write.proofs.put.Goals as goal

pub returns-then-at-text : goal.returns-then-at-text
returns-then-at-text c =
    lays_here _ _ _ (search rules)

pub returns : goal.returns
returns c =
    lays_out _ _ _ (search rules)
