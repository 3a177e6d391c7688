-- `put_line` lays the word and then the numbers one after another. The invariant: the word and the numbers passed are laid. Assumes nothing.
use Rattle.std.proofs.Common.{◌++◌, take}
use Rattle.text_write.specs.Laying.{Lays}
use Rattle.text_lines.proofs.Lines.{spaced}
use Rattle.text_lines.proofs.put_line.Given as goal

abbrev pub invariant-loop-x : goal.invariant-loop-x
invariant-loop-x l = Lays (l.word ++ spaced (take l.x-index l.numbers)) l.fn.text l.at l.text l.next
