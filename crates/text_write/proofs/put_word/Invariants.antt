-- `put_word` lays the bytes of a word one after another. The invariant: the bytes passed are laid. Assumes nothing.
use Rattle.std.proofs.Common.{take}
use Rattle.text_write.specs.Laying.{Lays}
use Rattle.text_write.proofs.put_word.Given as goal

abbrev pub invariant-loop-byte : goal.invariant-loop-byte
invariant-loop-byte l = Lays (take l.byte-index l.word) l.initial.text l.at l.text l.next
