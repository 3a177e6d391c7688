-- `write_run` stores the numbers of a run. The invariant is `Storing`. Assumes nothing.
use Rattle.std.proofs.Common.{◌+◌, ◌≤◌, length, drop}
use Rattle.text_read.specs.Pieces.{split}
use Rattle.hits_run.specs.Line.{leading}
use Rattle.hits_run.proofs.Words.{Storing}
use Rattle.hits_run.proofs.write_run.Given as goal

abbrev pub invariant-loop-word : goal.invariant-loop-word
invariant-loop-word l =
    Storing l.line l.initial.numbers l.from l.numbers l.n (drop (length l.yielded) (split 32 l.line)) × (l.from + length (leading (split 32 l.line)) ≤ length l.initial.numbers)
