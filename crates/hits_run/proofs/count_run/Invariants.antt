-- `count_run` gives the number of a run's numbers. The invariant: it is what was counted with the count of the words from here on. Assumes nothing.
use Rattle.std.proofs.Common.{◌≡◌, ◌≤◌, length, drop}
use Rattle.hits_input.specs.Input.{numbers_of, run_of}
use Rattle.text_read.specs.Pieces.{split}
use Rattle.hits_run.specs.Line.{count_of}
use Rattle.hits_run.proofs.Words.{count_from}
use Rattle.hits_run.proofs.count_run.Given as goal

abbrev pub invariant-loop-word : goal.invariant-loop-word
invariant-loop-word l =
    (l.n ≤ length l.yielded) × (count_of (run_of l.line) ≡ count_from l.n (numbers_of (drop (length l.yielded) (split 32 l.line))))
