-- `question_checks` gives the first refusal of a question. The invariant: the definition from the start equals it from here on. Assumes nothing.
use Rattle.std.proofs.Common.{◌≡◌, length, drop}
use Rattle.model.specs.Many.{question_checks}
use Rattle.query_checks.proofs.question_checks.Given as goal

abbrev pub invariant-loop-question : goal.invariant-loop-question
invariant-loop-question l =
    question_checks l.k 0 l.masks l.thresholds ≡ question_checks l.k (length l.yielded) (drop (length l.yielded) l.masks) (drop (length l.yielded) l.thresholds)
