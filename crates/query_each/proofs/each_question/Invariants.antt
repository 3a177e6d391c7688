-- The invariant is `Asked`: the questions before index q are asked. Assumes nothing.
use Rattle.query_each.proofs.Asking.{Asked}
use Rattle.query_each.proofs.each_question.Given as goal

abbrev pub invariant-loop-q : goal.invariant-loop-q
invariant-loop-q l =
    Asked l.numbers l.ends l.masks l.thresholds l.initial.w l.initial.answers l.initial.certificate l.initial.results l.answers l.certificate l.results l.w l.q
