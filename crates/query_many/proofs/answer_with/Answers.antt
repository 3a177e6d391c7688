-- `answer_with` finds where the bins of each run begin, asks all questions and returns how the call ended. Assumes nothing.
use native.Mathlib.Omega.{arith}
use Rattle.model.proofs.FirstChecks.{lists_passed}
use Rattle.model.proofs.ManyChecks.{many_passed}
use Rattle.query_many.specs.Outcomes.{many_outcome_is}
use Rattle.query_many.proofs.Calls.{fitted_first, rows_first, ends_so}
use Rattle.query_many.proofs.answer_with.Goals as goal

pub first_places-requires : goal.first_places-requires
first_places-requires c =
    let a = c.args in
    let p = lists_passed a.numbers.now a.ends.now (many_passed a.numbers.now a.ends.now a.masks.now a.thresholds.now a.results.now c.requires.0).lists in
    record { rise = p.ends_rise; last = p.ends_last; risen = p.numbers_rise; size = c.requires.1 }

pub each_question-end-requires : goal.each_question-end-requires
each_question-end-requires c =
    let a = c.args in (
      fitted_first c.whole.result a.answers.now a.certificate.now c.whole.ensures.1,
      c.first_places.ensures,
      rows_first a.numbers.now a.ends.now a.masks.now a.thresholds.now a.results.now c.requires.0,
    )

pub outcome_of-requires : goal.outcome_of-requires
outcome_of-requires c =
    let e = c.whole.ensures in
    omega (arith, c.each_question-end.ensures.left, e.0, e.1)

pub returns : goal.returns
returns c =
    let a = c.args in
    ends_so a.numbers.now a.ends.now a.masks.now a.thresholds.now a.allowance c.whole.result a.answers.now a.certificate.now a.results.now
    c.each_question-end.new.answers c.each_question-end.new.certificate c.each_question-end.new.results c.each_question-end.result (many_outcome_is c.outcome_of.result) c.requires.0 c.whole.ensures
    c.each_question-end.ensures c.outcome_of.ensures
