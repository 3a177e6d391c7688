-- `answer_with` finds where the bins of each run begin, walks over all runs and returns how the walk ended. Assumes nothing.
use native.Mathlib.Omega.{arith}
use Rattle.model.proofs.FirstChecks.{lists_passed}
use Rattle.std.specs.Prelude.{Ok, Err}
use Rattle.query.specs.Outcomes.{accepted_is, refused_is}
use Rattle.walk_write.specs.Writes.{counts_of}
use Rattle.query.proofs.Questions.{all_only, all_met, ends_so}
use borrow.Author.Rules.{rules}
use Rattle.query.proofs.answer_with.Goals as goal

pub first_places-requires : goal.first_places-requires
first_places-requires c =
    let p = lists_passed c.args.numbers.now c.args.ends.now c.requires.0.lists in
    record { rise = p.ends_rise; last = p.ends_last; risen = p.numbers_rise; size = c.requires.1 }

pub question_walk-requires : goal.question_walk-requires
question_walk-requires c =
    let a = c.args in
    let q = c.requires.0 in
    record {
      few = q.few;
      row = q.row;
      only = all_only a.numbers.now a.ends.now a.weights.now c.all_runs.result c.all_runs.ensures;
      some = q.some;
      met = all_met a.numbers.now a.ends.now a.weights.now c.all_runs.result c.all_runs.ensures a.threshold q;
      lists = q.lists;
      placed = c.first_places.ensures;
      bytes_fit = search rules;
      allowed = omega (arith, c.whole.ensures.1);
    }

pub accepted_at-requires : goal.accepted_at-requires
accepted_at-requires c =
    let e = c.whole.ensures in
    omega (arith, c.in-Ok.ensures.left_then, e.0, e.1)

pub returns-in-Ok : goal.returns-in-Ok
unfolding counts_of
returns-in-Ok c =
    let a = c.args in
    ends_so a.numbers.now a.ends.now a.weights.now c.all_runs.result c.all_runs.ensures a.threshold a.allowance c.whole.result
    a.answers.now a.certificate.now c.question_walk.new.answers c.question_walk.new.certificate (Ok c.in-Ok.w)
    (accepted_is c.accepted_at.result) c.whole.ensures c.in-Ok.ensures c.accepted_at.ensures

pub refused_at-requires : goal.refused_at-requires
refused_at-requires c =
    let e = c.whole.ensures in
    omega (arith, c.in-Err.ensures.left_then, e.0, e.1)

pub returns-in-Err : goal.returns-in-Err
unfolding counts_of
returns-in-Err c =
    let a = c.args in
    ends_so a.numbers.now a.ends.now a.weights.now c.all_runs.result c.all_runs.ensures a.threshold a.allowance c.whole.result
    a.answers.now a.certificate.now c.question_walk.new.answers c.question_walk.new.certificate (Err c.in-Err.stopped)
    (refused_is c.refused_at.result) c.whole.ensures c.in-Err.ensures c.refused_at.ensures
