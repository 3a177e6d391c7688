-- `question` walks over the runs that its mask chooses and tells where it ended. Assumes nothing.
use Rattle.std.proofs.Common.{◌∙◌, arith, ap, refl, subst, sym}
use Rattle.std.specs.Prelude.{Ok, Err}
use Rattle.model.proofs.FirstChecks.{chosen_passed}
use Rattle.query_each.proofs.Asking.{lists_checked, fitted_after, asks_on, asks_stopped}
use Rattle.query_each.specs.Questions.{Asks}
use Rattle.query_each.specs.declared.Totals.{Totals}
use Rattle.walk_whole.proofs.Plain.{plain_weighs}
use Rattle.query_each.proofs.question.Goals as goal

pub question_walk-requires : goal.question_walk-requires
question_walk-requires c =
    let a = c.args in
    let p = chosen_passed a.numbers.now a.ends.now a.chosen a.threshold c.requires.2 in
    record {
      few = p.few_runs;
      row = λ h. absurd (omega arith);
      only = p.only;
      some = omega (arith, p.threshold);
      met = omega (arith, p.met, plain_weighs a.numbers.now a.ends.now a.chosen p.only);
      lists = lists_checked a.numbers.now a.ends.now a.chosen a.threshold c.requires.2;
      placed = c.requires.1;
      bytes_fit = c.requires.0.written;
      allowed = c.requires.0.allowed;
    }

pub totals_after-requires : goal.totals_after-requires
totals_after-requires c =
    let a = c.args in
    let f = fitted_after a.numbers.now a.ends.now a.chosen a.threshold a.threshold a.q a.totals a.answers.now a.certificate.now a.results.now c.question_walk.new.answers
    c.question_walk.new.certificate refl c.requires.3 c.requires.0 (Ok c.in-Ok.w) c.in-Ok.ensures in
    omega (arith, f.parts)

pub totals_after-at-requires : goal.totals_after-at-requires
totals_after-at-requires c =
    let a = c.args in
    let f = fitted_after a.numbers.now a.ends.now a.chosen a.threshold a.threshold a.q a.totals a.answers.now a.certificate.now a.results.now c.question_walk.new.answers
    c.question_walk.new.certificate refl c.requires.3 c.requires.0 (Err c.in-Err.stopped) c.in-Err.ensures in
    omega (arith, f.parts)

pub returns-in-Ok : goal.returns-in-Ok
returns-in-Ok c =
    let a = c.args in
    subst
    (λ (x : Totals). Asks a.numbers.now a.ends.now a.chosen a.threshold a.q a.totals a.answers.now a.certificate.now a.results.now c.question_walk.new.answers
    c.question_walk.new.certificate c.tell.new.results (Ok x)) (sym c.totals_after.ensures)
    (asks_on a.numbers.now a.ends.now a.chosen a.threshold a.threshold a.q a.totals a.answers.now a.certificate.now a.results.now c.question_walk.new.answers
    c.question_walk.new.certificate refl c.requires.3 c.requires.0 (Ok c.in-Ok.w) c.in-Ok.ensures c.in-Ok.w refl _ c.tell.ensures)

pub returns-in-Err : goal.returns-in-Err
returns-in-Err c =
    let a = c.args in
    rw c.totals_after-at.ensures
    (asks_stopped a.numbers.now a.ends.now a.chosen a.threshold a.threshold a.q a.totals a.answers.now a.certificate.now a.results.now c.question_walk.new.answers
    c.question_walk.new.certificate refl c.requires.3 c.requires.0 (Err c.in-Err.stopped) c.in-Err.ensures c.in-Err.stopped refl)
