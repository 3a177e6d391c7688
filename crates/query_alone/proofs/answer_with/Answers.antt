-- `answer_with` finds where the bins of each run begin, walks over the other runs, and writes the answers after a walk that reached its end. Assumes nothing.
use Rattle.std.proofs.Common.{arith, refl}
use Rattle.std.specs.Prelude.{Ok, Err}
use Rattle.model.proofs.Alone.{alone_passed}
use Rattle.model.proofs.FirstChecks.{fits}
use Rattle.model.specs.Demands.{Fits}
use Rattle.model.specs.Runs.{past_bin}
use Rattle.query.specs.Outcomes.{outcome_is, refused_is}
use Rattle.query_alone.specs.Others.{RunsPlaced}
use Rattle.query_alone.proofs.Returning.{bytes_fit, alone_stopped, alone_ended}
use Rattle.walk_state.proofs.Moving.{past_is}
use Rattle.query_alone.proofs.answer_with.Goals as goal

pub first_places-requires : goal.first_places-requires
first_places-requires c =
    let p = (alone_passed c.args.numbers.now c.args.ends.now c.args.threshold c.requires.0).lists in
    record { rise = p.ends_rise; last = p.ends_last; risen = p.numbers_rise; size = c.requires.1 }

pub walk_others-requires : goal.walk_others-requires
walk_others-requires c =
    let p = alone_passed c.args.numbers.now c.args.ends.now c.args.threshold c.requires.0 in
    (c.requires.0, record { some_runs = omega (arith, p.some_runs); placed = c.first_places.ensures })

pub found_after-requires : goal.found_after-requires
found_after-requires c =
    let a = c.args in
    let p = alone_passed a.numbers.now a.ends.now a.threshold c.requires.0 in
    let placed : RunsPlaced a.numbers.now a.ends.now c.first_places.new.firsts =
    record { some_runs = omega (arith, p.some_runs); placed = c.first_places.ensures } in
    (placed, c.in-Ok.ensures.left, bytes_fit a.numbers.now a.ends.now a.threshold a.allowance a.answers.now a.certificate.now c.walk_others.new.certificate (Ok c.in-Ok.w) c.requires.0 c.in-Ok.ensures)

pub returns-in-Ok : goal.returns-in-Ok
returns-in-Ok c =
    let a = c.args in
    let f : Fits past_bin a.numbers.now = let e = past_is in fits past_bin a.numbers.now (λ i. omega (arith, c.type_inv.numbers i)) in
    alone_ended a.numbers.now a.ends.now a.threshold a.allowance a.answers.now a.certificate.now c.walk_others.new.certificate (Ok c.in-Ok.w) c.requires.0 c.in-Ok.ensures f refl c.found_after.new.answers (outcome_is c.found_after.result) c.found_after.ensures

pub refused_at-requires : goal.refused_at-requires
refused_at-requires c = c.in-Err.ensures.left

pub returns-in-Err : goal.returns-in-Err
returns-in-Err c =
    let a = c.args in
    alone_stopped a.numbers.now a.ends.now a.threshold a.allowance a.answers.now a.certificate.now c.walk_others.new.certificate (Err c.in-Err.stopped) c.requires.0 c.in-Err.ensures c.in-Err.stopped refl (refused_is c.refused_at.result) c.refused_at.ensures
