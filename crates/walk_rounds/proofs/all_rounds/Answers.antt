-- `all_rounds` makes rounds until one ends the walk: each that goes on keeps `Made` and raises the floor. Assumes nothing.
use Rattle.std.proofs.Common.{arith}
use Rattle.std.specs.Prelude.{Ok, Err}
use Rattle.walk_rounds.proofs.Finishing.{made_none, made_more, made_all}
use Rattle.walk_state.specs.State.{chosen_at}
use Rattle.walk_rounds.proofs.all_rounds.Goals as goal

pub loop-y-init : goal.loop-y-init
loop-y-init c =
    let a = c.args in
    made_none a.numbers.now a.ends.now a.weights.now a.chosen a.threshold a.w a.answers.now a.certificate.now a.positions.now a.keys.now c.requires.0 c.requires.1 c.requires.2

pub round-requires : goal.round-requires
round-requires c = (c.loop-y.invariant.stands, c.loop-y.invariant.chooses, c.loop-y.invariant.fits)

pub loop-y-smaller : goal.loop-y-smaller
loop-y-smaller c =
    let e = rw c.in-Ok-On.field-0-is at c.in-Ok-On.ensures in
    let r = e.raises in
    let b = e.goes.0.bin in
    omega arith

pub loop-y-preserved : goal.loop-y-preserved
loop-y-preserved c =
    let a = c.args in
    let e = rw c.in-Ok-On.field-0-is at c.in-Ok-On.ensures in
    made_more a.numbers.now a.ends.now a.weights.now a.chosen a.threshold (chosen_at a.weights.now a.chosen a.numbers.now a.positions.now a.ends.now) a.w a.answers.now a.certificate.now
    c.loop-y.positions c.loop-y.keys c.loop-y.answers c.loop-y.certificate c.loop-y.x c.loop-y.invariant
    c.round.new.positions c.round.new.keys c.round.new.answers c.round.new.certificate c.in-Ok-On.y (e.goes, e.raises)

pub returns-in-Ok-Done : goal.returns-in-Ok-Done
returns-in-Ok-Done c =
    let a = c.args in
    let e = rw c.in-Ok-Done.field-0-is at c.in-Ok-Done.ensures in
    made_all a.numbers.now a.ends.now a.weights.now a.chosen a.threshold (chosen_at a.weights.now a.chosen a.numbers.now a.positions.now a.ends.now) a.w a.answers.now a.certificate.now
    c.loop-y.positions c.loop-y.keys c.loop-y.answers c.loop-y.certificate c.loop-y.x c.loop-y.invariant
    c.round.new.answers c.round.new.certificate (Ok c.in-Ok-Done.y) e.goes.0 e.goes.1

pub returns-in-Err : goal.returns-in-Err
returns-in-Err c =
    let a = c.args in
    let e = c.in-Err.ensures in
    made_all a.numbers.now a.ends.now a.weights.now a.chosen a.threshold (chosen_at a.weights.now a.chosen a.numbers.now a.positions.now a.ends.now) a.w a.answers.now a.certificate.now
    c.loop-y.positions c.loop-y.keys c.loop-y.answers c.loop-y.certificate c.loop-y.x c.loop-y.invariant
    c.round.new.answers c.round.new.certificate (Err c.in-Err.stopped) e.goes.0 e.goes.1
