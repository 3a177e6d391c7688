use Rattle.std.proofs.Common.{sym, rules, tests}
use Rattle.text_read.proofs.Splits.{piece_given, pieces_given}
use Rattle.hits_run.proofs.Words.{storing_start, storing_on, storing_room, storing_stop, storing_end}
use Rattle.hits_run.proofs.write_run.Goals as goal

pub loop-word-init : goal.loop-word-init
loop-word-init c = (storing_start c.args.line.now c.args.numbers.now c.args.from, c.requires)

pub returns-in_default : goal.returns-in_default
returns-in_default c =
    let w = piece_given _ c.into_iter-word-iterator.result 32 c.args.line.now (cc) (cc) (cc)
    (λ x b q k. search (rules, tests)) c.loop-word.yielded _ _ c.loop-word.yielded_by _ c.next.ensures.steps c.in-Some.word c.in-Some.is in
    storing_stop c.loop-word.invariant.0 w (sym c.in_default.ensures)

pub bounds-numbers-n : goal.bounds-numbers-n
bounds-numbers-n c =
    let w = piece_given _ c.into_iter-word-iterator.result 32 c.args.line.now (cc) (cc) (cc)
    (λ x b q k. search (rules, tests)) c.loop-word.yielded _ _ c.loop-word.yielded_by _ c.next.ensures.steps c.in-Some.word c.in-Some.is in
    storing_room c.loop-word.invariant.0 w c.in-Some-read_word.x (sym c.in-Some-read_word.ensures) c.loop-word.invariant.1

pub loop-word-preserved : goal.loop-word-preserved
loop-word-preserved c =
    let w = piece_given _ c.into_iter-word-iterator.result 32 c.args.line.now (cc) (cc) (cc)
    (λ x b q k. search (rules, tests)) c.loop-word.yielded _ _ c.loop-word.yielded_by _ c.next.ensures.steps c.in-Some.word c.in-Some.is in
    (storing_on c.loop-word.invariant.0 w c.in-Some-read_word.x (sym c.in-Some-read_word.ensures), c.loop-word.invariant.1)

pub returns : goal.returns
returns c =
    storing_end c.loop-word.invariant.0 (pieces_given _ c.into_iter-word-iterator.result 32 c.args.line.now (cc) (cc) (cc)
    (λ x b q k. search (rules, tests)) c.loop-word.yielded _ _ c.loop-word.yielded_by _ c.next.ensures.steps c.in-None.is)
