use Rattle.std.proofs.Common.{sym, ap, ◌∙◌, arith, rules, tests}
use Rattle.std.proofs.lemmas.List.{length_push}
use Rattle.text_read.proofs.Splits.{piece_given, pieces_before, pieces_given}
use Rattle.hits_run.specs.Line.{count_is}
use Rattle.hits_run.proofs.Words.{count_empty, count_start, count_on, count_stop, count_end}
use Rattle.hits_run.proofs.count_run.Goals as goal

pub returns-then-is_empty : goal.returns-then-is_empty
returns-then-is_empty c = let h = c.if-is_empty.ensures in sym (count_empty c.args.line.now (search (rules, tests)))

pub loop-word-init : goal.loop-word-init
loop-word-init c = let h = c.if-is_empty.ensures in (omega arith, count_start c.args.line.now (search (rules, tests)))

pub returns-in_err-read_word : goal.returns-in_err-read_word
returns-in_err-read_word c =
    let w = piece_given _ c.into_iter-word-iterator.result 32 c.args.line.now (cc) (cc) (cc)
    (λ x b q k. search (rules, tests)) c.loop-word.yielded _ _ c.loop-word.yielded_by _ c.next.ensures.steps c.in-Some.word c.in-Some.is in
    ap count_is c.from_residual.ensures ∙ sym (c.loop-word.invariant.1 ∙ count_stop w c.loop-word.n (sym c.in_err-read_word.ensures))

pub overflow_add-n : goal.overflow_add-n
overflow_add-n c =
    let h = pieces_before _ c.into_iter-word-iterator.result 32 c.args.line.now (cc) (cc) (cc)
    (λ x b q k. search (rules, tests)) c.loop-word.yielded _ _ c.loop-word.yielded_by _ c.next.ensures.steps c.in-Some.word c.in-Some.is in
    omega (arith, h)

pub loop-word-preserved : goal.loop-word-preserved
loop-word-preserved c =
    let w = piece_given _ c.into_iter-word-iterator.result 32 c.args.line.now (cc) (cc) (cc)
    (λ x b q k. search (rules, tests)) c.loop-word.yielded _ _ c.loop-word.yielded_by _ c.next.ensures.steps c.in-Some.word c.in-Some.is in
    (omega (arith, length_push c.loop-word.yielded c.in-Some.word), c.loop-word.invariant.1 ∙ count_on w c.loop-word.n c.in_ok-read_word.field-0 (sym c.in_ok-read_word.ensures))

pub returns : goal.returns
returns c =
    sym (c.loop-word.invariant.1 ∙ count_end c.loop-word.n _ (pieces_given _ c.into_iter-word-iterator.result 32 c.args.line.now (cc) (cc) (cc)
    (λ x b q k. search (rules, tests)) c.loop-word.yielded _ _ c.loop-word.yielded_by _ c.next.ensures.steps c.in-None.is))
