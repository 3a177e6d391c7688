-- `answer` lends a row for the places of the first bins. Assumes nothing.
use borrow.Author.Rules.{rules}
use Rattle.model.proofs.Alone.{alone_passed}
use Rattle.query_alone.proofs.answer.Goals as goal

pub slice_bounds-firsts-end : goal.slice_bounds-firsts-end
slice_bounds-firsts-end c =
    (alone_passed c.args.numbers.now c.args.ends.now c.args.threshold c.requires).few_runs
