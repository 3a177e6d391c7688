use borrow.Author.Rules.{rules}
use Rattle.query_difference.proofs.Passing.{copying_start, copying_end, copying_stop, copying_full, copying_on}
use Rattle.query_difference.proofs.copy_to.Goals as goal

pub loop-at-init : goal.loop-at-init
loop-at-init c =
    copying_start _ _ _ _ _ (search rules)

pub returns-then-last-x : goal.returns-then-last-x
returns-then-last-x c =
    copying_stop c.loop-at.invariant (search rules) (search rules)

pub returns-then-n-answers : goal.returns-then-n-answers
returns-then-n-answers c =
    copying_full c.loop-at.invariant (search rules) (search rules) (search rules)

pub loop-at-preserved : goal.loop-at-preserved
loop-at-preserved c =
    copying_on c.loop-at.invariant (search rules) (search rules) (search rules)

pub returns : goal.returns
returns c =
    copying_end c.loop-at.invariant (search rules)
