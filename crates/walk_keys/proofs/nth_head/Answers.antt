-- `nth_head` reads the head of the t-th key. Assumes nothing.
use Rattle.walk_keys.proofs.Laws.{nth_is}
use Rattle.walk_keys.proofs.nth_head.Goals as goal

pub returns : goal.returns
returns c =
    let a = c.args in nth_is a.keys.now a.start a.t
