-- `tell` writes two numbers of the result row. Assumes nothing.
use Rattle.query_each.proofs.Asking.{told_so}
use Rattle.query_each.proofs.tell.Goals as goal

pub returns : goal.returns
returns c =
    let a = c.args in
    told_so a.results.now a.q a.answers a.bytes c.requires
