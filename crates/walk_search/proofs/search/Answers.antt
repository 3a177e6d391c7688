-- `search` is the defined search, within the probes left: the doubling, and then the halving with what the doubling left. Assumes nothing.
use native.Mathlib.Omega.{arith}
use Rattle.std.proofs.lemmas.Result.{err_from_is_err_and}
use Rattle.walk_search.proofs.Laws.{spent_doubling, doubled_inside, searched}
use Rattle.walk_search.proofs.search.Goals as goal

pub halved-requires : goal.halved-requires
halved-requires c =
    let a = c.args in
    let d = c.in_ok-lo.ensures in
    let i = doubled_inside a.before a.v a.s.now c.in_ok-lo.field-0 d in
    (i.0, i.1, omega (arith, c.requires))

pub returns-in_err-lo : goal.returns-in_err-lo
returns-in_err-lo c =
    let a = c.args in
    let p = err_from_is_err_and c.from_residual.result c.from_residual.ensures.1 in
    rw (p.1, p.2) (spent_doubling a.before a.v a.s.now c.in_err-lo.field-0.0 c.in_err-lo.ensures)

pub returns : goal.returns
returns c =
    let a = c.args in
    searched a.before a.v a.s.now c.in_ok-lo.field-0 c.in_ok-lo.ensures c.halved.result c.halved.ensures
