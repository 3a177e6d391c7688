-- `without_run` meets its contract: a mask that names a run is at least that run's own mask. Assumes nothing.
use Rattle.std.proofs.Common.{arith}
use Rattle.mask.proofs.Lowest.{power_le}
use Rattle.mask.proofs.Mask.{bit_named, bit_unnamed}
use Rattle.mask.proofs.without_run.Goals as goal

pub overflow_sub-result : goal.overflow_sub-result
overflow_sub-result c =
    let a = c.args in
    let b = bit_named a.mask a.run c.names_run.result c.names_run.ensures c.if-names_run.true in
    omega (arith, c.only_run.ensures, power_le a.mask a.run b)

pub returns-then-names_run : goal.returns-then-names_run
returns-then-names_run c =
    let a = c.args in
    let b = bit_named a.mask a.run c.names_run.result c.names_run.ensures c.if-names_run.true in
    let p = power_le a.mask a.run b in
    rw b (omega (arith, c.only_run.ensures, p))

pub returns-else-names_run : goal.returns-else-names_run
returns-else-names_run c =
    let a = c.args in
    rw (bit_unnamed a.mask a.run c.names_run.result c.names_run.ensures c.if-names_run.false) (omega arith)
