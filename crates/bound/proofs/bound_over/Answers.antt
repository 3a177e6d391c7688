use Rattle.std.proofs.Common.{◌<◌, ◌^◌, sym, arith}
use Rattle.bound.proofs.Checks.{start, next, fall_refused, last_refused, sum_returned}
use Rattle.bound.proofs.Fits.{one_fits}
use Rattle.bound.proofs.bound_over.Goals as goal

pub loop-i-init : goal.loop-i-init
loop-i-init c = start _ _ _

pub returns-then-end-before : goal.returns-then-end-before
returns-then-end-before c =
    let l = c.loop-i in
    sym (fall_refused _ _ _ l.sum l.before l.i l.invariant (omega arith) c.if-end-before.true)

-- the turn's end and its run's length fit 32 bits, so the run's bound is small
turn_fits : (c : goal.After-bound_in-sum) → c.bound_in-sum.result < 2 ^ 38
turn_fits c =
    let e = c.type_inv.ends c.loop-i.i in rw c.bound_in-sum.ensures (one_fits _ _ _ (omega arith) (omega arith))

pub overflow_add-sum : goal.overflow_add-sum
overflow_add-sum c = omega (arith, turn_fits c)

pub loop-i-preserved : goal.loop-i-preserved
loop-i-preserved c =
    let l = c.loop-i in
    rw c.bound_in-sum.ensures
    (next _ _ _ l.sum l.before l.i l.invariant (omega arith) c.if-end-before.false (rw c.bound_in-sum.ensures at (turn_fits c)))

pub returns-then-before-gt-MOST_NUMBERS : goal.returns-then-before-gt-MOST_NUMBERS
returns-then-before-gt-MOST_NUMBERS c =
    let l = c.loop-i in
    sym (last_refused _ _ _ l.sum l.before l.i l.invariant c.loop-i-test.false c.if-before-gt-MOST_NUMBERS.true)

pub returns : goal.returns
returns c =
    let l = c.loop-i in
    sym (sum_returned _ _ _ l.sum l.before l.i l.invariant c.loop-i-test.false c.if-before-gt-MOST_NUMBERS.false)
