use Rattle.std.proofs.Common.{arith}
use Rattle.first_bin.proofs.Places.{first_inside}
use Rattle.walk_begin.proofs.Beginning.{begun_start, lent_next, begun_on, begun_end}
use Rattle.walk_begin.proofs.first_places.Goals as goal

pub loop-i-init : goal.loop-i-init
loop-i-init c =
    begun_start _ _ _ c.requires

pub first_place-requires : goal.first_place-requires
first_place-requires c =
    lent_next c.loop-i.invariant c.loop-i-test.true

-- a place in a run is a number of 32 bits, as the run's end is
pub overflow_cast-firsts : goal.overflow_cast-firsts
overflow_cast-firsts c =
    let k = first_inside _ _ _ (lent_next c.loop-i.invariant c.loop-i-test.true) in
    let e = c.first_place.ensures in
    let w = c.type_inv.ends c.loop-i.i in
    record { fits = omega arith }

pub loop-i-preserved : goal.loop-i-preserved
loop-i-preserved c =
    begun_on c.loop-i.invariant c.loop-i-test.true c.first_place.result c.first_place.ensures

pub returns : goal.returns
returns c =
    begun_end c.loop-i.invariant c.loop-i-test.false
