-- `split_sides` splits where the partition does, which is within the sides. Assumes nothing.
use Rattle.pair_partition.proofs.Sides.{split_first, split_second, below_within, above_within}
use Rattle.pair_partition.proofs.split_sides.Goals as goal

pub returns-then-first-second : goal.returns-then-first-second
returns-then-first-second c =
    let s = split_first c.requires c.if-first-second.true c.middle_of-pivot.ensures c.places_of.ensures in
    let b = below_within c.requires s in
    let a = above_within c.requires s in
    record { splits = s; first_inside = (b.0, a.0); second_inside = (b.1, a.1) }

pub returns-else-first-second : goal.returns-else-first-second
returns-else-first-second c =
    let s = split_second c.requires c.if-first-second.false c.middle_of-pivot-else-first-second.ensures c.places_of-else-first-second.ensures in
    let b = below_within c.requires s in
    let a = above_within c.requires s in
    record { splits = s; first_inside = (b.0, a.0); second_inside = (b.1, a.1) }
