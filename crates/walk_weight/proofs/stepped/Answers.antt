-- `stepped` leaves the weight where each of the runs has a number left, and lowers it otherwise. Assumes nothing.
use Rattle.walk_weight.proofs.Lowering.{all_have}
use Rattle.walk_weight.proofs.stepped.Goals as goal

pub returns-then-kept-count : goal.returns-then-kept-count
returns-then-kept-count c =
    let a = c.args in
    all_have a.numbers.now a.ends.now a.weights.now a.positions.now a.movers a.weight a.count a.kept c.requires.0 c.requires.1 c.if-kept-count.true
