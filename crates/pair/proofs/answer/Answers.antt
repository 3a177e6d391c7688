-- `answer` returns how many answers are kept, or that one more was due. Assumes nothing.
use Rattle.std.proofs.Common.{rules}
use Rattle.model.specs.Runs.{runs}
use Rattle.pair_model.specs.Pair.{found_in, partition_of}
use Rattle.pair.proofs.Answering.{answered}
use Rattle.pair.proofs.answer.Goals as goal

pub returns : goal.returns
returns c =
    let a = c.args in
    answered (found_in (partition_of (runs a.numbers.now a.ends.now))) a.answers.now c.find_both.new.answers c.find_both.result c.map_err.result c.find_both.ensures (search rules)
