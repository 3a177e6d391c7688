-- `begin` puts each run where the walk begins, and the keys of the chosen runs into the row. Assumes nothing.
use Rattle.std.proofs.Common.{refl, subst}
use Rattle.walk_state.specs.State.{Holds}
use Rattle.walk_begin.proofs.Standing.{standing_idle, standing_placed}
use Rattle.walk_put.proofs.Putting.{begin_ready}
use Rattle.walk_begin.proofs.begin.Goals as goal

pub put_runs-requires : goal.put_runs-requires
put_runs-requires c =
    let placed = standing_placed c.args.chosen _ _ _ _ c.requires.inside c.begin_each.ensures in
    begin_ready _ _ _ _ _ _ _ c.requires.few c.requires.keys_size refl c.requires.only (standing_idle c.args.chosen _) placed

pub returns : goal.returns
returns c =
    let a = c.args in
    let placed = standing_placed a.chosen _ _ _ _ c.requires.inside c.begin_each.ensures in
    subst (λ x. Holds a.numbers.now a.ends.now c.begin_each.new.positions c.put_runs.new.keys c.put_runs.result x) placed.runs_are_law c.put_runs.ensures
