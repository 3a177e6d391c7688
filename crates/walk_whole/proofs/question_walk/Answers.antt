-- `question_walk` lends rows of its own to the walk. Assumes nothing.
use Prim.Native.Nat.{◌≤◌}
use lib.ListN.{length}
use Rattle.model.specs.Runs.{most_runs}
use borrow.Author.Rules.{rules}
use Rattle.walk_whole.proofs.question_walk.Goals as goal

few : (c : goal.After-shared_slice_known-4-1) → length c.args.ends.now ≤ most_runs
few c =
    c.requires.few

pub slice_bounds-positions-end : goal.slice_bounds-positions-end
slice_bounds-positions-end c =
    few c

pub slice_bounds-keys-end : goal.slice_bounds-keys-end
slice_bounds-keys-end c =
    let few : length c.args.ends.now ≤ most_runs =
    c.requires.few in
    few

pub whole_walk-requires : goal.whole_walk-requires
whole_walk-requires c =
    record { asked = c.requires; positions_size = search rules; keys_size = search rules }
