-- `search_runs` searches the runs that the mask names and then puts their keys back; where it names none, all is as it was. Assumes nothing.
use Rattle.walk_put.proofs.Putting.{search_ready}
use Rattle.walk_searches.proofs.Searching.{none_searched}
use Rattle.walk_searches.proofs.search_runs.Goals as goal

-- no run is named, so that none is searched
pub returns-then-movers-eq0 : goal.returns-then-movers-eq0
returns-then-movers-eq0 c =
    let a = c.args in
    none_searched a.numbers.now a.ends.now a.weights.now a.positions.now a.keys.now a.from a.movers a.v a.allowed a.initial
    c.requires.0 c.requires.2 c.if-movers-eq0.true

pub put_runs-start-requires : goal.put_runs-start-requires
put_runs-start-requires c =
    let a = c.args in
    let e = c.in_ok-left.ensures in
    search_ready a.numbers.now a.ends.now a.positions.now a.keys.now a.from a.movers a.v c.search_each.new.positions c.requires.0 e.1
