-- `search_each` searches the runs that the mask names, the lowest first. The invariant is `Here`, and that the weight is the one in play, after each search; the measure
-- is the mask, from which each turn takes a bit. Assumes nothing.
use Rattle.walk_state.specs.State.{InPlay}
use Rattle.walk_searches.proofs.Searching.{Here}
use Rattle.walk_searches.proofs.search_each.Given as goal

abbrev pub invariant-loop-rest : goal.invariant-loop-rest
invariant-loop-rest l = Here l.numbers l.ends l.initial.positions l.movers l.v l.allowed l.positions l.rest l.left.tally × InPlay l.numbers l.ends l.weights l.positions l.left.weight

abbrev pub decreases-loop-rest : goal.decreases-loop-rest
decreases-loop-rest l = l.rest
