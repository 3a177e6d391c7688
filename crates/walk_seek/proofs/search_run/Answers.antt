-- `search_run` searches a run within the probes left and moves it. Assumes nothing.
use Prim.Native.Nat.{◌+◌}
use borrow.Author.Rules.{rules}
use lib.ListN.{get_or, set}
use mathlib.Core.Path.{ap}
use Rattle.walk_seek.proofs.Searched.{place_inside, moved_ready, in_play_then}
use Rattle.walk_seek.proofs.search_run.Goals as goal

pub overflow_add-next : goal.overflow_add-next
overflow_add-next c =
    let a = c.args in
    let r = c.requires.placeable.0 in
    let s = c.searched_places-places.ensures in
    let e = rw (s.0, s.1) at c.in_ok-found.ensures in
    let i = place_inside a.numbers.now a.ends.now a.positions.now a.run a.v c.in_ok-found.found.place r.inside r.index e.0 in
    let k = c.type_inv.ends a.run in
    rw s.0 (search rules)

pub overflow_cast-positions : goal.overflow_cast-positions
overflow_cast-positions c =
    let a = c.args in
    let r = c.requires.placeable.0 in
    let s = c.searched_places-places.ensures in
    let e = rw (s.0, s.1) at c.in_ok-found.ensures in
    let i = place_inside a.numbers.now a.ends.now a.positions.now a.run a.v c.in_ok-found.found.place r.inside r.index e.0 in
    let k = c.type_inv.ends a.run in
    rw s.0 (search rules)

pub moved-left-requires : goal.moved-left-requires
moved-left-requires c =
    let a = c.args in
    let r = c.requires.placeable.0 in
    let s = c.searched_places-places.ensures in
    let e = rw (s.0, s.1) at c.in_ok-found.ensures in
    rw (s.0, s.1)
    (moved_ready a.numbers.now a.ends.now a.positions.now a.run a.v c.in_ok-found.found.place r.inside r.index e.0 a.weights.now a.weight
    (λ j. (c.type_inv.numbers j).fits) c.requires.run_bound.0 c.requires.run_bound.1)

pub returns : goal.returns
returns c =
    let a = c.args in
    let r = c.requires.placeable.0 in
    let s = c.searched_places-places.ensures in
    let e = rw (s.0, s.1) at c.in_ok-found.ensures in
    let l = rw (s.0, s.1) at c.moved-left.ensures in
    let place = c.in_ok-found.found.place in
    let p = get_or a.positions.now a.run 0 in
    let i = place_inside a.numbers.now a.ends.now a.positions.now a.run a.v place r.inside r.index e.0 in
    rw s.0 (
      e.1,
      e.2,
      ap (λ x. set a.positions.now a.run (p + x)) e.0,
      rw e.0 at i,
      in_play_then a.numbers.now a.ends.now a.positions.now a.run a.v place r.inside r.index e.0 a.weights.now a.weight (λ j. (c.type_inv.numbers j).fits)
          c.requires.run_bound.0 c.requires.run_bound.1 c.moved-left.result l,
    )
