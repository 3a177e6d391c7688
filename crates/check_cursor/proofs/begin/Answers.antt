use mathlib.Core.Path.{refl}
use Rattle.check_cursor.proofs.Placing.{place_inside, place_fits, placed_on, placed_all}
use Rattle.check_cursor.proofs.begin.Goals as goal

pub number_at-requires : goal.number_at-requires
number_at-requires c =
    place_inside c.requires c.loop-i.invariant c.loop-i-test.true refl c.first_place-first.ensures

pub cursor_at-requires : goal.cursor_at-requires
cursor_at-requires c =
    place_fits c.requires c.loop-i.invariant c.loop-i-test.true refl c.first_place-first.ensures c.number_at.ensures

pub loop-i-preserved : goal.loop-i-preserved
loop-i-preserved c =
    placed_on c.requires c.loop-i.invariant c.loop-i-test.true refl c.first_place-first.ensures c.number_at.ensures c.cursor_at.result c.cursor_at.ensures

pub returns : goal.returns
returns c =
    placed_all c.requires c.loop-i.invariant c.loop-i-test.false
