-- `place_of` takes the place out of a cursor. Assumes nothing.
use Rattle.check_cursor.proofs.Cursors.{place_is}
use Rattle.check_cursor.proofs.place_of.Goals as goal

pub returns : goal.returns
returns c =
    place_is c.args.cursor
