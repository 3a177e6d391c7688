-- `bin_of` takes the bin out of a cursor. Assumes nothing.
use Rattle.check_cursor.proofs.Cursors.{bin_is}
use Rattle.check_cursor.proofs.bin_of.Goals as goal

pub returns : goal.returns
returns c =
    bin_is c.args.cursor
