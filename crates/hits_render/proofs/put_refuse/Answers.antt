-- `put_refuse` lays its line from the front on. Assumes nothing.
use Rattle.hits_render.proofs.Room.{refuse_room}
use Rattle.hits_render.specs.Text.{refuse_line}
use Rattle.hits_render.proofs.put_refuse.Goals as goal

pub returns-clause-laid : goal.returns-clause-laid
unfolding refuse_line
returns-clause-laid c = c.put_line.ensures

pub returns-clause-room : goal.returns-clause-room
returns-clause-room c = refuse_room c.args.number c.args.place c.ranges.number.fits c.ranges.place.fits
