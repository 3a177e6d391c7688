-- `put_done` lays its line. Assumes nothing.
use Rattle.hits_render.proofs.Room.{done_room}
use Rattle.hits_render.specs.Text.{done_line}
use Rattle.hits_render.proofs.put_done.Goals as goal

pub returns-clause-laid : goal.returns-clause-laid
unfolding done_line
returns-clause-laid c = rw (c.from.ensures, c.from-2.ensures) at c.put_line.ensures

pub returns-clause-room : goal.returns-clause-room
returns-clause-room c =
    let n = c.ranges in
    done_room c.args.answers c.args.parts c.args.doublings c.args.halvings n.answers.fits n.parts.fits n.doublings.fits n.halvings.fits
