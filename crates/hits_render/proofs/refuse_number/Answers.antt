-- `refuse_number` shows its line. Assumes nothing.
use Rattle.std.proofs.Common.{arith}
use Rattle.hits_render.proofs.Fitting.{shows_laid, shown_whole}
use Rattle.hits_render.proofs.refuse_number.Goals as goal

pub returns-clause-shows : goal.returns-clause-shows
returns-clause-shows c = shows_laid c.put_refuse-end.ensures.laid c.shown.ensures

pub returns-clause-enough : goal.returns-clause-enough
returns-clause-enough c =
    let s = shows_laid c.put_refuse-end.ensures.laid c.shown.ensures in
    λ h. shown_whole s (omega (arith, c.put_refuse-end.ensures.room))
