-- `number_at` reads a run at a place. Assumes nothing.
use mathlib.Core.Path.{◌∙◌}
use native.Mathlib.Omega.{arith}
use Rattle.check_cursor.proofs.Moving.{number_there, number_past}
use Rattle.check_cursor.proofs.number_at.Goals as goal

pub returns-then-place-end : goal.returns-then-place-end
returns-then-place-end c =
    let a = c.args in
    c.from.ensures ∙ number_there a.numbers.now a.place a.end c.if-place-end.true c.requires.1

pub returns-else-place-end : goal.returns-else-place-end
returns-else-place-end c =
    let a = c.args in
    number_past a.numbers.now a.place a.end (omega arith)
