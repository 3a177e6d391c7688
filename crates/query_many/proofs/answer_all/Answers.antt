-- `answer_all` lends a row of its own for the places of the runs' first bins. Assumes nothing.
use Rattle.model.proofs.FirstChecks.{count_passed}
use Rattle.model.proofs.ManyChecks.{many_passed}
use Rattle.query_many.proofs.answer_all.Goals as goal

pub slice_bounds-firsts-end : goal.slice_bounds-firsts-end
slice_bounds-firsts-end c =
    let a = c.args in
    (count_passed a.ends.now (many_passed a.numbers.now a.ends.now a.masks.now a.thresholds.now a.results.now c.requires).counted).1
