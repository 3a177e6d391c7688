-- `lcov_run` finds the section and reads it. Assumes nothing.
use lib.ListN.{length}
use mathlib.Core.Path.{subst}
use Rattle.lcov_form.specs.Reading.{read_from, result_of, lcov_run}
use Rattle.row_fill.specs.Filling.{Returns}
use Rattle.lcov_run.proofs.lcov_run.Goals as goal

pub returns : goal.returns
unfolding lcov_run
returns c =
    let a = c.args in
    subst
    (λ s. Returns (result_of (read_from (length a.file.now) (length a.run.now) 0 0 s) a.run.now) c.read_section.result c.read_section.new.run)
    c.find_section-start.ensures
    c.read_section.ensures
