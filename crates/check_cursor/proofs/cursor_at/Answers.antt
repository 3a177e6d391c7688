-- `cursor_at` puts a bin and a place into one number. Assumes nothing.
use mathlib.Core.Path.{refl}
use Rattle.model.specs.Runs.{past_bin}
use Rattle.check_cursor.proofs.Cursors.{place_at, bin_at}
use borrow.Author.Rules.{rules}
use Rattle.check_cursor.proofs.cursor_at.Goals as goal

pub overflow_mul-result : goal.overflow_mul-result
unfolding past_bin
overflow_mul-result c =
    search rules

pub overflow_add-result : goal.overflow_add-result
unfolding past_bin
overflow_add-result c =
    search rules

pub returns : goal.returns
returns c =
    let a = c.args in
    (place_at a.bin a.place _ c.requires.1 refl, bin_at a.bin a.place _ c.requires.1 refl)
