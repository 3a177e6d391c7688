-- What a call comes to that fills a lent row of numbers, and what the code's outcome means. Definitions only.
use Rattle.std.specs.Prelude.{ℕ, List, ◌≡◌, Result, Ok, Err}
use Rattle.model.specs.Refusals.{Check, passed}
use Rattle.refusal.specs.Number.{refusal_of}
use Rattle.row_fill.specs.declared.Unfilled.{Unfilled}

-- The refusal that ended it, if one did, the count written, and what then stands in the row.
pub record Filling : Type 0 where
  pub check : Check
  pub count : ℕ
  pub row : List ℕ

abbrev pub check_is : Result ℕ Unfilled → Check
check_is (Ok count) = passed
check_is (Err u) = refusal_of u.refusal

abbrev pub count_is : Result ℕ Unfilled → ℕ
count_is (Ok count) = count
count_is (Err u) = u.count

-- the outcome, the count and the contents of the row are those of the filling
pub record Returns (filling : Filling) (outcome : Result ℕ Unfilled) (row' : List ℕ) : Type 0 where
  pub check_agrees : check_is outcome ≡ filling.check
  pub count_agrees : count_is outcome ≡ filling.count
  pub row_is : row' ≡ filling.row
