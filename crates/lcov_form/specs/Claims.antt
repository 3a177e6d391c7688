-- What holds of every run read, whatever the file, the index and the row. Definitions only.
use Rattle.std.specs.Prelude.{ℕ, suc, ◌*◌, ◌≤◌, ◌<◌, List, ◌≢◌, ◌≡◌, length, take, drop}
use Rattle.std.proofs.Math.Option.{none}
use Rattle.model.specs.Refusals.{passed, refusal}
use Rattle.model.specs.Runs.{first_bin, from, unrisen_run}
use Rattle.lcov_form.specs.Reading.{covered_in, section_of, lcov_run}

pub record RunRead (file : List ℕ) (index : ℕ) (row : List ℕ) : Type 0 where
  -- The numbers written stand at the row's front, and the rest is unchanged.
  pub fits : (lcov_run file index row).count ≤ length row
  pub rest : drop (lcov_run file index row).count (lcov_run file index row).row ≡ drop (lcov_run file index row).count row
  -- They are the first of the line numbers of the `DA:` records whose count is above 0, in the order met, and all of them if nothing is refused.
  pub front : take (lcov_run file index row).count (lcov_run file index row).row ≡ take (lcov_run file index row).count (covered_in (section_of file index))
  pub whole : (lcov_run file index row).check ≡ passed → take (lcov_run file index row).count (lcov_run file index row).row ≡ covered_in (section_of file index)
  -- Wherever they stand among the numbers of a question, it does not refuse them as 4, and all of them are bins.
  pub rises : (place : ℕ) → unrisen_run place (take (lcov_run file index row).count (lcov_run file index row).row) ≡ none
  pub bins : from first_bin (take (lcov_run file index row).count (lcov_run file index row).row) ≡ take (lcov_run file index row).count (lcov_run file index row).row
  -- A row of a seventh of the file's length, rounded down, is never too short.
  pub enough : length file < 7 * suc (length row) → (place : ℕ) → (lcov_run file index row).check ≢ refusal 5 place
