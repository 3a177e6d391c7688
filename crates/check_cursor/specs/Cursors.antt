-- One cursor for each run: the numbers before it are below every bin that is still uncovered. Definitions only.
use Rattle.std.specs.Prelude.{ℕ, ◌/◌, ◌%◌, ◌≤◌, ◌<◌, List, ◌∷◌, ◌≡◌, length, get_or}
use Rattle.model.specs.Rows.{Rise}
use Rattle.model.specs.Runs.{Run, first_bin, slice, from, most_numbers, most_runs}
use Rattle.model.specs.Walk.{head_of}
use Rattle.first_bin.specs.Lent.{LentAt}

-- where run i starts, its numbers as they are lent, and its bins
abbrev pub start_of : List ℕ → ℕ → ℕ
start_of ends i = get_or (0 ∷ ends) i 0

abbrev pub lent_of : List ℕ → List ℕ → ℕ → List ℕ
lent_of numbers ends i = slice numbers (start_of ends i) (get_or ends i 0)

abbrev pub bins_of : List ℕ → List ℕ → ℕ → List ℕ
bins_of numbers ends i = from first_bin (lent_of numbers ends i)

abbrev pub run_at : List ℕ → List ℕ → ℕ → Run
run_at numbers ends i = record { label = i; weight = 1; bins = bins_of numbers ends i }

-- the first bin of run i from v on, or the number after the last bin
abbrev pub head_in : List ℕ → List ℕ → ℕ → ℕ → ℕ
head_in numbers ends i v = head_of (from v (bins_of numbers ends i))

-- A cursor is a bin × 2097152 + a place. (There are at most 1048576 numbers.)
abbrev pub cursor_places : ℕ
cursor_places = 2097152

unfoldable pub place_of : ℕ → ℕ
place_of c = c % cursor_places

unfoldable pub bin_of : ℕ → ℕ
bin_of c = c / cursor_places

-- Runs that rise, one after another, and for each a cursor in it: from its place on a run has the same bins from any bin not below b on. The cursor's bin
-- is the number at its place, or at the run's end the number after the last bin.
pub record Cursors (numbers ends cursors : List ℕ) (b : ℕ) : Type 0 where
  pub few : length ends ≤ most_runs
  pub short : length numbers ≤ most_numbers
  pub inside : (i : ℕ) → i < length ends → get_or ends i 0 ≤ length numbers
  pub risen : (i : ℕ) → i < length ends → Rise first_bin (bins_of numbers ends i)
  pub lengths : length cursors ≡ length ends
  pub before : (i : ℕ) → i < length ends → place_of (get_or cursors i 0) ≤ get_or ends i 0
  pub same : (i : ℕ) → i < length ends → (v : ℕ) → b ≤ v
      → from v (bins_of numbers ends i) ≡ from v (slice numbers (place_of (get_or cursors i 0)) (get_or ends i 0))
  pub exact : (i : ℕ) → i < length ends → bin_of (get_or cursors i 0) ≡ head_of (slice numbers (place_of (get_or cursors i 0)) (get_or ends i 0))

-- rising runs, one after another, and a place for each one's cursor
pub record Begins (numbers ends cursors : List ℕ) : Type 0 where
  pub few : length ends ≤ most_runs
  pub short : length numbers ≤ most_numbers
  pub lent : (i : ℕ) → i < length ends → LentAt numbers (start_of ends i) (get_or ends i 0)
  pub risen : (i : ℕ) → i < length ends → Rise first_bin (bins_of numbers ends i)
  pub lengths : length cursors ≡ length ends
