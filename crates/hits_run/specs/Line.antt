-- What the functions on a run's line compute, and what the code's `Option` means. Definitions only.
use Rattle.std.specs.Prelude.{ℕ, List, [], ◌∷◌, length}
use Rattle.std.specs.Prelude.{Option as Found, Some, None}
use Rattle.std.proofs.Math.Option.{Option, none, some}
use Rattle.text_read.specs.Numbers.{number}

-- how many numbers a run has
abbrev pub count_is : Found ℕ → Option ℕ
count_is (Some n) = some n
count_is None = none

unfoldable pub count_of : Option (List ℕ) → Option ℕ
count_of none = none
count_of (some run) = some (length run)

-- the words that are numbers, up to the first that is none
unfoldable pub leading : List (List ℕ) → List ℕ
leading [] = []
leading (word ∷ words) = elim (number word) [ none ↦ [] | some x ↦ x ∷ leading words ]
