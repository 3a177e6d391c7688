-- docs/SPECIFICATION.md, 'The program hits': which refusals it can print. Definitions only.
use Rattle.std.specs.Prelude.{ℕ, ◌⊎◌, ◌≡◌}

-- The numbers of the refusals that can be printed: 12 of the input, and 1, 2, 4 and 7 of its question.
unfoldable pub Printable : ℕ → Type 0
Printable n = (n ≡ 1) ⊎ ((n ≡ 2) ⊎ ((n ≡ 4) ⊎ ((n ≡ 7) ⊎ (n ≡ 12))))
