-- Bytes laid into a buffer one after another. Definitions only.
use Rattle.std.specs.Prelude.{ℕ, suc, ◌+◌, min, List, [], ◌∷◌, ◌≡◌, length, set}

-- a buffer with some bytes from a place on, as many as fit
unfoldable pub laid : List ℕ → ℕ → List ℕ → List ℕ
laid buffer at [] = buffer
laid buffer at (b ∷ bytes) = laid (set buffer at b) (suc at) bytes

-- Bytes are laid from a place on. The next place is where they end, or one past the buffer's length if they do not all fit.
pub record Lays (bytes before : List ℕ) (at : ℕ) (after : List ℕ) (next : ℕ) : Type 0 where
  pub text : after ≡ laid before at bytes
  pub place : next ≡ min (at + length bytes) (suc (length before))
