-- A number at the start of a list. Definitions only.
use Rattle.std.specs.Prelude.{ℕ, Bool, false, List, [], ◌∷◌, eqb, drop}
use Rattle.model.specs.Runs.{one}

-- a list begins with a number
unfoldable pub begins_with : ℕ → List ℕ → Bool
begins_with v [] = false
begins_with v (x ∷ s) = eqb x v

-- and the number is passed over where it does
unfoldable pub passed_over : ℕ → List ℕ → List ℕ
passed_over v s = drop (one (begins_with v s)) s
