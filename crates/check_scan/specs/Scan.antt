-- The runs that a part takes up, and when one contradicts it. Definitions only.
use Rattle.std.specs.Prelude.{ℕ, ◌+◌, ◌*◌, ◌≤◌, ◌<◌, Bool, true, false, not, List, [], ◌∷◌, leb, eqb}
use Rattle.std.specs.Int.Bits.{bit_and}
use Rattle.model.specs.Certificate.{Part, answer, gap}
use Rattle.model.specs.Runs.{one}
use Rattle.check_cursor.specs.Cursors.{bin_of}
use Rattle.check_scan.specs.declared.Claim.{Claim}

-- the mask of the runs whose cursor's bin is not above l
unfoldable pub reached_of : ℕ → List ℕ → ℕ
reached_of l [] = 0
reached_of l (c ∷ cursors) = reached_of l cursors * 2 + one (leb (bin_of c) l)

-- the runs to take up: those of m for an answer, and those of m that it reaches for a gap up to l
unfoldable pub to_scan : Bool → ℕ → ℕ → List ℕ → ℕ
to_scan true l m cursors = m
to_scan false l m cursors = bit_and m (reached_of l cursors)

-- A run whose first number from f on is h contradicts the answer f, or the gap from f to l.
unfoldable pub clash : Bool → ℕ → ℕ → ℕ → Bool
clash true f l h = not (eqb h f)
clash false f l h = leb h l

-- an answer or a gap
unfoldable pub claim : Bool → ℕ → ℕ → ℕ → Part
claim true f l m = answer f m
claim false f l m = gap f l m

-- the part that the code's claim stands for
abbrev pub part_is : Claim → Part
part_is c = claim c.held c.first c.last c.mask

-- one number more is passed, or none; one only where x is below f
pub record MorePassed (x f n : ℕ) : Type 0 where
  pub most : n ≤ 1
  pub below : 0 < n → x < f
