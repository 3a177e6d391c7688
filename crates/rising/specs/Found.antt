-- What the code's answer means: a place, or none. Definitions only.
use Rattle.std.specs.Prelude.{ℕ, Option, Some, None}
use Rattle.std.proofs.Math.Option.{none, some}

abbrev pub found_place : Option ℕ → Rattle.std.proofs.Math.Option.Option ℕ
found_place (Some i) = some i
found_place None = none
