-- What the code's answer means: passed, or a number and a place of docs/SPECIFICATION.md, 'The refusals'. Definitions only.
use Rattle.std.specs.Prelude.{Result, Ok, Err}
use Rattle.model.specs.Refusals.{Check, passed}
use Rattle.refusal.specs.declared.Refusal.{Refusal}
use Rattle.refusal.specs.Number.{refusal_of}

abbrev pub check_of : Result (Unit {0}) Refusal → Check
check_of (Ok u) = passed
check_of (Err r) = refusal_of r
