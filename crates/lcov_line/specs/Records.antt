-- What the code's results mean. Definitions only.
use Rattle.std.specs.Prelude.{ℕ, Option, Some, None, Result, Ok, Err}
use Rattle.lcov_form.specs.Form.{Record, covered, malformed, passed_over}
use Rattle.lcov_line.specs.declared.Malformed.{Malformed}

abbrev pub record_is : Result (Option ℕ) Malformed → Record
record_is (Ok (Some x)) = covered x
record_is (Ok None) = passed_over
record_is (Err fault) = malformed
