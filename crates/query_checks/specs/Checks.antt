-- What the code's answer means: all passed, or a question's index, a number and a place of docs/SPECIFICATION.md, 'Many questions'. Definitions only.
use Rattle.std.specs.Prelude.{Result, Ok, Err}
use Rattle.model.specs.Many.{ManyCheck, all_passed, refusal_in}
use Rattle.refusal.specs.Number.{number_of}
use Rattle.query_checks.specs.declared.ManyRefusal.{ManyRefusal}

abbrev pub many_check_of : Result (Unit {0}) ManyRefusal → ManyCheck
many_check_of (Ok u) = all_passed
many_check_of (Err m) = refusal_in m.question (number_of m.refusal.reason) m.refusal.place
