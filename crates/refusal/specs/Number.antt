-- The refusals' numbers, and what a check by the code says. Definitions only.
use Rattle.std.specs.Prelude.{ℕ, ◌≡◌}
use Rattle.model.specs.Refusals.{Check, refusal}
use Rattle.refusal.specs.declared.Reason.{Reason}
use Rattle.refusal.specs.declared.Reason.TheVariants.{RunCount, Threshold, Ends, NotRising, AnswersFull, CertificateFull, ProbesSpent, Field, Order, Names, Contradicted, Input, Mask, Rows, Record, Section, Weights}
use Rattle.refusal.specs.declared.Refusal.{Refusal}

abbrev pub number_of : Reason → ℕ
number_of RunCount = 1
number_of Threshold = 2
number_of Ends = 3
number_of NotRising = 4
number_of AnswersFull = 5
number_of CertificateFull = 6
number_of ProbesSpent = 7
number_of Field = 8
number_of Order = 9
number_of Names = 10
number_of Contradicted = 11
number_of Input = 12
number_of Mask = 13
number_of Rows = 14
number_of Record = 15
number_of Section = 16
number_of Weights = 17

-- a number is that of a reason
abbrev pub NumberOf : Reason → ℕ → Type 0
NumberOf reason number = number ≡ number_of reason

-- a refusal as the definitions of the calls have it
abbrev pub refusal_of : Refusal → Check
refusal_of r = refusal (number_of r.reason) r.place
