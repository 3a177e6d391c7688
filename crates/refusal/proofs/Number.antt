-- Each reason's number is above 0. Assumes nothing.
use Rattle.std.proofs.Common.{◌≡◌, ℕ, suc, refl}
use Rattle.refusal.specs.Number.{number_of}
use Rattle.refusal.specs.declared.Reason.{Reason}
use Rattle.refusal.specs.declared.Reason.TheVariants.{RunCount, Threshold, Ends, NotRising, AnswersFull, CertificateFull, ProbesSpent, Field, Order, Names, Contradicted, Input, Mask, Rows, Record, Section, Weights}

pub number_above : (reason : Reason) → (n : ℕ) × (number_of reason ≡ suc n)
number_above RunCount = (0, refl)
number_above Threshold = (1, refl)
number_above Ends = (2, refl)
number_above NotRising = (3, refl)
number_above AnswersFull = (4, refl)
number_above CertificateFull = (5, refl)
number_above ProbesSpent = (6, refl)
number_above Field = (7, refl)
number_above Order = (8, refl)
number_above Names = (9, refl)
number_above Contradicted = (10, refl)
number_above Input = (11, refl)
number_above Mask = (12, refl)
number_above Rows = (13, refl)
number_above Record = (14, refl)
number_above Section = (15, refl)
number_above Weights = (16, refl)
