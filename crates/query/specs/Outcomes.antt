-- What the code's outcome means in the numbers of docs/SPECIFICATION.md, 'The refusals', and what a call returns and leaves in its buffers. Definitions only.
use Rattle.std.specs.Prelude.{List, ◌≡◌, ℕ, Result, Ok, Err}
use Rattle.model.specs.Refusals as model
use Rattle.query.specs.declared.Accepted.{Accepted}
use Rattle.query.specs.declared.Refused.{Refused}
use Rattle.refusal.specs.Number.{number_of}
use Rattle.refusal.specs.declared.Refusal.{Refusal}

abbrev pub accepted_is : Accepted → model.Outcome
accepted_is r = model.accepted r.answers r.parts r.bytes r.doublings r.halvings

abbrev pub refused_is : Refused → model.Outcome
refused_is r = model.refused (number_of r.refusal.reason) r.refusal.place r.answers r.bytes r.doublings r.halvings

abbrev pub outcome_is : Result Accepted Refused → model.Outcome
outcome_is (Ok r) = accepted_is r
outcome_is (Err r) = refused_is r

-- what a refusal of the first checks comes to
abbrev pub FirstRefused : Refusal → Refused → Type 0
FirstRefused refusal r = refused_is r ≡ model.refused (number_of refusal.reason) refusal.place 0 0 0 0

-- the outcome and the contents of both buffers are these
pub record Returns (answered : model.Answered) (outcome : model.Outcome) (answers' certificate' : List ℕ) : Type 0 where
  pub outcome_agrees : outcome ≡ answered.outcome
  pub answers_are : answers' ≡ answered.answers
  pub certificate_is : certificate' ≡ answered.certificate
