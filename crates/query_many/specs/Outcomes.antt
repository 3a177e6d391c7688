-- What the code's outcome means in the numbers of docs/SPECIFICATION.md, 'Many questions', and what a call returns and leaves in its buffers and its result row.
-- Definitions only.
use Rattle.std.specs.Prelude.{List, ◌≡◌, ℕ, Result, Ok, Err}
use Rattle.model.specs.Many as model
use Rattle.query.specs.declared.Accepted.{Accepted}
use Rattle.query_checks.specs.declared.ManyRefusal.{ManyRefusal}
use Rattle.query_many.specs.declared.RefusedMany.{RefusedMany}
use Rattle.refusal.specs.Number.{number_of}

abbrev pub many_outcome_is : Result Accepted RefusedMany → model.ManyOutcome
many_outcome_is (Ok r) = model.all_accepted r.answers r.parts r.bytes r.doublings r.halvings
many_outcome_is (Err r) = model.refused_in r.question (number_of r.refusal.reason) r.refusal.place r.answers r.parts r.bytes r.doublings r.halvings

-- what a refusal of the first checks comes to
abbrev pub FirstRefusedMany : ManyRefusal → RefusedMany → Type 0
FirstRefusedMany first r = many_outcome_is (Err r) ≡ model.refused_in first.question (number_of first.refusal.reason) first.refusal.place 0 0 0 0 0

-- the outcome and the contents of both buffers and of the result row are those of the call
pub record ReturnsMany (answered : model.AnsweredMany) (outcome : model.ManyOutcome) (answers' certificate' results' : List ℕ) : Type 0 where
  pub outcome_agrees : outcome ≡ answered.outcome
  pub answers_are : answers' ≡ answered.answers
  pub certificate_is : certificate' ≡ answered.certificate
  pub results_are : results' ≡ answered.results
