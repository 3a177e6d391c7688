-- What the code's answer means, and what a call leaves in the two rows. Definitions only.
use Rattle.std.specs.Prelude.{ℕ, Result as Answer, Ok, Err, List, ◌≡◌}
use Rattle.hits_input.specs.Input.{Outcome, question, refused, Result}
use Rattle.hits_lines.specs.declared.Faulty.{Faulty}
use Rattle.hits_parse.specs.declared.Question.{Question}

-- the number and the values of each case (docs/SPECIFICATION.md, 'The program hits')
abbrev pub outcome_is : Answer Question Faulty → Outcome
outcome_is (Ok q) = question q.threshold q.allowance q.runs q.count
outcome_is (Err fault) = refused 12 fault.0

-- the outcome and both rows are those of the definition
pub record Returns (result : Result) (outcome : Outcome) (numbers' ends' : List ℕ) : Type 0 where
  pub outcome_agrees : outcome ≡ result.outcome
  pub numbers_are : numbers' ≡ result.numbers
  pub ends_are : ends' ≡ result.ends
