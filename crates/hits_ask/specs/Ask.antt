-- docs/SPECIFICATION.md, 'The program hits': what it prints for a question. Definitions only.
use Rattle.std.specs.Prelude.{ℕ, List, replicate}
use Rattle.model.specs.Refusals as model
use Rattle.hits_limits.specs.Limits.{answer_room, certificate_room}
use Rattle.hits_render.specs.Text.{rendered}

-- the text of what a question comes to
unfoldable pub shown : model.Answered → List ℕ
shown a = rendered a.outcome a.certificate

-- The question is asked with the program's room for answers and certificate bytes. (What stands in a buffer before is of no account; here it is zeros.)
unfoldable pub asked : List ℕ → List ℕ → ℕ → ℕ → model.Answered
asked numbers ends t allowance = model.query numbers ends t allowance (replicate answer_room 0) (replicate certificate_room 0)

unfoldable pub text_for : List ℕ → List ℕ → ℕ → ℕ → List ℕ
text_for numbers ends t allowance = shown (asked numbers ends t allowance)
