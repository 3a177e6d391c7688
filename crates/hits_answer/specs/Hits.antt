-- docs/SPECIFICATION.md, 'The program hits': what it prints for an input. Definitions only.
use Rattle.std.specs.Prelude.{ℕ, Bool, List, take, replicate}
use Rattle.hits_input.specs.Input as text
use Rattle.hits_limits.specs.Limits.{input_runs, input_numbers}
use Rattle.hits_render.specs.Text.{refuse_line}
use Rattle.hits_ask.specs.Ask.{text_for}

-- The input is refused, or is a question of at most so many numbers and runs as there is room for. `failed` says that a read failed after it
-- (docs/SPECIFICATION.md, 'The program hits').
unfoldable pub parsed : Bool → List ℕ → text.Result
parsed failed input = text.parse failed input (replicate input_numbers 0) (replicate input_runs 0)

unfoldable pub printed : text.Result → List ℕ
printed p =
    elim p.outcome [
      | text.refused number place ↦ refuse_line number place
      | text.question t allowance runs count ↦ text_for (take count p.numbers) (take runs p.ends) t allowance
    ]

unfoldable pub hits : Bool → List ℕ → List ℕ
hits failed input = printed (parsed failed input)
