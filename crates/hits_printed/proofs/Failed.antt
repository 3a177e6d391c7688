-- What is printed if a read failed after the input, whatever the input is: refusal 12, at the line that the input alone is refused at, or, if it is a
-- question, at the line after its last. Assumes nothing.
use Prim.Native.Nat.{ℕ, ◌+◌}
use lib.Dec.{ltb}
use lib.ListN.{length, take, replicate}
use mathlib.Core.Bool.{Bool, true, false}
use mathlib.Core.List.{List, [], ◌∷◌}
use mathlib.Core.Path.{◌≡◌, refl, ap, ◌∙◌}
use Rattle.hits_input.specs.Input as text
use Rattle.hits_limits.specs.Limits.{most_bytes, input_runs, input_numbers}
use Rattle.hits_render.specs.Text.{refuse_line}
use Rattle.hits_answer.specs.Hits.{parsed, hits}
use Rattle.hits_answer.proofs.Printing.{prints_refusal}
use Rattle.hits_printed.proofs.Refusals.{fault}
use Rattle.text_read.specs.Pieces.{split}

-- What an outcome becomes if a read then fails: of a question a fault in the line after its last, and a refusal stays as it is.
unfoldable with_more : text.Outcome → text.Outcome
with_more (text.question t allowance runs count) = text.refused 12 (runs + 2)
with_more (text.refused number place) = text.refused number place

result_more : (more : Bool) (h : text.Heading) (l : text.Lines) (a b : List ℕ)
    → (text.result_of h (text.limited true l) a b).outcome ≡ with_more (text.result_of h (text.limited more l) a b).outcome
unfolding with_more text.result_of text.limited
result_more more text.no_heading l a b = refl
result_more true (text.heading t x) (text.runs_are rs) a b = refl
result_more true (text.heading t x) (text.fault_at line) a b = refl
result_more false (text.heading t x) (text.runs_are rs) a b = refl
result_more false (text.heading t x) (text.fault_at line) a b = refl

lines_more : (more : Bool) (ls : List (List ℕ)) (a b : List ℕ) → (text.parse_lines true ls a b).outcome ≡ with_more (text.parse_lines more ls a b).outcome
unfolding with_more text.parse_lines text.result_of
lines_more more [] a b = refl
lines_more more (l ∷ []) a b = refl
lines_more more (l ∷ next ∷ ls) a b =
    result_more more (text.heading_of l) (text.lines_from (record { runs = length b; numbers = length a }) 0 0 (next ∷ ls)) a b

parsed_more : (input : List ℕ) → (parsed true input).outcome ≡ with_more (parsed false input).outcome
unfolding parsed text.parse
parsed_more input = lines_more (ltb most_bytes (length input)) (split 10 (take most_bytes input)) (replicate input_numbers 0) (replicate input_runs 0)

-- If the input alone is a question of r runs, the failed read stands in line r + 2, and that is told.
pub failed_line : (input : List ℕ) (t allowance r count : ℕ) → (parsed false input).outcome ≡ text.question t allowance r count
    → hits true input ≡ refuse_line 12 (r + 2)
unfolding with_more
failed_line input t allowance r count e = prints_refusal true input 12 (r + 2) (parsed_more input ∙ ap with_more e)

-- If the input alone is refused at a line, that line is told.
pub failed_fault : (input : List ℕ) (n p : ℕ) → (parsed false input).outcome ≡ text.refused n p → hits true input ≡ refuse_line 12 p
unfolding with_more
failed_fault input n p e =
    prints_refusal true input n p (parsed_more input ∙ ap with_more e) ∙ ap (λ x. refuse_line x p) (fault false input n p e)

-- Whatever the input is: the line of refusal 12 is printed, at some line.
pub failed_refused : (input : List ℕ) → (line : ℕ) × (hits true input ≡ refuse_line 12 line)
failed_refused input = go (parsed false input).outcome refl
  where
    go : (o : text.Outcome) → (parsed false input).outcome ≡ o → (line : ℕ) × (hits true input ≡ refuse_line 12 line)
    go (text.question t allowance r count) e = (r + 2, failed_line input t allowance r count e)
    go (text.refused n p) e = (p, failed_fault input n p e)
