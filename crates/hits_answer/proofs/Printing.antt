-- What stands in the program's buffers before is of no account: only their lengths matter. Assumes nothing.
use Prim.Native.Nat.{ℕ, ◌≤◌}
use lib.Dec.{ltb}
use lib.ListN.{length, take, drop, replicate, length-replicate, length-append}
use lib.Seq.{take-append_seam}
use mathlib.Core.Bool.{Bool, ◌||◌}
use mathlib.Core.List.{List, [], ◌∷◌, ◌++◌}
use mathlib.Core.Path.{◌≡◌, refl, sym, ap, ◌∙◌, subst}
use native.Mathlib.Omega.{arith}
use Rattle.model.specs.Refusals.{over}
use Rattle.hits_parse.specs.Parsed.{Returns}
use Rattle.hits_parse.proofs.Parsing.{ends_length}
use Rattle.hits_input.specs.Input as text
use Rattle.hits_limits.specs.Limits.{most_bytes, input_runs, input_numbers}
use Rattle.hits_render.specs.Text.{refuse_line}
use Rattle.hits_ask.specs.Ask.{text_for}
use Rattle.hits_answer.specs.Hits.{parsed, printed, hits}
use Rattle.text_read.specs.Pieces.{split}

-- ---- the input

-- Two results say the same: the outcome, and of a question its runs.
pub record Same (p q : text.Result) : Type 0 where
  pub outcome : p.outcome ≡ q.outcome
  pub numbers : (t allowance n m : ℕ) → p.outcome ≡ text.question t allowance n m → take m p.numbers ≡ take m q.numbers
  pub ends : (t allowance n m : ℕ) → p.outcome ≡ text.question t allowance n m → take n p.ends ≡ take n q.ends

pub take_over : (n : ℕ) (written buffer : List ℕ) → n ≡ length written → take n (over written buffer) ≡ written
unfolding over
take_over n written buffer e = ap (λ x. take x (written ++ drop (length written) buffer)) e ∙ take-append_seam written (drop (length written) buffer)

pub refused_not : {A : Type 0} {p q t x n m : ℕ} → text.refused p q ≡ text.question t x n m → A
refused_not e = let z : ◌≡◌ {A = ℕ} 0 1 = cc in absurd (omega arith)

result_same : (h : text.Heading) (l : text.Lines) (a b c d : List ℕ) → Same (text.result_of h l a b) (text.result_of h l c d)
unfolding text.result_of
result_same text.no_heading l a b c d =
    record { outcome = refl; numbers = λ t x n m e. refused_not e; ends = λ t x n m e. refused_not e }
result_same (text.heading u v) (text.fault_at line) a b c d =
    record { outcome = refl; numbers = λ t x n m e. refused_not e; ends = λ t x n m e. refused_not e }
result_same (text.heading u v) (text.runs_are rs) a b c d =
    record {
      outcome = refl;
      numbers = λ t x n m e.
          (let q : m ≡ length (text.row rs) = cc in
          take_over m (text.row rs) a q ∙ sym (take_over m (text.row rs) c q));
      ends = λ t x n m e.
          (let q : n ≡ length rs = cc in
          let k = ends_length 0 rs in
          take_over n (text.ends_from 0 rs) b (omega arith) ∙ sym (take_over n (text.ends_from 0 rs) d (omega arith)));
    }

lines_same : (more : Bool) (ls : List (List ℕ)) (a b c d : List ℕ) → length a ≡ length c → length b ≡ length d
    → Same (text.parse_lines more ls a b) (text.parse_lines more ls c d)
unfolding text.parse_lines
lines_same more [] a b c d e f = result_same text.no_heading (text.runs_are []) a b c d
lines_same more (l ∷ []) a b c d e f = result_same text.no_heading (text.runs_are []) a b c d
lines_same more (l ∷ next ∷ ls) a b c d e f =
    let k : text.lines_from (record { runs = length b; numbers = length a }) 0 0 (next ∷ ls)
    ≡ text.lines_from (record { runs = length d; numbers = length c }) 0 0 (next ∷ ls) =
    λ i. text.lines_from (record { runs = f i; numbers = e i }) 0 0 (next ∷ ls) in
    subst (λ x. Same (text.result_of (text.heading_of l) (text.limited more (text.lines_from (record { runs = length b; numbers = length a }) 0 0 (next ∷ ls))) a b)
    (text.result_of (text.heading_of l) (text.limited more x) c d))
    k (result_same (text.heading_of l) (text.limited more (text.lines_from (record { runs = length b; numbers = length a }) 0 0 (next ∷ ls))) a b c d)

pub parse_text : (failed : Bool) (input a b : List ℕ) → length a ≡ input_numbers → length b ≡ input_runs → Same (text.parse failed input a b) (parsed failed input)
unfolding text.parse parsed
parse_text failed input a b e f =
    lines_same (failed || ltb most_bytes (length input)) (split 10 (take most_bytes input)) a b (replicate input_numbers 0) (replicate input_runs 0)
    (e ∙ sym (length-replicate {A = ℕ} input_numbers 0)) (f ∙ sym (length-replicate {A = ℕ} input_runs 0))

-- a question's numbers and ends stand in the rows
result_fits : (h : text.Heading) (l : text.Lines) (a b : List ℕ) (t allowance n m : ℕ) → (text.result_of h l a b).outcome ≡ text.question t allowance n m
    → (m ≤ length (text.result_of h l a b).numbers) × (n ≤ length (text.result_of h l a b).ends)
unfolding text.result_of over
result_fits text.no_heading l a b t x n m e = refused_not e
result_fits (text.heading u v) (text.fault_at line) a b t x n m e = refused_not e
result_fits (text.heading u v) (text.runs_are rs) a b t x n m e =
    let q : m ≡ length (text.row rs) = cc in
    let k : n ≡ length rs = cc in
    let j = ends_length 0 rs in
    let f = length-append (text.row rs) (drop (length (text.row rs)) a) in
    let g = length-append (text.ends_from 0 rs) (drop (length (text.ends_from 0 rs)) b) in
    (omega arith, omega arith)

lines_fits : (more : Bool) (ls : List (List ℕ)) (a b : List ℕ) (t allowance n m : ℕ) → (text.parse_lines more ls a b).outcome ≡ text.question t allowance n m
    → (m ≤ length (text.parse_lines more ls a b).numbers) × (n ≤ length (text.parse_lines more ls a b).ends)
unfolding text.parse_lines
lines_fits more [] a b t x n m e = result_fits text.no_heading (text.runs_are []) a b t x n m e
lines_fits more (l ∷ []) a b t x n m e = result_fits text.no_heading (text.runs_are []) a b t x n m e
lines_fits more (l ∷ next ∷ ls) a b t x n m e =
    result_fits (text.heading_of l) (text.limited more (text.lines_from (record { runs = length b; numbers = length a }) 0 0 (next ∷ ls))) a b t x n m e

parse_fits : (failed : Bool) (input a b : List ℕ) (t allowance n m : ℕ) → (text.parse failed input a b).outcome ≡ text.question t allowance n m
    → (m ≤ length (text.parse failed input a b).numbers) × (n ≤ length (text.parse failed input a b).ends)
unfolding text.parse
parse_fits failed input a b t x n m e = lines_fits (failed || ltb most_bytes (length input)) (split 10 (take most_bytes input)) a b t x n m e

-- ---- what is printed

pub prints_refusal : (failed : Bool) (input : List ℕ) (n p : ℕ) → (parsed failed input).outcome ≡ text.refused n p → hits failed input ≡ refuse_line n p
unfolding hits printed
prints_refusal failed input n p e = rw (e, printed)

pub prints_question : (failed : Bool) (input : List ℕ) (t allowance n m : ℕ) → (parsed failed input).outcome ≡ text.question t allowance n m
    → hits failed input ≡ text_for (take m (parsed failed input).numbers) (take n (parsed failed input).ends) t allowance
unfolding hits printed
prints_question failed input t allowance n m e = rw (e, printed)

pub refusal_text : (failed : Bool) (input a b a' b' : List ℕ) (line : ℕ) → length a ≡ input_numbers → length b ≡ input_runs
    → Returns (text.parse failed input a b) (text.refused 12 line) a' b' → refuse_line 12 line ≡ hits failed input
refusal_text failed input a b a' b' line e f r = sym (prints_refusal failed input 12 line (sym (parse_text failed input a b e f).outcome ∙ sym r.outcome_agrees))

pub question_text : (failed : Bool) (input a b a' b' : List ℕ) (t allowance n m : ℕ) → length a ≡ input_numbers → length b ≡ input_runs
    → Returns (text.parse failed input a b) (text.question t allowance n m) a' b'
    → text_for (take m a') (take n b') t allowance ≡ hits failed input
question_text failed input a b a' b' t allowance n m e f r =
    let s = parse_text failed input a b e f in
    let o : (text.parse failed input a b).outcome ≡ text.question t allowance n m = sym r.outcome_agrees in
    let x : take m a' ≡ take m (parsed failed input).numbers = ap (take m) r.numbers_are ∙ s.numbers t allowance n m o in
    let y : take n b' ≡ take n (parsed failed input).ends = ap (take n) r.ends_are ∙ s.ends t allowance n m o in
    (λ d. text_for (x d) (y d) t allowance) ∙ sym (prints_question failed input t allowance n m (sym s.outcome ∙ o))

pub question_fits : (failed : Bool) (input a b a' b' : List ℕ) (t allowance n m : ℕ) → Returns (text.parse failed input a b) (text.question t allowance n m) a' b'
    → (m ≤ length a') × (n ≤ length b')
question_fits failed input a b a' b' t allowance n m r =
    let q = parse_fits failed input a b t allowance n m (sym r.outcome_agrees) in
    let x = ap length r.numbers_are in
    let y = ap length r.ends_are in
    (omega (arith, q.0), omega (arith, q.1))
