-- `read_first` gives the two numbers of line 1. Assumes nothing.
use Rattle.std.proofs.Common.{◌≡◌, ℕ, Bool, true, false, not, Option, Some, None, Bor, List, [], ◌∷◌, refl, sym, ap, ◌∙◌, rules, tests}
use Rattle.std.specs.Option.{is_some}
use Rattle.std.specs.Bool.{then_some}
use Rattle.hits_input.specs.Input.{Heading, heading, no_heading, heading_of}
use Rattle.text_read.proofs.Splits.{piece_given, pieces_given}
use Rattle.hits_heading.specs.Heading.{heading_is}
use Rattle.hits_heading.specs.declared.Heading.{Heading as Numbers}
use Rattle.hits_heading.proofs.Headings.{no_number, no_next, no_second, both_numbers, third_word}
use Rattle.hits_heading.proofs.read_first.Goals as goal

pub returns-in_err-read_word : goal.returns-in_err-read_word
unfolding heading_of
returns-in_err-read_word c =
    let e = piece_given _ c.split-words.result 32 c.args.line.now c.split-words.ensures.rest c.split-words.ensures.done c.split-words.ensures.closure
    (λ x b q k. search (rules, tests)) [] _ _ refl _ c.next.ensures.steps c.in_ok-next.field-0 c.in_ok-next.was in
    ap heading_is c.from_residual-in_err-read_word.ensures ∙ sym (no_number e (sym c.in_err-read_word.ensures))

pub returns-in_err-next-2 : goal.returns-in_err-next-2
unfolding heading_of
returns-in_err-next-2 c =
    let e = piece_given _ c.split-words.result 32 c.args.line.now c.split-words.ensures.rest c.split-words.ensures.done c.split-words.ensures.closure
    (λ x b q k. search (rules, tests)) [] _ _ refl _ c.next.ensures.steps c.in_ok-next.field-0 c.in_ok-next.was in
    let f = pieces_given _ c.split-words.result 32 c.args.line.now c.split-words.ensures.rest c.split-words.ensures.done c.split-words.ensures.closure
    (λ x b q k. search (rules, tests)) (c.in_ok-next.field-0 ∷ []) _ _ (_, c.in_ok-next.ensures.steps, refl) _ c.next-2.ensures.steps c.in_err-next-2.was in
    ap heading_is c.from_residual-in_err-next-2.ensures ∙ sym (no_next e f)

pub returns-in_err-read_word-2 : goal.returns-in_err-read_word-2
unfolding heading_of
returns-in_err-read_word-2 c =
    let e = piece_given _ c.split-words.result 32 c.args.line.now c.split-words.ensures.rest c.split-words.ensures.done c.split-words.ensures.closure
    (λ x b q k. search (rules, tests)) [] _ _ refl _ c.next.ensures.steps c.in_ok-next.field-0 c.in_ok-next.was in
    let f = piece_given _ c.split-words.result 32 c.args.line.now c.split-words.ensures.rest c.split-words.ensures.done c.split-words.ensures.closure
    (λ x b q k. search (rules, tests)) (c.in_ok-next.field-0 ∷ []) _ _ (_, c.in_ok-next.ensures.steps, refl) _ c.next-2.ensures.steps
    c.in_ok-next-2.field-0 c.in_ok-next-2.was in
    ap heading_is c.from_residual-in_err-read_word-2.ensures ∙ sym (no_second e (sym c.in_ok-read_word.ensures) f (sym c.in_err-read_word-2.ensures))

-- the numbers, if no word follows
lone : (h : Numbers) (first : Heading) (r : Option (Bor (List ℕ))) (b : Bool) → is_some r ≡ not b → (r ≡ None → first ≡ heading h.threshold h.allowance)
    → ((word : Bor (List ℕ)) → r ≡ Some word → first ≡ no_heading) → heading_is (then_some b h) ≡ first
lone h first None true e f g = sym (f refl)
lone h first None false e f g = cc
lone h first (Some word) true e f g = cc
lone h first (Some word) false e f g = sym (g word refl)

pub returns : goal.returns
unfolding heading_of
returns c =
    let e = piece_given _ c.split-words.result 32 c.args.line.now c.split-words.ensures.rest c.split-words.ensures.done c.split-words.ensures.closure
    (λ x b q k. search (rules, tests)) [] _ _ refl _ c.next.ensures.steps c.in_ok-next.field-0 c.in_ok-next.was in
    let f = piece_given _ c.split-words.result 32 c.args.line.now c.split-words.ensures.rest c.split-words.ensures.done c.split-words.ensures.closure
    (λ x b q k. search (rules, tests)) (c.in_ok-next.field-0 ∷ []) _ _ (_, c.in_ok-next.ensures.steps, refl) _ c.next-2.ensures.steps
    c.in_ok-next-2.field-0 c.in_ok-next-2.was in
    ap heading_is c.then_some.ensures
    ∙ lone _ _ c.next-3.result c.is_none.result c.is_none.ensures
    (λ n. both_numbers e (sym c.in_ok-read_word.ensures) f (sym c.in_ok-read_word-2.ensures) (pieces_given _ c.split-words.result 32 c.args.line.now c.split-words.ensures.rest c.split-words.ensures.done c.split-words.ensures.closure
    (λ x b q k. search (rules, tests)) (c.in_ok-next.field-0 ∷ c.in_ok-next-2.field-0 ∷ []) _ _
    (c.next.new.self, c.in_ok-next.ensures.steps, (_, c.in_ok-next-2.ensures.steps, refl)) _ c.next-3.ensures.steps n))
    (λ word n. third_word e (sym c.in_ok-read_word.ensures) f (piece_given _ c.split-words.result 32 c.args.line.now c.split-words.ensures.rest c.split-words.ensures.done c.split-words.ensures.closure
    (λ x b q k. search (rules, tests)) (c.in_ok-next.field-0 ∷ c.in_ok-next-2.field-0 ∷ []) _ _
    (c.next.new.self, c.in_ok-next.ensures.steps, (_, c.in_ok-next-2.ensures.steps, refl)) _ c.next-3.ensures.steps word n))
