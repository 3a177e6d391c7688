-- `read_word` gives the number that a word is. Assumes nothing.
use Rattle.std.proofs.Common.{◌≡◌, ℕ, ◌<◌, ◌≤◌, List, Result, Ok, Err, sym, ap, ◌∙◌, arith}
use Rattle.std.specs.Result.{OkIff, result_ok}
use mathlib.Core.Option.{none, some}
use Rattle.model.specs.Runs.{past_bin}
use Rattle.text_read.specs.Numbers.{word_is, number}
use Rattle.text_read.proofs.Values.{number_empty, number_not, number_large, number_small}
use Rattle.text_read.proofs.read_word.Goals as goal
use Rattle.text_read.proofs.read_word.Goals.{then-digits-eq0-via-then-digits-eq0, then-digits-eq0-via-else-digits-eq0+then-digits-word}

pub returns-then-digits-eq0 : goal.returns-then-digits-eq0
returns-then-digits-eq0 c =
    let d = c.leading_digits-digits in
    elim c.then-digits-eq0.branch [
      | then-digits-eq0-via-then-digits-eq0 w ↦ sym (number_empty c.args.word.now d.result d.ensures w.if-digits-eq0.true)
      | then-digits-eq0-via-else-digits-eq0+then-digits-word w ↦ sym (number_not c.args.word.now d.result d.ensures w.if-digits-word.true)
    ]

-- what the conversion gives, by whether the value is a number
converted : {E : Type 0} (word : List ℕ) (value : ℕ) (r : Result ℕ E) → OkIff r (value < past_bin) value → (value < past_bin → number word ≡ some value)
    → (past_bin ≤ value → number word ≡ none) → word_is (result_ok r) ≡ number word
converted word value (Ok x) h s l = ap some h.1 ∙ sym (s h.0)
converted word value (Err e) h s l = sym (l (omega (arith, h)))

pub returns : goal.returns
unfolding past_bin
returns c =
    let d = c.leading_digits-digits in
    let w = c.args.word.now in
    ap word_is c.ok.ensures.value ∙ converted w d.result.value c.try_from.result c.try_from.ensures
    (λ h. number_small w d.result d.ensures c.if-digits-word.false c.if-digits-eq0.false h)
    (λ h. number_large w d.result d.ensures c.if-digits-word.false h)
