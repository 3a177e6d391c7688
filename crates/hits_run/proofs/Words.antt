-- The words of a run's line, one after another: how many numbers they are, and the numbers stored. Assumes nothing.
use Rattle.std.proofs.Common.{◌≡◌, ◌≢◌, ℕ, suc, ◌+◌, ◌≤◌, ◌<◌, List, [], ◌∷◌, length, get_or, drop, set, length-set, refl, sym, ap, ◌∙◌, arith, add-one}
use Rattle.std.proofs.lemmas.List.Edits.{sets}
use lib.Seq.{drop-cons}
use mathlib.Core.Option.{Option, none, some}
use Rattle.text_read.specs.Pieces.{split}
use Rattle.text_read.specs.Numbers.{number}
use Rattle.hits_input.specs.Input.{before, numbers_of, run_of}
use Rattle.hits_run.specs.Line.{count_of, leading}

-- the count of the numbers of words, n of which were counted
unfoldable pub count_from : ℕ → Option (List ℕ) → Option ℕ
count_from n none = none
count_from n (some xs) = some (n + length xs)

pub count_empty : (line : List ℕ) → length line ≡ 0 → count_of (run_of line) ≡ some 0
unfolding count_of run_of
count_empty [] e = refl
count_empty (b ∷ line) e = absurd (omega arith)

count_zero : (o : Option (List ℕ)) → count_of o ≡ count_from 0 o
unfolding count_of count_from
count_zero none = refl
count_zero (some xs) = ap some (omega arith)

pub count_start : (line : List ℕ) → length line ≢ 0 → count_of (run_of line) ≡ count_from 0 (numbers_of (split 32 line))
unfolding run_of
count_start [] e = absurd (e refl)
count_start (b ∷ line) e = count_zero (numbers_of (split 32 (b ∷ line)))

count_one : (n x : ℕ) (o : Option (List ℕ)) → count_from n (before (some x) o) ≡ count_from (n + 1) o
unfolding count_from before
count_one n x none = refl
count_one n x (some xs) = ap some (omega arith)

-- a word, with the words after it
pub word_at : (words : List (List ℕ)) (i : ℕ) (word : List ℕ) → (i < length words) × (word ≡ get_or words i word) → drop i words ≡ word ∷ drop (i + 1) words
word_at words i word h = rw add-one (drop-cons words i word h.0 ∙ ap (λ w. w ∷ drop (suc i) words) (sym h.1))

module _ {words after : List (List ℕ)} {word : List ℕ} (e : words ≡ word ∷ after) where
  pub count_on : (n x : ℕ) → number word ≡ some x → count_from n (numbers_of words) ≡ count_from (n + 1) (numbers_of after)
  unfolding numbers_of
  count_on n x q = ap (λ w. count_from n (numbers_of w)) e ∙ (ap (λ o. count_from n (before o (numbers_of after))) q ∙ count_one n x (numbers_of after))

  pub count_stop : (n : ℕ) → number word ≡ none → count_from n (numbers_of words) ≡ none
  unfolding numbers_of before count_from
  count_stop n q = ap (λ w. count_from n (numbers_of w)) e ∙ ap (λ o. count_from n (before o (numbers_of after))) q

  leading_on : (x : ℕ) → number word ≡ some x → leading words ≡ x ∷ leading after
  unfolding leading
  leading_on x q = rw e (rw (q, leading))

  leading_stop : number word ≡ none → leading words ≡ []
  unfolding leading
  leading_stop q = rw e (rw (q, leading))

pub count_end : (n : ℕ) (words : List (List ℕ)) → words ≡ [] → count_from n (numbers_of words) ≡ some n
unfolding numbers_of count_from
count_end n words e = rw e (ap some (omega arith))

leading_end : (words : List (List ℕ)) → words ≡ [] → leading words ≡ []
unfolding leading
leading_end words e = rw e

-- what is stored from here on, and where that ends
pub record Storing (line numbers₀ : List ℕ) (from : ℕ) (numbers : List ℕ) (n : ℕ) (words : List (List ℕ)) : Type 0 where
  pub lengths : length numbers ≡ length numbers₀
  pub ends : from + length (leading (split 32 line)) ≡ n + length (leading words)
  pub stores : sets numbers₀ from (leading (split 32 line)) ≡ sets numbers n (leading words)

pub storing_start : (line numbers : List ℕ) (from : ℕ) → Storing line numbers from numbers from (split 32 line)
storing_start line numbers from = record { lengths = refl; ends = refl; stores = refl }

module _ {line numbers₀ : List ℕ} {from : ℕ} {numbers : List ℕ} {n : ℕ} {words : List (List ℕ)} (r : Storing line numbers₀ from numbers n words) where
  stored : leading words ≡ [] → (n ≡ from + length (leading (split 32 line))) × (numbers ≡ sets numbers₀ from (leading (split 32 line)))
  stored f = let e = ap length f in (omega (arith, r.ends, e), sym (r.stores ∙ ap (sets numbers n) f))

  pub storing_end : words ≡ [] → (n ≡ from + length (leading (split 32 line))) × (numbers ≡ sets numbers₀ from (leading (split 32 line)))
  storing_end e = stored (leading_end words e)

  module _ {word : List ℕ} {after : List (List ℕ)} (e : words ≡ word ∷ after) where
    pub storing_stop : number word ≡ none → (n ≡ from + length (leading (split 32 line))) × (numbers ≡ sets numbers₀ from (leading (split 32 line)))
    storing_stop q = stored (leading_stop e q)

    -- there is room for a number, and it is stored
    pub storing_room : (x : ℕ) → number word ≡ some x → from + length (leading (split 32 line)) ≤ length numbers₀ → n < length numbers
    storing_room x q room = let f = ap length (leading_on e x q) in omega (arith, r.ends, r.lengths, f)

    pub storing_on : (x : ℕ) → number word ≡ some x → Storing line numbers₀ from (set numbers n x) (n + 1) after
    storing_on x q =
        let f = leading_on e x q in
        let g = ap length f in
        record {
          lengths = length-set numbers n x ∙ r.lengths;
          ends = omega (arith, r.ends, g);
          stores = r.stores ∙ (ap (sets numbers n) f ∙ ap (λ i. sets (set numbers n x) i (leading after)) (sym (add-one n)));
        }
