-- Line 1 by its words, one after another. Assumes nothing.
use Rattle.std.proofs.Common.{◌≡◌, ℕ, List, [], ◌∷◌, refl}
use mathlib.Core.Option.{none, some}
use Rattle.text_read.specs.Numbers.{number}
use Rattle.hits_input.specs.Input.{no_heading, heading, pair, two_words}

module _ {words rest : List (List ℕ)} {word : List ℕ} (e : words ≡ word ∷ rest) where
  pub no_number : number word ≡ none → two_words words ≡ no_heading
  unfolding two_words pair
  no_number q = rw e (by rest)
    where
      by : (rest : List (List ℕ)) → two_words (word ∷ rest) ≡ no_heading
      by [] = refl
      by (next ∷ []) = rw (q, pair)
      by (next ∷ other ∷ words) = refl

  pub no_next : rest ≡ [] → two_words words ≡ no_heading
  unfolding two_words
  no_next f = rw (e, f)

  module _ {threshold : ℕ} (q : number word ≡ some threshold) {next : List ℕ} {others : List (List ℕ)} (f : rest ≡ next ∷ others) where
    pub no_second : number next ≡ none → two_words words ≡ no_heading
    unfolding two_words pair
    no_second p = rw (e, f) (by others)
      where
        by : (others : List (List ℕ)) → two_words (word ∷ next ∷ others) ≡ no_heading
        by [] = rw (q, p, pair)
        by (other ∷ words) = refl

    pub both_numbers : {allowance : ℕ} → number next ≡ some allowance → others ≡ [] → two_words words ≡ heading threshold allowance
    unfolding two_words pair
    both_numbers p g = rw (e, f, g) (rw (q, p, pair))

    pub third_word : {other : List ℕ} {after : List (List ℕ)} → others ≡ other ∷ after → two_words words ≡ no_heading
    unfolding two_words
    third_word g = rw (e, f, g)
