-- Lines laid into a buffer, piece by piece, and how long a line is. Assumes nothing.
use Rattle.std.proofs.Common.{◌≡◌, ℕ, ◌+◌, ◌<◌, ◌≤◌, List, [], ◌∷◌, ◌++◌, length, get_or, take, refl, sym, ap, ◌∙◌, arith, length-append}
use Rattle.std.proofs.lemmas.List.{append_assoc, append-nil, take_more}
use lib.Seq.{take_all}
use Rattle.text_write.specs.Laying.{Lays}
use Rattle.text_write.specs.Decimal.{decimal}
use Rattle.text_write.proofs.Laid.{lays_then}
use Rattle.text_lines.specs.Lines.{numbers_after, line}

-- numbers with a space before each
unfoldable pub spaced : List ℕ → List ℕ
spaced [] = []
spaced (x ∷ xs) = 32 ∷ (decimal x ++ spaced xs)

spaced_append : (xs ys : List ℕ) → spaced (xs ++ ys) ≡ spaced xs ++ spaced ys
unfolding spaced
spaced_append [] ys = refl
spaced_append (x ∷ xs) ys = ap (λ s. 32 ∷ s) (ap (λ s. decimal x ++ s) (spaced_append xs ys) ∙ sym (append_assoc (decimal x) (spaced xs) (spaced ys)))

spaced_more : (xs : List ℕ) (i : ℕ) → i < length xs → spaced (take (i + 1) xs) ≡ spaced (take i xs) ++ (32 ∷ decimal (get_or xs i 0))
unfolding spaced
spaced_more xs i h = ap spaced (take_more xs i 0 h) ∙ (spaced_append (take i xs) (get_or xs i 0 ∷ []) ∙ ap (λ s. spaced (take i xs) ++ (32 ∷ s)) (append-nil _))

spaced_end : (xs : List ℕ) → numbers_after xs ≡ spaced xs ++ (10 ∷ [])
unfolding spaced numbers_after
spaced_end [] = refl
spaced_end (x ∷ xs) = ap (λ s. 32 ∷ s) (ap (λ s. decimal x ++ s) (spaced_end xs) ∙ sym (append_assoc (decimal x) (spaced xs) (10 ∷ [])))

-- a word, a number more after it, and the end of the line
pub word_laid : (word xs : List ℕ) {l l₁ : List ℕ} {at p₁ : ℕ} → Lays word l at l₁ p₁ → Lays (word ++ spaced (take 0 xs)) l at l₁ p₁
unfolding spaced
word_laid word xs g = rw append-nil g

pub next_laid : (word xs : List ℕ) (i : ℕ) {l l₁ l₂ l₃ : List ℕ} {at p₁ p₂ p₃ : ℕ} → i < length xs → Lays (word ++ spaced (take i xs)) l at l₁ p₁
    → Lays (32 ∷ []) l₁ p₁ l₂ p₂ → Lays (decimal (get_or xs i 0)) l₂ p₂ l₃ p₃ → Lays (word ++ spaced (take (i + 1) xs)) l at l₃ p₃
next_laid word xs i h g s d = rw (spaced_more xs i h, ← (append_assoc word (spaced (take i xs)) (32 ∷ decimal (get_or xs i 0)))) (lays_then g (lays_then s d))

pub line_laid : (word xs : List ℕ) (i : ℕ) {l l₁ l₂ : List ℕ} {at p₁ p₂ : ℕ} → length xs ≤ i → Lays (word ++ spaced (take i xs)) l at l₁ p₁
    → Lays (10 ∷ []) l₁ p₁ l₂ p₂ → Lays (line word xs) l at l₂ p₂
unfolding line
line_laid word xs i h g e =
    let k = rw (take_all i xs h) at g in
    rw (spaced_end xs, ← (append_assoc word (spaced xs) (10 ∷ []))) (lays_then k e)

-- ---- the length of a line

abbrev pub after_length : List ℕ → ℕ
after_length [] = 1
after_length (x ∷ xs) = 1 + length (decimal x) + after_length xs

after_length_law : (xs : List ℕ) → length (numbers_after xs) ≡ after_length xs
unfolding numbers_after
after_length_law [] = refl
after_length_law (x ∷ xs) = let i = after_length_law xs in let a = length-append (decimal x) (numbers_after xs) in omega arith

pub line_length : (word xs : List ℕ) → length (line word xs) ≡ length word + after_length xs
unfolding line
line_length word xs = let i = after_length_law xs in let a = length-append word (numbers_after xs) in omega arith
