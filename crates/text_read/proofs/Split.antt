-- Pieces and the list that they come from. Assumes nothing.
use Prim.Native.Nat.{ℕ}
use borrow.Author.Tests.{eqb-true, eqb-false, ne_eqb}
use lib.Dec.{eqb}
use mathlib.Core.Bool.{true, false}
use mathlib.Core.List.{List, [], ◌∷◌, ◌++◌}
use mathlib.Core.Logic.{⊎_elim}
use mathlib.Core.Path.{◌≡◌, refl, sym, ap, ◌∙◌}
use Rattle.model.proofs.Tests.{both}
use Rattle.model.specs.Runs.{holds}
use Rattle.text_read.specs.Pieces.{on_first, split}
use Rattle.text_read.proofs.Pieces.{split_cases}

-- pieces with the separator between them
unfoldable pub join : ℕ → List (List ℕ) → List ℕ
join s [] = []
join s (piece ∷ []) = piece
join s (piece ∷ next ∷ pieces) = piece ++ s ∷ join s (next ∷ pieces)

join_first : (s b : ℕ) (pieces : List (List ℕ)) → join s (on_first b pieces) ≡ b ∷ join s pieces
unfolding join on_first
join_first s b [] = refl
join_first s b (piece ∷ []) = refl
join_first s b (piece ∷ next ∷ pieces) = refl

join_empty : (s : ℕ) (l : List ℕ) → join s ([] ∷ split s l) ≡ s ∷ join s (split s l)
unfolding join
join_empty s l = split_cases s l (λ x. join s ([] ∷ x) ≡ s ∷ join s x) (λ piece pieces. refl)

pub join_split : (s : ℕ) (l : List ℕ) → join s (split s l) ≡ l
unfolding split join
join_split s [] = refl
join_split s (b ∷ l) =
    ⊎_elim
    (λ (t : eqb b s ≡ true). rw (t, split) (join_empty s l ∙ (ap (s ∷◌) (join_split s l) ∙ ap (◌∷ l) (sym (eqb-true b s t)))))
    (λ (t : eqb b s ≡ false). rw (t, split) (join_first s b (split s l) ∙ ap (b ∷◌) (join_split s l)))
    (both (eqb b s))

-- no piece holds the separator
unfoldable pub Free : ℕ → List (List ℕ) → Type 0
Free s [] = Unit
Free s (piece ∷ pieces) = (holds s piece ≡ false) × Free s pieces

free_first : (s b : ℕ) (pieces : List (List ℕ)) → eqb s b ≡ false → Free s pieces → Free s (on_first b pieces)
unfolding Free on_first holds
free_first s b [] t f = (rw (t, holds), tt)
free_first s b (piece ∷ pieces) t f = (rw (t, holds) f.0, f.1)

pub split_free : (s : ℕ) (l : List ℕ) → Free s (split s l)
unfolding split Free holds
split_free s [] = (refl, tt)
split_free s (b ∷ l) =
    ⊎_elim
    (λ (t : eqb b s ≡ true). rw (t, split) (refl, split_free s l))
    (λ (t : eqb b s ≡ false). rw (t, split) (free_first s b (split s l) (ne_eqb s b (λ e. eqb-false b s t (sym e))) (split_free s l)))
    (both (eqb b s))
