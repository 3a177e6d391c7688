-- The pieces between separators as the library's `split` gives them. Assumes nothing.
use Rattle.std.proofs.Common.{◌≡◌, ℕ, suc, ◌≤◌, Bool, true, false, Option, Some, None, List, [], ◌∷◌, ◌++◌, length, drop, refl, sym, ap, subst, ◌∙◌, add-one, arith}
use Rattle.std.specs.Fn.{CalledAt}
use Rattle.std.specs.Iterator.{Yields}
use Rattle.std.specs.List.{slice_split, onto_first}
use Rattle.std.specs.Slice.Iter.{split_steps, split_rest, split_done, split_callee}
use Rattle.std.proofs.lemmas.List.{length_push}
use Rattle.std.proofs.lemmas.Iterator.{YieldsList}
use Rattle.std.proofs.lemmas.Iterator.Consumers.{YieldsList-turn, YieldsList-end}
use Rattle.std.proofs.lemmas.Iterator.Splits.{YieldsList-from_slice_split}
use denote.Param.Members.{Mut}
use denote.Ref.{Bor}
use lib.Dec.{eqb}
use lib.ListN.{drop_of_length-le}
use lib.Seq.{drop-cons}
use mathlib.Core.Logic.{⊎_elim}
use Rattle.model.proofs.Tests.{both}
use Rattle.text_read.proofs.Pieces.{split_few}
use Rattle.text_read.specs.Pieces.{on_first, split}

first_is : (b : ℕ) (pieces : List (List ℕ)) → onto_first b pieces ≡ on_first b pieces
unfolding on_first
first_is b [] = refl
first_is b (piece ∷ pieces) = refl

split_is : (s : ℕ) (l : List ℕ) → slice_split (λ b. eqb b s) l ≡ split s l
unfolding split
split_is s [] = refl
split_is s (b ∷ l) =
    ⊎_elim
    (λ (t : eqb b s ≡ true). rw (t, split, slice_split) (ap (λ x. [] ∷ x) (split_is s l)))
    (λ (t : eqb b s ≡ false). rw (t, split, slice_split) (ap (onto_first b) (split_is s l) ∙ first_is b (split s l)))
    (both (eqb b s))

-- A call of `split` at a separator, and what calls of `next` gave since.
module _ {F : Type 0} (g : Mut F (Bor ℕ × Unit {0}) Bool) {f : F} (it : _) (s : ℕ) (l : List ℕ) (rest : split_rest it ≡ l) (more : split_done it ≡ false)
    (callee : split_callee it ≡ f) (tests : (x : ℕ) (b : Bool) (q : F) → CalledAt g f x b q → (q ≡ f) × (b ≡ eqb x s)) (given : List (Bor (List ℕ))) (t u : _)
    (yields : Yields (split_steps g) it given t) (r : Option (Bor (List ℕ))) (steps : split_steps g t r u) where
  gives : YieldsList (split_steps g) (λ x. x.now) it (split s l)
  gives = subst (YieldsList (split_steps g) (λ x. x.now) it) (split_is s l) (YieldsList-from_slice_split g (λ b. eqb b s) l rest more callee tests)

  -- the next piece, with those after it
  pub piece_given : (piece : Bor (List ℕ)) → r ≡ Some piece → drop (length given) (split s l) ≡ piece.now ∷ drop (length (given ++ piece ∷ [])) (split s l)
  piece_given piece e =
      let h = YieldsList-turn gives given t yields r u piece e steps in
      rw (length_push given piece, add-one) (drop-cons (split s l) (length given) piece.now h.0 ∙ ap (λ w. w ∷ drop (suc (length given)) (split s l)) (sym h.1))

  -- there are at most as many before it as bytes
  pub pieces_before : (piece : Bor (List ℕ)) → r ≡ Some piece → length given ≤ length l
  pieces_before piece e =
      let h = YieldsList-turn gives given t yields r u piece e steps in
      let k = split_few s l in
      omega (arith, h.0, k)

  -- no other piece
  pub pieces_given : r ≡ None → drop (length given) (split s l) ≡ []
  pieces_given e = let h = YieldsList-end gives given t yields r u e steps in drop_of_length-le (split s l) (omega (arith, h.1))
