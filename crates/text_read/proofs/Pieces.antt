-- Pieces between separators, found one after another from a place on. Assumes nothing.
use Prim.Native.Nat.{ℕ, suc, ◌+◌, ◌-◌, ◌≤◌, ◌<◌}
use borrow.Author.Tests.{eq-eqb, ne_eqb, le-leb, lt-leb}
use lib.Dec.{eqb}
use lib.ListN.{length, get_or, take, drop, length-drop, drop_of_length-le}
use lib.Seq.{drop-cons, drop-drop, take_all}
use mathlib.Core.Bool.{true, false}
use mathlib.Core.List.{List, [], ◌∷◌}
use mathlib.Core.Logic.{⊎_elim, ◌≢◌}
use mathlib.Core.Path.{◌≡◌, refl, sym, ap, ◌∙◌}
use native.Mathlib.Numerals.{add-one}
use native.Mathlib.Omega.{arith}
use Rattle.model.proofs.Tests.{both, lt_or_le}
use Rattle.text_read.specs.Pieces.{on_first, split, until, pieces}

module _ (s : ℕ) (l : List ℕ) (i : ℕ) where
  pub until_at : i < length l → get_or l i 0 ≡ s → until s (drop i l) ≡ 0
  unfolding until
  until_at h e = rw (drop-cons l i 0 h) (rw (eq-eqb (get_or l i 0) s e, until))

  pub until_on : i < length l → get_or l i 0 ≢ s → until s (drop i l) ≡ suc (until s (drop (i + 1) l))
  unfolding until
  until_on h e = rw (drop-cons l i 0 h, add-one i) (rw (ne_eqb (get_or l i 0) s e, until))

  pub until_end : length l ≤ i → until s (drop i l) ≡ 0
  unfolding until
  until_end h = rw (drop_of_length-le l h)

-- the place of the first separator, if it was not met before a place
module _ (s : ℕ) (l : List ℕ) (i : ℕ) (e : until s l ≡ i + until s (drop i l)) (h : i < length l) where
  pub met_here : get_or l i 0 ≡ s → i ≡ until s l
  met_here t = let z = until_at s l i h t in omega (arith, e, z)

  pub not_here : (j : ℕ) → j ≡ i + 1 → get_or l i 0 ≢ s → until s l ≡ j + until s (drop j l)
  not_here j k t =
      let z = until_on s l i h t in
      let q : until s (drop (i + 1) l) ≡ until s (drop j l) = ap (λ n. until s (drop n l)) (sym k) in
      omega (arith, e, z, q, k)

pub until_le : (s : ℕ) (l : List ℕ) → until s l ≤ length l
unfolding until
until_le s [] = omega arith
until_le s (b ∷ l) =
    ⊎_elim
    (λ (e : eqb b s ≡ true). rw (e, until) (omega arith))
    (λ (e : eqb b s ≡ false). rw (e, until) (let h = until_le s l in omega arith))
    (both (eqb b s))

pub pieces_in : (s : ℕ) (l : List ℕ) (at : ℕ) → at ≤ length l → pieces s l at ≡ split s (drop at l)
unfolding pieces
pieces_in s l at h = rw (le-leb at (length l) h, pieces)

pub pieces_out : (s : ℕ) (l : List ℕ) (at : ℕ) → length l < at → pieces s l at ≡ []
unfolding pieces
pieces_out s l at h = rw (lt-leb at (length l) h, pieces)

pub split_last : (s : ℕ) (l : List ℕ) → until s l ≡ length l → split s l ≡ l ∷ []
unfolding until split on_first
split_last s [] e = refl
split_last s (b ∷ l) e =
    ⊎_elim
    (λ (t : eqb b s ≡ true). let z = rw (t, until) at e in absurd (omega (arith, z)))
    (λ (t : eqb b s ≡ false).
    let z = rw (t, until) at e in
    let r = split_last s l (omega (arith, z)) in
    rw (t, split) (rw r))
    (both (eqb b s))

pub split_more : (s : ℕ) (l : List ℕ) → until s l < length l → split s l ≡ take (until s l) l ∷ split s (drop (suc (until s l)) l)
unfolding until split on_first
split_more s [] e = absurd (omega (arith, e))
split_more s (b ∷ l) e =
    ⊎_elim
    (λ (t : eqb b s ≡ true). rw (t, split, until))
    (λ (t : eqb b s ≡ false).
    let z = rw (t, until) at e in
    let r = split_more s l (omega (arith, z)) in
    rw (t, split, until) (rw r))
    (both (eqb b s))

-- there is always a piece
pub split_first : (s : ℕ) (l : List ℕ) → (rest : List (List ℕ)) × (split s l ≡ take (until s l) l ∷ rest)
split_first s l =
    let u = until_le s l in
    ⊎_elim
    (λ (h : until s l < length l). (split s (drop (suc (until s l)) l), split_more s l h))
    (λ (h : length l ≤ until s l).
    let q : until s l ≡ length l = omega arith in
    ([], split_last s l q ∙ ap (λ x. x ∷ []) (sym (take_all (until s l) l h))))
    (lt_or_le (until s l) (length l))

pub split_cases : (s : ℕ) (l : List ℕ) (P : List (List ℕ) → Type 0) → ((piece : List ℕ) (rest : List (List ℕ)) → P (piece ∷ rest)) → P (split s l)
split_cases s l P f = let (rest, p) = split_first s l in rw p (f _ rest)

-- the first piece and the others, where a separator is found
pub split_found : (s : ℕ) (l : List ℕ) (end : ℕ) → end ≡ until s l → end ≢ length l
    → (end < length l) × (split s l ≡ take end l ∷ split s (drop (end + 1) l))
split_found s l end e h =
    let u = until_le s l in
    let k : until s l < length l = omega (arith, h) in
    let j : suc (until s l) ≡ end + 1 = omega arith in (
      omega arith,
      split_more s l k
          ∙ (ap (λ x. take x l ∷ split s (drop (suc (until s l)) l)) (sym e) ∙ ap (λ x. take end l ∷ split s (drop x l)) j),
    )

pub pieces_start : (s : ℕ) (l : List ℕ) → pieces s l 0 ≡ split s l
pieces_start s l = pieces_in s l 0 (omega arith)

-- the piece that ends at a place, and the pieces after it
pub pieces_next : (s : ℕ) (l : List ℕ) (at end : ℕ) → at ≤ length l → end ≡ at + until s (drop at l)
    → (end ≤ length l) × (pieces s l at ≡ take (end - at) (drop at l) ∷ pieces s l (end + 1))
pieces_next s l at end h e =
    let u = until_le s (drop at l) in
    let d = length-drop at l in
    let k : end - at ≡ until s (drop at l) = omega arith in
    let w : end ≤ length l = omega arith in (
      w,
      ⊎_elim
          (λ (m : until s (drop at l) < length (drop at l)).
          let j : at + suc (until s (drop at l)) ≡ end + 1 = omega arith in
          let i : end + 1 ≤ length l = omega arith in
          pieces_in s l at h
          ∙ (split_more s (drop at l) m
          ∙ (ap (λ x. take (until s (drop at l)) (drop at l) ∷ split s x) (drop-drop (suc (until s (drop at l))) at l ∙ ap (λ x. drop x l) j)
          ∙ (ap (λ x. take x (drop at l) ∷ split s (drop (end + 1) l)) (sym k) ∙ ap (λ x. take (end - at) (drop at l) ∷ x) (sym (pieces_in s l (end + 1) i))))))
          (λ (m : length (drop at l) ≤ until s (drop at l)).
          let q : until s (drop at l) ≡ length (drop at l) = omega arith in
          let i : length l < end + 1 = omega arith in
          pieces_in s l at h
          ∙ (split_last s (drop at l) q
          ∙ (ap (λ x. x ∷ []) (sym (take_all (end - at) (drop at l) (omega arith))) ∙ ap (λ x. take (end - at) (drop at l) ∷ x) (sym (pieces_out s l (end + 1) i)))))
          (lt_or_le (until s (drop at l)) (length (drop at l))),
    )

on_first_law : (b : ℕ) (ps : List (List ℕ)) → length (on_first b ps) ≤ suc (length ps)
unfolding on_first
on_first_law b [] = omega arith
on_first_law b (p ∷ ps) = omega arith

-- at most one piece more than bytes
pub split_few : (s : ℕ) (l : List ℕ) → length (split s l) ≤ suc (length l)
unfolding split
split_few s [] = omega arith
split_few s (b ∷ l) =
    ⊎_elim
    (λ (t : eqb b s ≡ true). rw (t, split) (let h = split_few s l in omega arith))
    (λ (t : eqb b s ≡ false). rw (t, split) (let h = split_few s l in let o = on_first_law b (split s l) in omega arith))
    (both (eqb b s))

-- a lent rest of a list, and where its first piece ends
pub rest_is : (l : List ℕ) (at : ℕ) → take (length l - at) (drop at l) ≡ drop at l
rest_is l at = let d = length-drop at l in take_all (length l - at) (drop at l) (omega arith)

pub piece_ends : (s : ℕ) (l : List ℕ) (at : ℕ) {n : ℕ} → n ≡ until s (take (length l - at) (drop at l)) → at + n ≡ at + until s (drop at l)
piece_ends s l at e = ap (at +◌) (e ∙ ap (until s) (rest_is l at))
