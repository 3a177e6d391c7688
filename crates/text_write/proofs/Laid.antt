-- Bytes laid into a buffer: none, bytes after bytes, and all of a text from the front on. Assumes nothing.
use Prim.Native.Nat.{ℕ, suc, ◌+◌, ◌≤◌, ◌<◌, min}
use lib.ListN.{length, take, set, length-set, length-append}
use lib.Seq.{set_out}
use mathlib.Core.List.{List, [], ◌∷◌, ◌++◌}
use mathlib.Core.Logic.{⊎_elim}
use mathlib.Core.Path.{◌≡◌, refl, sym, ap, ◌∙◌}
use native.Mathlib.Omega.{arith}
use Rattle.model.proofs.Tests.{lt_or_le}
use Rattle.model.specs.Refusals.{over}
use Rattle.text_write.specs.Laying.{laid, Lays}

pub laid_length : (l : List ℕ) (at : ℕ) (bytes : List ℕ) → length (laid l at bytes) ≡ length l
unfolding laid
laid_length l at [] = refl
laid_length l at (b ∷ bytes) = laid_length (set l at b) (suc at) bytes ∙ length-set l at b

laid_out : (l : List ℕ) (at : ℕ) (bytes : List ℕ) → length l ≤ at → laid l at bytes ≡ l
unfolding laid
laid_out l at [] h = refl
laid_out l at (b ∷ bytes) h = rw (set_out l at b h) (laid_out l (suc at) bytes (omega arith))

laid_append : (l : List ℕ) (at : ℕ) (xs ys : List ℕ) → laid (laid l at xs) (at + length xs) ys ≡ laid l at (xs ++ ys)
unfolding laid
laid_append l at [] ys = ap (λ n. laid l n ys) (omega arith)
laid_append l at (x ∷ xs) ys =
    let e : at + suc (length xs) ≡ suc at + length xs = omega arith in rw e (laid_append (set l at x) (suc at) xs ys)

-- from a place past the length nothing is laid, whichever it is
laid_clipped : (l : List ℕ) (m n : ℕ) (ys : List ℕ) → n ≡ min m (suc (length l)) → laid l n ys ≡ laid l m ys
laid_clipped l m n ys e =
    ⊎_elim
    (λ (h : m < suc (length l)). ap (λ k. laid l k ys) (omega arith))
    (λ (h : suc (length l) ≤ m). laid_out l n ys (omega arith) ∙ sym (laid_out l m ys (omega arith)))
    (lt_or_le m (suc (length l)))

pub lays_none : (l : List ℕ) (at : ℕ) → at ≤ length l + 1 → Lays [] l at l at
unfolding laid
lays_none l at h = record { text = refl; place = omega arith }

-- one byte that fits, and one that does not
pub lays_here : (l : List ℕ) (at b : ℕ) → at < length l → Lays (b ∷ []) l at (set l at b) (at + 1)
unfolding laid
lays_here l at b h = record { text = refl; place = omega arith }

pub lays_out : (l : List ℕ) (at b : ℕ) → length l ≤ at → Lays (b ∷ []) l at l (length l + 1)
lays_out l at b h = record { text = sym (laid_out l at (b ∷ []) h); place = omega arith }

pub lays_then : {xs ys l l₁ l₂ : List ℕ} {at p₁ p₂ : ℕ} → Lays xs l at l₁ p₁ → Lays ys l₁ p₁ l₂ p₂ → Lays (xs ++ ys) l at l₂ p₂
lays_then {xs} {ys} {l} {l₁} {l₂} {at} {p₁} {p₂} g h =
    let n = ap length g.text ∙ laid_length l at xs in
    let a = length-append xs ys in
    let p = g.place in
    let q = h.place in
    record {
      text = h.text ∙ (laid_clipped l₁ (at + length xs) p₁ ys (omega arith) ∙ (ap (λ s. laid s (at + length xs) ys) g.text ∙ laid_append l at xs ys));
      place = omega arith;
    }

pub lays_length : {xs l l₁ : List ℕ} {at p₁ : ℕ} → Lays xs l at l₁ p₁ → length l₁ ≡ length l
lays_length {xs} {l} {at = at} g = ap length g.text ∙ laid_length l at xs

pub lays_bound : {xs l l₁ : List ℕ} {at p₁ : ℕ} → Lays xs l at l₁ p₁ → p₁ ≤ length l + 1
lays_bound g = let p = g.place in omega arith

-- ---- a text from the front on

laid_tail : (x : ℕ) (l : List ℕ) (at : ℕ) (bytes : List ℕ) → laid (x ∷ l) (suc at) bytes ≡ x ∷ laid l at bytes
unfolding laid
laid_tail x l at [] = refl
laid_tail x l at (b ∷ bytes) = laid_tail x (set l at b) (suc at) bytes

pub laid_front : (l bytes : List ℕ) → laid l 0 bytes ≡ over (take (length l) bytes) l
unfolding laid over
laid_front [] [] = refl
laid_front (x ∷ l) [] = refl
laid_front [] (b ∷ bytes) = laid_out [] 1 bytes (omega arith)
laid_front (x ∷ l) (b ∷ bytes) = laid_tail b l 0 bytes ∙ ap (λ s. b ∷ s) (laid_front l bytes)
