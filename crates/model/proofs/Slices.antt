-- The part of a list from a to e, as a lent part of a slice has it. Assumes nothing.
use Prim.Native.Nat.{ℕ, zero, suc, ◌+◌, ◌-◌, ◌≤◌, ◌<◌}
use lib.ListN.{length, get_or, take, drop, length-take, length-drop}
use lib.Seq.{drop-cons, drop-drop, take-take, take-nil}
use mathlib.Core.List.{List, [], ◌∷◌}
use mathlib.Core.Path.{◌≡◌, refl, sym, ap, ap₂, ◌∙◌}
use native.Mathlib.Nat.{sub_self}
use native.Mathlib.Omega.{arith}
use Rattle.model.specs.Runs.{slice}

pub part_empty : (a : ℕ) (l : List ℕ) → take (a - a) (drop a l) ≡ []
part_empty a l = rw (sub_self a)

pub part_cons : (a e : ℕ) (l : List ℕ) → a < e → e ≤ length l → take (e - a) (drop a l) ≡ get_or l a 0 ∷ take (e - suc a) (drop (suc a) l)
part_cons a e l h k =
    let i : e - a ≡ suc (e - suc a) = omega arith in
    let j : a < length l = omega arith in
    rw (i, drop-cons l a 0 j)

pub part_length : (a e : ℕ) (l : List ℕ) → e ≤ length l → length (take (e - a) (drop a l)) ≡ e - a
part_length a e l h = simp (length-take, length-drop) (omega arith)

drop_take : (n k : ℕ) (l : List ℕ) → drop n (take k l) ≡ take (k - n) (drop n l)
drop_take zero k l = let e : k - 0 ≡ k = omega arith in rw e
drop_take (suc n) zero l = let e : 0 - suc n ≡ 0 = omega arith in rw e
drop_take (suc n) (suc k) [] = sym (take-nil (suc k - suc n))
drop_take (suc n) (suc k) (x ∷ l) = let e : suc k - suc n ≡ k - n = omega arith in rw e (drop_take n k l)

-- a part without its first n numbers, and the first n of a part
pub drop_part : (n p e : ℕ) (numbers : List ℕ) → drop n (slice numbers p e) ≡ slice numbers (p + n) e
drop_part n p e numbers =
    let i : e - p - n ≡ e - (p + n) = omega arith in
    drop_take n (e - p) (drop p numbers) ∙ (ap₂ (λ x y. take x y) i (drop-drop n p numbers))

pub take_part : (n p e : ℕ) (numbers : List ℕ) → n ≤ e - p → take n (slice numbers p e) ≡ slice numbers p (p + n)
take_part n p e numbers h =
    let i : n ≡ p + n - p = omega arith in
    take-take n (e - p) (drop p numbers) h ∙ ap (λ x. take x (drop p numbers)) i
