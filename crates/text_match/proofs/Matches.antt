-- Texts compared as the library compares slices. Assumes nothing.
use Prim.Native.Nat.{ℕ, ◌≤◌}
use lib.Dec.{eqb, eqb-suc-suc, eqb-suc-zero, eqb-zero-suc}
use lib.ListN.{length, take}
use mathlib.Core.Bool.{Bool, true, false, ◌&&◌}
use mathlib.Core.List.{List, [], ◌∷◌}
use mathlib.Core.Path.{◌≡◌, refl, ap, ◌∙◌}
use native.Mathlib.Omega.{arith}
use Rattle.std.specs.Cmp.Lexicographic.{pointwise, nat_list_eq_equiv}
use Rattle.std.specs.List.{starts_with}
use Rattle.model.proofs.Tests.{and_true, true_false}
use Rattle.text_match.specs.Match.{begins, same}

pub begins_is : (prefix bytes : List ℕ) → begins prefix bytes ≡ pointwise eqb (take (length prefix) bytes) prefix
unfolding begins
begins_is [] bytes = refl
begins_is (p ∷ prefix) [] = refl
begins_is (p ∷ prefix) (b ∷ bytes) = ap (λ x. eqb b p && x) (begins_is prefix bytes)

pub begins_starts : (prefix bytes : List ℕ) → begins prefix bytes ≡ starts_with eqb bytes prefix
begins_starts prefix bytes = begins_is prefix bytes ∙ nat_list_eq_equiv.symm (take (length prefix) bytes) prefix

and_swap : (a b c : Bool) → (a && (b && c)) ≡ (b && (a && c))
and_swap true b c = refl
and_swap false true c = refl
and_swap false false c = refl

pub same_is : (text bytes : List ℕ) → same text bytes ≡ pointwise eqb bytes text
unfolding same begins
same_is [] [] = refl
same_is [] (b ∷ bytes) = ap (λ x. x && true) (eqb-suc-zero (length bytes))
same_is (t ∷ text) [] = ap (λ x. x && false) (eqb-zero-suc (length text))
same_is (t ∷ text) (b ∷ bytes) =
    rw eqb-suc-suc (and_swap (eqb (length bytes) (length text)) (eqb b t) (begins text bytes) ∙ ap (λ x. eqb b t && x) (same_is text bytes))

pub begins_long : (prefix bytes : List ℕ) → begins prefix bytes ≡ true → length prefix ≤ length bytes
unfolding begins
begins_long [] bytes e = omega arith
begins_long (p ∷ prefix) [] e = true_false e refl
begins_long (p ∷ prefix) (b ∷ bytes) e = let h = begins_long prefix bytes (and_true (eqb b p) (begins prefix bytes) e).1 in omega arith
