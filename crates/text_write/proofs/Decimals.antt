-- The two cases of `decimal`, and how many digits a number has. Assumes nothing.
use Prim.Native.Nat.{ℕ, zero, suc, ◌+◌, ◌/◌, ◌%◌, ◌^◌, ◌≤◌, ◌<◌}
use borrow.Author.Tests.{lt-ltb, le-ltb}
use lib.ListN.{length, length-append}
use mathlib.Core.List.{[], ◌∷◌, ◌++◌}
use mathlib.Core.Logic.{⊎_elim}
use mathlib.Core.Path.{◌≡◌, sym, ap, ◌∙◌}
use native.Mathlib.Omega.{arith}
use Rattle.model.proofs.Tests.{lt_or_le}
use Rattle.text_write.specs.Decimal.{decimal_in, decimal}

in_small : (n x : ℕ) → x < 10 → decimal_in (suc n) x ≡ (48 + x) ∷ []
unfolding decimal_in
in_small n x h = rw (lt-ltb x 10 h, decimal_in)

in_more : (n x : ℕ) → 10 ≤ x → decimal_in (suc n) x ≡ decimal_in n (x / 10) ++ ((48 + x % 10) ∷ [])
unfolding decimal_in
in_more n x h = rw (le-ltb x 10 h, decimal_in)

-- more fuel than the number changes nothing
in_same : (m n x : ℕ) → x < m → x < n → decimal_in m x ≡ decimal_in n x
in_same zero n x h k = absurd (omega arith)
in_same (suc m) zero x h k = absurd (omega arith)
in_same (suc m) (suc n) x h k =
    ⊎_elim
    (λ (l : x < 10). in_small m x l ∙ sym (in_small n x l))
    (λ (l : 10 ≤ x).
    in_more m x l ∙ (ap (λ s. s ++ ((48 + x % 10) ∷ [])) (in_same m n (x / 10) (omega arith) (omega arith)) ∙ sym (in_more n x l)))
    (lt_or_le x 10)

pub decimal_digit : (x : ℕ) → x < 10 → decimal x ≡ (48 + x) ∷ []
unfolding decimal
decimal_digit x h = in_small x x h

pub decimal_more : (x : ℕ) → 10 ≤ x → decimal x ≡ decimal (x / 10) ++ ((48 + x % 10) ∷ [])
unfolding decimal
decimal_more x h =
    in_more x x h ∙ ap (λ s. s ++ ((48 + x % 10) ∷ [])) (in_same x (suc (x / 10)) (x / 10) (omega arith) (omega arith))

-- a number below 10 to the power n has at most n digits
pub decimal_few : (n x : ℕ) → x < 10 ^ suc n → length (decimal x) ≤ suc n
decimal_few zero x h = let l : x < 10 = omega arith in let e = ap length (decimal_digit x l) in omega arith
decimal_few (suc n) x h =
    ⊎_elim
    (λ (l : x < 10). let e = ap length (decimal_digit x l) in omega arith)
    (λ (l : 10 ≤ x).
    let e = ap length (decimal_more x l) in
    let a = length-append (decimal (x / 10)) ((48 + x % 10) ∷ []) in
    let k = decimal_few n (x / 10) (omega arith) in
    omega arith)
    (lt_or_le x 10)
