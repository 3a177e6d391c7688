-- `digits n` is the least b for which n is below 2 to the power b, and it grows with n. Assumes nothing.
use Prim.Native.Nat.{ℕ, zero, suc, ◌+◌, ◌*◌, ◌^◌, ◌≤◌, ◌<◌}
use borrow.Author.Tests.{lt-ltb, le-ltb}
use lib.Dec.{ltb}
use lib.Pow.{pow_mono, pow_pos}
use mathlib.Core.Bool.{true, false}
use mathlib.Core.Logic.{⊎_elim}
use mathlib.Core.Path.{◌≡◌, refl, subst}
use native.Mathlib.Nat.{le_trans, lt_of_lt_of_le}
use native.Mathlib.Omega.{arith}
use Rattle.model.specs.Compared.{digits_from, digits}
use Rattle.model.proofs.Tests.{lt_or_le}

-- a number is below 2 to the power of itself
pub below_pow : (n : ℕ) → n < 2 ^ n
below_pow zero = omega arith
below_pow (suc n) = let i = below_pow n in omega arith

from_above : (fuel b n : ℕ) → n < 2 ^ (b + fuel) → n < 2 ^ digits_from fuel b n
unfolding digits_from
from_above zero b n h = rw (native.Mathlib.Nat.add-zero b) at h
from_above (suc fuel) b n h =
    ⊎_elim
    (λ (p : n < 2 ^ b). rw (lt-ltb n (2 ^ b) p, digits_from) p)
    (λ (p : 2 ^ b ≤ n). rw (le-ltb n (2 ^ b) p, digits_from)
    (from_above fuel (suc b) n (subst (λ (x : ℕ). n < 2 ^ x) (omega arith) h)))
    (lt_or_le n (2 ^ b))

from_least : (fuel b n c : ℕ) → b ≤ c → n < 2 ^ c → digits_from fuel b n ≤ c
unfolding digits_from
from_least zero b n c l h = l
from_least (suc fuel) b n c l h =
    ⊎_elim
    (λ (p : n < 2 ^ b). rw (lt-ltb n (2 ^ b) p, digits_from) l)
    (λ (p : 2 ^ b ≤ n). rw (le-ltb n (2 ^ b) p, digits_from)
    (from_least fuel (suc b) n c
    (⊎_elim (λ q. q) (λ (q : c ≤ b). let m = pow_mono q in absurd (omega arith)) (lt_or_le b c)) h))
    (lt_or_le n (2 ^ b))

pub digits_above : (n : ℕ) → n < 2 ^ digits n
unfolding digits
digits_above n = from_above n 0 n (rw (native.Mathlib.Nat.zero-add n) (below_pow n))

pub digits_least : (n b : ℕ) → n < 2 ^ b → digits n ≤ b
unfolding digits
digits_least n b h = from_least n 0 n b (omega arith) h

pub digits_mono : {m n : ℕ} → m ≤ n → digits m ≤ digits n
digits_mono {m} {n} h = let a = digits_above n in digits_least m (digits n) (omega arith)

-- a power of 2 that a number reaches is below its digits
pub below_digits : (d n : ℕ) → 2 ^ d ≤ n → d < digits n
below_digits d n h =
    ⊎_elim (λ q. q) (λ (q : digits n ≤ d). let m = pow_mono q in let a = digits_above n in absurd (omega arith)) (lt_or_le d (digits n))
