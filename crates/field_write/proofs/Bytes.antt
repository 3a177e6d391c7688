-- A number's bytes as the library has them; the number of two rows of bytes. Assumes nothing.
use Prim.Native.Nat.{ℕ, zero, suc, ◌+◌, ◌*◌, ◌/◌, ◌^◌}
use lib.ListN.{length}
use mathlib.Core.List.{List, [], ◌∷◌, ◌++◌}
use mathlib.Core.Path.{◌≡◌, refl}
use native.Mathlib.Nat.{pow-suc, pow-succ', div-one, div-div-eq-div-mul}
use native.Mathlib.Omega.{arith}
use Rattle.std.specs.Int.{bytes_low_first}
use Rattle.model.specs.Certificate.{bytes_of, number_of}

-- the bytes of a number from its byte i on
low_first : (i w x : ℕ) → bytes_low_first i w x ≡ bytes_of w (x / 256 ^ i)
unfolding bytes_of
low_first i zero x = refl
low_first zero (suc w) x = rw (low_first 1 w x, div-one x) refl
low_first (suc i) (suc w) x =
    let e : x / 256 ^ suc i / 256 ≡ x / 256 ^ suc (suc i) = rw (pow-suc 256 (suc i)) (div-div-eq-div-mul x (256 ^ suc i) 256) in
    rw (low_first (suc (suc i)) w x, e) refl

-- the bytes that `to_le_bytes` gives
pub le_bytes : (w x : ℕ) → bytes_low_first 0 w x ≡ bytes_of w x
le_bytes w x = rw (low_first 0 w x, div-one x) refl

-- the number of two rows of bytes
pub number_append : (s t : List ℕ) → number_of (s ++ t) ≡ number_of s + 256 ^ length s * number_of t
unfolding number_of
number_append [] t = omega arith
number_append (b ∷ s) t = rw (number_append s t, pow-succ' 256 (length s)) (omega arith)
