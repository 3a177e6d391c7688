-- The highest run of a mask is the power of 2 that it reaches. Assumes nothing.
use Prim.Native.Nat.{ℕ, suc, ◌+◌, ◌-◌, ◌*◌, ◌/◌, ◌%◌, ◌^◌, ◌≤◌, ◌<◌}
use lib.Pow.{pow_mono, high}
use mathlib.Core.Path.{◌≡◌, sym, ap, ◌∙◌}
use native.Mathlib.Nat.{lt_of_lt_of_le}
use native.Mathlib.Omega.{arith}
use Rattle.mask.specs.Mask.{Highest}
use Rattle.mask.proofs.Mask.{bit_above}
use Rattle.model.proofs.Masks.{bit_of}
use Rattle.model.specs.Runs.{bit, mask_bits}

-- a number from 2 to the power j on, and below twice that, has bit j
top_bit : (m j : ℕ) → 2 ^ j ≤ m → m < 2 ^ suc j → bit m j ≡ 1
top_bit m j l h =
    let d : 2 ^ suc j ≡ 2 * 2 ^ j = omega arith in
    let e : 1 * 2 ^ j + (m - 2 ^ j) ≡ m = omega arith in
    let q : m / 2 ^ j ≡ 1 = ap (λ (x : ℕ). x / 2 ^ j) (sym e) ∙ high 1 j (omega arith) in
    bit_of m j ∙ ap (λ (x : ℕ). x % 2) q

pub highest_from : (m r : ℕ) → 2 ^ r ≤ m → m < 2 * 2 ^ r → r < mask_bits → Highest m r
highest_from m r l h k =
    let d : m < 2 ^ suc r = omega arith in
    record {
      here = top_bit m r l d;
      none_after = λ i g. bit_above m i (lt_of_lt_of_le d (pow_mono g));
      small = k;
    }
