-- The highest run of a word is its base and the power of 2 that its bits reach. Stated over the base. Assumes nothing.
use Prim.Native.Nat.{ℕ, suc, ◌+◌, ◌-◌, ◌*◌, ◌/◌, ◌%◌, ◌^◌, ◌≤◌, ◌<◌}
use lib.Pow.{pow_mono, high}
use mathlib.Core.Logic.{◌≢◌, ⊎_elim}
use mathlib.Core.Path.{◌≡◌, sym, ap, ◌∙◌}
use native.Mathlib.Nat.{lt_of_lt_of_le, add-mul}
use native.Mathlib.Omega.{arith}
use Rattle.mask_word.specs.Runs.{Highest, HighestGone}
use Rattle.mask_word.proofs.Bits.{bit_above, bit_shifted, power_shifted}
use Rattle.model.proofs.Masks.{bit_of}
use Rattle.model.proofs.Tests.{lt_or_le, eq_or_ne}
use Rattle.model.specs.Runs.{bit}

-- a number from 2 to the power j on, and below twice that, has bit j
top_bit : (m j : ℕ) → 2 ^ j ≤ m → m < 2 ^ suc j → bit m j ≡ 1
top_bit m j l h =
    let d : 2 ^ suc j ≡ 2 * 2 ^ j = omega arith in
    let e : 1 * 2 ^ j + (m - 2 ^ j) ≡ m = omega arith in
    let q : m / 2 ^ j ≡ 1 = ap (λ (x : ℕ). x / 2 ^ j) (sym e) ∙ high 1 j (omega arith) in
    bit_of m j ∙ ap (λ (x : ℕ). x % 2) q

pub highest_at : (b m t : ℕ) → 2 ^ t ≤ m → m < 2 * 2 ^ t → Highest (m * 2 ^ b) (b + t)
highest_at b m t l h =
    let d : m < 2 ^ suc t = omega arith in
    record {
      here = bit_shifted m b t ∙ top_bit m t l d;
      none_after = λ i g.
          let e : b + (i - b) ≡ i = omega arith in
          ap (λ (x : ℕ). bit (m * 2 ^ b) x) (sym e)
          ∙ (bit_shifted m b (i - b) ∙ bit_above m (i - b) (lt_of_lt_of_le d (pow_mono (omega arith))));
    }

-- a mask has one highest run
one_highest : (m i j : ℕ) → Highest m i → Highest m j → i ≡ j
one_highest m i j a b =
    ⊎_elim
    (λ (h : i < j). absurd (let x = a.none_after j h in let y = b.here in omega arith))
    (λ (h : j ≤ i).
    ⊎_elim
    (λ (e : j ≡ i). sym e)
    (λ (n : j ≢ i). absurd (let x = b.none_after i (omega arith) in let y = a.here in omega arith))
    (eq_or_ne j i))
    (lt_or_le i j)

pub highest_gone : (b m t : ℕ) → 2 ^ t ≤ m → m < 2 * 2 ^ t → HighestGone (m * 2 ^ b) ((m - 2 ^ t) * 2 ^ b)
highest_gone b m t q h =
    record {
      gone = λ i l.
          let e = one_highest (m * 2 ^ b) i (b + t) l (highest_at b m t q h) in
          let f = add-mul (m - 2 ^ t) (2 ^ t) (2 ^ b) in
          let g : m - 2 ^ t + 2 ^ t ≡ m = omega arith in
          ap (λ (x : ℕ). (m - 2 ^ t) * 2 ^ b + 2 ^ x) e
          ∙ (ap (λ (x : ℕ). (m - 2 ^ t) * 2 ^ b + x) (power_shifted b t) ∙ (sym f ∙ ap (λ (x : ℕ). x * 2 ^ b) g));
    }
