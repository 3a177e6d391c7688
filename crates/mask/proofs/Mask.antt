-- The bits of two masks together, those of a mask that another has not, a mask with a run's bit set (its other bits stay, and where the bit was 0 the mask grows by
-- 2 to the power of the run), and a run's bit tested. Stated over the run and the width. Assumes nothing.
use Prim.Native.Nat.{ℕ, zero, suc, ◌+◌, ◌-◌, ◌*◌, ◌/◌, ◌%◌, ◌^◌, ◌≤◌, ◌<◌, max}
use lib.Bits.{bit_and, bit_or, bit_xor, differ, or_step, or_shr, xor_step, xor_shr, or_disjoint, and_block, and_mask, and_zero_r}
use lib.Pow.{pow_pos, pow-lt, pow-add, shl-shr, split}
use lib.Dec.{eqb}
use borrow.Author.Tests.{eqb-true, eq-eqb}
use mathlib.Core.Bool.{Bool, true, false}
use mathlib.Core.Logic.{◌≢◌, ⊎_elim}
use mathlib.Core.Path.{◌≡◌, sym, ap, ◌∙◌}
use native.Mathlib.Nat.{div-eq_of_lt, mod-lt, zero-mul}
use native.Mathlib.Omega.{arith}
use Rattle.model.proofs.Masks.{bit_of, bit_small, bit_of_and}
use Rattle.model.proofs.Tests.{lt_or_le, eq_or_ne, true_false}
use Rattle.model.specs.Runs.{bit}

-- a mask below 2 ^ i does not name run i
pub bit_above : (m i : ℕ) → m < 2 ^ i → bit m i ≡ 0
bit_above m i h = bit_of m i ∙ rw (div-eq_of_lt h)

-- a run is in one of two masks
bit_of_or : (m n i : ℕ) → bit (bit_or m n) i ≡ max (bit m i) (bit n i)
unfolding bit
bit_of_or m n i = let e = or_step (m / 2 ^ i) (n / 2 ^ i) in rw (or_shr m n i) (omega arith)

-- a run of a mask is in another, whose runs are all in the first, or in what the two do not have in common
differ_less : (x y : ℕ) → y ≤ x → differ x y + y ≡ x
differ_less zero y h = omega arith
differ_less (suc x) zero h = omega arith
differ_less (suc x) (suc y) h = let e = differ_less x y (omega arith) in omega arith

pub bit_others : (a m i : ℕ) → bit_and m a ≡ m → bit (bit_xor a m) i + bit m i ≡ bit a i
unfolding bit
bit_others a m i h =
    let b = sym (bit_of_and m a i) ∙ ap (λ x. bit x i) h in
    let d = differ_less (a / 2 ^ i % 2) (m / 2 ^ i % 2) (omega arith) in
    let e = xor_step (a / 2 ^ i) (m / 2 ^ i) in
    rw (xor_shr a m i) (omega arith)

bit_other : (i j : ℕ) → i ≢ j → bit (2 ^ j) i ≡ 0
bit_other i j h =
    ⊎_elim
    (λ (l : i < j).
    let s : suc (j - suc i) + i ≡ j = omega arith in
    let e : 2 ^ j ≡ 2 ^ suc (j - suc i) * 2 ^ i = ap (λ (x : ℕ). 2 ^ x) (sym s) ∙ pow-add 2 (suc (j - suc i)) i in
    let f : bit (2 ^ j) i ≡ 2 ^ suc (j - suc i) % 2 = bit_of (2 ^ j) i ∙ rw (e, shl-shr (2 ^ suc (j - suc i)) i) in
    omega arith)
    (λ (l : j ≤ i). bit_above (2 ^ j) i (pow-lt (omega arith)))
    (lt_or_le i j)

bit_kept : (m i j : ℕ) → i ≢ j → bit (bit_or m (2 ^ j)) i ≡ bit m i
bit_kept m i j h =
    let e = bit_of_or m (2 ^ j) i in
    let s = bit_other i j h in
    omega arith

-- what a mask has in common with a run's own
and_power : (m i : ℕ) → bit_and m (2 ^ i) ≡ bit m i * 2 ^ i
unfolding bit
and_power m i =
    let one : 1 * 2 ^ i + 0 ≡ 2 ^ i = omega arith in
    let a = and_block i (m / 2 ^ i) 1 (m % 2 ^ i) 0 (mod-lt m (pow_pos i)) (pow_pos i) in
    let b = and_mask (m / 2 ^ i) 1 in
    let d = rw (split m i, one, b, and_zero_r) at a in
    d ∙ omega arith

-- a run that was not named adds its power of 2
or_new : (m i : ℕ) → bit m i ≡ 0 → bit_or m (2 ^ i) ≡ m + 2 ^ i
or_new m i h = or_disjoint m (2 ^ i) (and_power m i ∙ rw h (zero-mul (2 ^ i)))

-- and leaves the other bits
pub bit_added : (m i j : ℕ) → bit m j ≡ 0 → i ≢ j → bit (m + 2 ^ j) i ≡ bit m i
bit_added m i j h n = ap (λ (x : ℕ). bit x i) (sym (or_new m j h)) ∙ bit_kept m i j n

-- whether a run is named, tested
pub bit_named : (m i : ℕ) (b : Bool) → b ≡ eqb (bit m i) 1 → b ≡ true → bit m i ≡ 1
bit_named m i b e h = eqb-true (bit m i) 1 (sym e ∙ h)

pub bit_unnamed : (m i : ℕ) (b : Bool) → b ≡ eqb (bit m i) 1 → b ≡ false → bit m i ≡ 0
bit_unnamed m i b e h =
    let l = bit_small m i in
    ⊎_elim
    (λ (q : bit m i ≡ 1). absurd (true_false (eq-eqb (bit m i) 1 q) (sym e ∙ h)))
    (λ (q : bit m i ≢ 1). omega arith)
    (eq_or_ne (bit m i) 1)
