-- A run's own mask, the bits of two masks together, those of a mask that another has not, a mask with a run's bit set (its other bits stay, and where the bit
-- was 0 the mask grows by 2 to the power of the run) or cleared, the bits of a shifted mask, and a run's bit tested. Stated over the run and the width. Assumes
-- nothing.
use Prim.Native.Nat.{ℕ, zero, suc, ◌+◌, ◌-◌, ◌*◌, ◌/◌, ◌%◌, ◌^◌, ◌≤◌, ◌<◌, max}
use lib.Bits.{bit_and, bit_or, bit_xor, differ, and_comm, xor_add_and, or_step, or_shr, xor_step, xor_shr, or_disjoint, and_block, and_mask, and_zero_r}
use lib.Pow.{pow_pos, pow-lt, pow-add, shl-shr, shr-shr, split, high}
use lib.Dec.{eqb, ltb}
use borrow.Author.Tests.{eqb-true, eq-eqb, ltb-true, ltb-false}
use mathlib.Core.Bool.{Bool, true, false}
use mathlib.Core.Logic.{◌≢◌, ⊎_elim}
use mathlib.Core.Path.{◌≡◌, sym, ap, ◌∙◌}
use native.Mathlib.Nat.{div-eq_of_lt, mod-lt, mod-eq_of_lt, mul_comm, mul-pos, suc-mul}
use native.Mathlib.Omega.{arith}
use Rattle.model.proofs.Masks.{bit_of, bit_small, bit_of_and, bit_under}
use Rattle.model.proofs.Tests.{lt_or_le, eq_or_ne, true_false}
use Rattle.model.specs.Runs.{bit}

-- 1 shifted by i, for i below the width
pub one_shifted : (w i : ℕ) → i < w → 1 * 2 ^ i % 2 ^ w ≡ 2 ^ i
one_shifted w i h = let e : 1 * 2 ^ i ≡ 2 ^ i = omega arith in rw e (mod-eq_of_lt (pow-lt h))

-- a mask below 2 ^ i does not name run i
pub bit_above : (m i : ℕ) → m < 2 ^ i → bit m i ≡ 0
bit_above m i h = bit_of m i ∙ rw (div-eq_of_lt h)

-- a run is in one of two masks
bit_of_or : (m n i : ℕ) → bit (bit_or m n) i ≡ max (bit m i) (bit n i)
unfolding bit
bit_of_or m n i = let e = or_step (m / 2 ^ i) (n / 2 ^ i) in rw (or_shr m n i) (omega arith)

-- a run of a mask is in another, whose runs are all in the first, or in what the two do not have in common
differ_less : (x y : ℕ) → y ≤ x → differ x y + y ≡ x
differ_less zero y h = omega arith
differ_less (suc x) zero h = omega arith
differ_less (suc x) (suc y) h = let e = differ_less x y (omega arith) in omega arith

pub bit_others : (a m i : ℕ) → bit_and m a ≡ m → bit (bit_xor a m) i + bit m i ≡ bit a i
unfolding bit
bit_others a m i h =
    let b = sym (bit_of_and m a i) ∙ ap (λ x. bit x i) h in
    let d = differ_less (a / 2 ^ i % 2) (m / 2 ^ i % 2) (omega arith) in
    let e = xor_step (a / 2 ^ i) (m / 2 ^ i) in
    rw (xor_shr a m i) (omega arith)

bit_other : (i j : ℕ) → i ≢ j → bit (2 ^ j) i ≡ 0
bit_other i j h =
    ⊎_elim
    (λ (l : i < j).
    let s : suc (j - suc i) + i ≡ j = omega arith in
    let e : 2 ^ j ≡ 2 ^ suc (j - suc i) * 2 ^ i = ap (λ (x : ℕ). 2 ^ x) (sym s) ∙ pow-add 2 (suc (j - suc i)) i in
    let f : bit (2 ^ j) i ≡ 2 ^ suc (j - suc i) % 2 = bit_of (2 ^ j) i ∙ rw (e, shl-shr (2 ^ suc (j - suc i)) i) in
    omega arith)
    (λ (l : j ≤ i). bit_above (2 ^ j) i (pow-lt (omega arith)))
    (lt_or_le i j)

bit_kept : (m i j : ℕ) → i ≢ j → bit (bit_or m (2 ^ j)) i ≡ bit m i
bit_kept m i j h =
    let e = bit_of_or m (2 ^ j) i in
    let s = bit_other i j h in
    omega arith

-- a run that was not named adds its power of 2
pub or_new : (m i : ℕ) → bit m i ≡ 0 → bit_or m (2 ^ i) ≡ m + 2 ^ i
unfolding bit
or_new m i h =
    let one : 1 * 2 ^ i + 0 ≡ 2 ^ i = omega arith in
    let a = and_block i (m / 2 ^ i) 1 (m % 2 ^ i) 0 (mod-lt m (pow_pos i)) (pow_pos i) in
    let b : bit_and (m / 2 ^ i) 1 ≡ 0 = and_mask (m / 2 ^ i) 1 ∙ h in
    let d = rw (split m i, one, b, and_zero_r) at a in
    or_disjoint m (2 ^ i) (d ∙ omega arith)

-- and leaves the other bits
pub bit_added : (m i j : ℕ) → bit m j ≡ 0 → i ≢ j → bit (m + 2 ^ j) i ≡ bit m i
bit_added m i j h n = ap (λ (x : ℕ). bit x i) (sym (or_new m j h)) ∙ bit_kept m i j n

-- whether a run is named, tested
pub bit_named : (m i : ℕ) (b : Bool) → b ≡ eqb (bit m i) 1 → b ≡ true → bit m i ≡ 1
bit_named m i b e h = eqb-true (bit m i) 1 (sym e ∙ h)

pub bit_unnamed : (m i : ℕ) (b : Bool) → b ≡ eqb (bit m i) 1 → b ≡ false → bit m i ≡ 0
bit_unnamed m i b e h =
    let l = bit_small m i in
    ⊎_elim
    (λ (q : bit m i ≡ 1). absurd (true_false (eq-eqb (bit m i) 1 q) (sym e ∙ h)))
    (λ (q : bit m i ≢ 1). omega arith)
    (eq_or_ne (bit m i) 1)

-- A mask that names run i is at least 2 ^ i; less 2 ^ i it names the same runs but i.

pub power_le : (m i : ℕ) → bit m i ≡ 1 → 2 ^ i ≤ m
power_le m i e =
    ⊎_elim
    (λ (h : m < 2 ^ i). let z = bit_above m i h in absurd (omega arith))
    (λ (h : 2 ^ i ≤ m). h)
    (lt_or_le m (2 ^ i))

pub cleared_here : (m r i : ℕ) → bit m i ≡ 1 → r + 2 ^ i ≡ m → bit r i ≡ 0
cleared_here m r i e f =
    let b = bit_of m i in
    let q = m / 2 ^ i in
    let p = q - 1 in
    let n : q ≡ suc p = omega arith in
    let s : p * 2 ^ i + m % 2 ^ i ≡ r = omega (arith, split m i, suc-mul p (2 ^ i), ap (λ (x : ℕ). x * 2 ^ i) n) in
    let d : r / 2 ^ i ≡ p = ap (λ (x : ℕ). x / 2 ^ i) (sym s) ∙ high p i (mod-lt m (pow_pos i)) in
    let z : p % 2 ≡ 0 = omega arith in
    bit_of r i ∙ (ap (λ (x : ℕ). x % 2) d ∙ z)

pub cleared_other : (m r i j : ℕ) → bit m i ≡ 1 → r + 2 ^ i ≡ m → j ≢ i → bit r j ≡ bit m j
cleared_other m r i j e f n =
    sym (bit_added r j i (cleared_here m r i e f) n) ∙ ap (λ (x : ℕ). bit x j) f

-- A mask shifted by b names run b + i where it named run i, and no run below b.

pub bit_shifted : (m b i : ℕ) → bit (m * 2 ^ b) (b + i) ≡ bit m i
bit_shifted m b i =
    bit_of (m * 2 ^ b) (b + i) ∙ (ap (λ (x : ℕ). x % 2) (sym (shr-shr (m * 2 ^ b) b i) ∙ ap (λ (x : ℕ). x / 2 ^ i) (shl-shr m b)) ∙ sym (bit_of m i))

pub bit_before : (m b i : ℕ) → i < b → bit (m * 2 ^ b) i ≡ 0
bit_before m b i h = bit_of (m * 2 ^ b) i ∙ bit_under m b i h

pub power_shifted : (b i : ℕ) → 2 ^ (b + i) ≡ 2 ^ i * 2 ^ b
power_shifted b i = pow-add 2 b i ∙ mul_comm (2 ^ b) (2 ^ i)

-- it names a run where the mask did
pub shifted_some : (m b : ℕ) → 0 < m * 2 ^ b → 0 < m
shifted_some zero b h = absurd (omega arith)
shifted_some (suc m) b h = omega arith

pub some_shifted : (m b : ℕ) → 0 < m → 0 < m * 2 ^ b
some_shifted m b h = mul-pos h (pow_pos b)

pub shifted_none : (m b : ℕ) → m ≤ 0 → m * 2 ^ b ≤ 0
shifted_none zero b h = omega arith
shifted_none (suc m) b h = absurd (omega arith)

-- what two masks do not have in common, with the one that is part of the other
pub xor_sum : (a m : ℕ) → bit_and m a ≡ m → bit_xor a m + m ≡ a
xor_sum a m h = let s = xor_add_and a m in let e : bit_and a m ≡ m = and_comm a m ∙ h in omega arith

-- whether a mask names a run, tested
pub some_named : (m : ℕ) (b : Bool) → b ≡ ltb 0 m → b ≡ true → 0 < m
some_named m b e h = ltb-true 0 m (sym e ∙ h)

pub none_named : (m : ℕ) (b : Bool) → b ≡ ltb 0 m → b ≡ false → m ≡ 0
none_named m b e h = let z = ltb-false 0 m (sym e ∙ h) in omega arith
