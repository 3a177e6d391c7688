-- The lowest run of a mask is the number of its trailing zeros. A mask that names run i is at least 2 ^ i; less 2 ^ i it names the same runs but i.
-- Stated over the width. Assumes nothing.
use Prim.Native.Nat.{ℕ, zero, suc, ◌+◌, ◌-◌, ◌*◌, ◌/◌, ◌%◌, ◌^◌, ◌≤◌, ◌<◌, min}
use lib.Bits.{bit_and, and_step, and_self}
use lib.Count.{count_trailing_zeros}
use lib.Pow.{pow_pos, split, high}
use mathlib.Core.Logic.{◌≢◌, ⊎_elim}
use mathlib.Core.Path.{◌≡◌, sym, ap, ◌∙◌}
use native.Mathlib.Nat.{mod-lt, suc-mul}
use native.Mathlib.Omega.{arith}
use Rattle.mask.specs.Mask.{Lowest, LowestGone}
use Rattle.mask.proofs.Mask.{bit_above, bit_added}
use Rattle.model.proofs.Masks.{bit_of, bit_zero, bit_half}
use Rattle.model.proofs.Tests.{lt_or_le, eq_or_ne}
use Rattle.model.specs.Runs.{bit}

-- The lowest run.

-- run t is the lowest of m, whose width is k
record LowestIn (k m t : ℕ) : Type 0 where
  here : bit m t ≡ 1
  none_before : (i : ℕ) → i < t → bit m i ≡ 0
  small : t < k

zeros_odd : (k m : ℕ) → m % 2 ≡ 1 → count_trailing_zeros (suc k) m ≡ 0
unfolding count_trailing_zeros
zeros_odd k m e = rw e

zeros_even : (k m : ℕ) → m % 2 ≡ 0 → count_trailing_zeros (suc k) m ≡ suc (count_trailing_zeros k (m / 2))
unfolding count_trailing_zeros
zeros_even k m e = rw e

lowest_in : (k m : ℕ) → 0 < m → m < 2 ^ k → LowestIn k m (count_trailing_zeros k m)
lowest_in zero m p h = absurd (omega arith)
lowest_in (suc k) m p h =
    ⊎_elim
    (λ (e : m % 2 ≡ 1).
    let b = bit_zero m in
    rw (zeros_odd k m e) (record { here = omega arith; none_before = λ i l. absurd (omega arith); small = omega arith }))
    (λ (n : m % 2 ≢ 1).
    let e : m % 2 ≡ 0 = omega arith in
    let d : 2 ^ suc k ≡ 2 * 2 ^ k = omega arith in
    let t = lowest_in k (m / 2) (omega arith) (omega arith) in
    rw (zeros_even k m e)
    (record {
      here = bit_half m (count_trailing_zeros k (m / 2)) ∙ t.here;
      none_before = before m e (count_trailing_zeros k (m / 2)) t.none_before;
      small = omega (arith, t.small);
    }))
    (eq_or_ne (m % 2) 1)
  where
    before : (n : ℕ) → n % 2 ≡ 0 → (t : ℕ) → ((i : ℕ) → i < t → bit (n / 2) i ≡ 0) → (i : ℕ) → i < suc t → bit n i ≡ 0
    before n e t f zero l = bit_zero n ∙ e
    before n e t f (suc i) l = bit_half n i ∙ f i (omega arith)

pub lowest_zeros : (m : ℕ) → 0 < m → m < 2 ^ 64 → Lowest m (count_trailing_zeros 64 m)
lowest_zeros m p h = let t = lowest_in 64 m p h in record { here = t.here; none_before = t.none_before; small = t.small }

-- A mask without a run that it names.

pub power_le : (m i : ℕ) → bit m i ≡ 1 → 2 ^ i ≤ m
power_le m i e =
    ⊎_elim
    (λ (h : m < 2 ^ i). let z = bit_above m i h in absurd (omega arith))
    (λ (h : 2 ^ i ≤ m). h)
    (lt_or_le m (2 ^ i))

pub cleared_here : (m r i : ℕ) → bit m i ≡ 1 → r + 2 ^ i ≡ m → bit r i ≡ 0
cleared_here m r i e f =
    let b = bit_of m i in
    let q = m / 2 ^ i in
    let p = q - 1 in
    let n : q ≡ suc p = omega arith in
    let s : p * 2 ^ i + m % 2 ^ i ≡ r = omega (arith, split m i, suc-mul p (2 ^ i), ap (λ (x : ℕ). x * 2 ^ i) n) in
    let d : r / 2 ^ i ≡ p = ap (λ (x : ℕ). x / 2 ^ i) (sym s) ∙ high p i (mod-lt m (pow_pos i)) in
    let z : p % 2 ≡ 0 = omega arith in
    bit_of r i ∙ (ap (λ (x : ℕ). x % 2) d ∙ z)

pub cleared_other : (m r i j : ℕ) → bit m i ≡ 1 → r + 2 ^ i ≡ m → j ≢ i → bit r j ≡ bit m j
cleared_other m r i j e f n =
    sym (bit_added r j i (cleared_here m r i e f) n) ∙ ap (λ (x : ℕ). bit x j) f

-- ---- a mask without its lowest run

-- a number and the one before it have the same digits above the lowest one, and none in common from there on
and_lowest : (k m : ℕ) → 0 < m → m < 2 ^ k → bit_and m (m - 1) + 2 ^ count_trailing_zeros k m ≡ m
and_lowest zero m p h = absurd (omega arith)
and_lowest (suc k) m p h =
    ⊎_elim
    (λ (e : m % 2 ≡ 1).
    let a : (m - 1) / 2 ≡ m / 2 = omega arith in
    let b : (m - 1) % 2 ≡ 0 = omega arith in
    let s : bit_and m (m - 1) ≡ m / 2 * 2 =
    and_step m (m - 1) ∙ ((λ i. bit_and (m / 2) (a i) * 2 + min (e i) (b i)) ∙ (let w = and_self (m / 2) in omega arith)) in
    rw (zeros_odd k m e) (omega arith))
    (λ (n : m % 2 ≢ 1).
    let e : m % 2 ≡ 0 = omega arith in
    let d : 2 ^ suc k ≡ 2 * 2 ^ k = omega arith in
    let a : (m - 1) / 2 ≡ m / 2 - 1 = omega arith in
    let b : (m - 1) % 2 ≡ 1 = omega arith in
    let s : bit_and m (m - 1) ≡ bit_and (m / 2) (m / 2 - 1) * 2 =
    and_step m (m - 1) ∙ ((λ i. bit_and (m / 2) (a i) * 2 + min (e i) (b i)) ∙ omega arith) in
    let q = and_lowest k (m / 2) (omega arith) (omega arith) in
    let f : 2 ^ suc (count_trailing_zeros k (m / 2)) ≡ 2 * 2 ^ count_trailing_zeros k (m / 2) = omega arith in
    rw (zeros_even k m e) (omega arith))
    (eq_or_ne (m % 2) 1)

-- a mask has one lowest run
one_lowest : (m i j : ℕ) → Lowest m i → Lowest m j → i ≡ j
one_lowest m i j a b =
    ⊎_elim
    (λ (h : i < j). absurd (let x = b.none_before i h in let y = a.here in omega arith))
    (λ (h : j ≤ i).
    ⊎_elim
    (λ (e : j ≡ i). sym e)
    (λ (n : j ≢ i). absurd (let x = a.none_before j (omega arith) in let y = b.here in omega arith))
    (eq_or_ne j i))
    (lt_or_le i j)

pub lowest_gone : (m : ℕ) → 0 < m → m < 2 ^ 64 → LowestGone m (bit_and m (m - 1))
lowest_gone m p h =
    record {
      gone = λ i l.
          (let e = one_lowest m i (count_trailing_zeros 64 m) l (lowest_zeros m p h) in
          ap (λ (x : ℕ). bit_and m (m - 1) + 2 ^ x) e ∙ and_lowest 64 m p h);
    }
