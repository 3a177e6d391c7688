-- The lowest run of a word is its base and the number of its trailing zeros; the word and the number before it have all its runs but the lowest in common. Stated
-- over the width and the base. Assumes nothing.
use Prim.Native.Nat.{ℕ, zero, suc, ◌+◌, ◌-◌, ◌*◌, ◌/◌, ◌%◌, ◌^◌, ◌≤◌, ◌<◌, min}
use lib.Bits.{bit_and, and_step, and_self}
use lib.Count.{count_trailing_zeros}
use mathlib.Core.Logic.{◌≢◌, ⊎_elim}
use mathlib.Core.Path.{◌≡◌, sym, ap, ◌∙◌}
use native.Mathlib.Nat.{add-mul}
use native.Mathlib.Omega.{arith}
use Rattle.mask_word.specs.Runs.{Lowest, LowestGone}
use Rattle.mask_word.proofs.Bits.{bit_shifted, bit_before, power_shifted}
use Rattle.model.proofs.Masks.{bit_zero, bit_half}
use Rattle.model.proofs.Tests.{lt_or_le, eq_or_ne}
use Rattle.model.specs.Runs.{bit}

zeros_odd : (k m : ℕ) → m % 2 ≡ 1 → count_trailing_zeros (suc k) m ≡ 0
unfolding count_trailing_zeros
zeros_odd k m e = rw e

zeros_even : (k m : ℕ) → m % 2 ≡ 0 → count_trailing_zeros (suc k) m ≡ suc (count_trailing_zeros k (m / 2))
unfolding count_trailing_zeros
zeros_even k m e = rw e

lowest_in : (k m : ℕ) → 0 < m → m < 2 ^ k → Lowest m (count_trailing_zeros k m)
lowest_in zero m p h = absurd (omega arith)
lowest_in (suc k) m p h =
    ⊎_elim
    (λ (e : m % 2 ≡ 1).
    let b = bit_zero m in
    rw (zeros_odd k m e) (record { here = omega arith; none_before = λ i l. absurd (omega arith) }))
    (λ (n : m % 2 ≢ 1).
    let e : m % 2 ≡ 0 = omega arith in
    let d : 2 ^ suc k ≡ 2 * 2 ^ k = omega arith in
    let t = lowest_in k (m / 2) (omega arith) (omega arith) in
    rw (zeros_even k m e)
    (record { here = bit_half m (count_trailing_zeros k (m / 2)) ∙ t.here; none_before = before m e (count_trailing_zeros k (m / 2)) t.none_before }))
    (eq_or_ne (m % 2) 1)
  where
    before : (n : ℕ) → n % 2 ≡ 0 → (t : ℕ) → ((i : ℕ) → i < t → bit (n / 2) i ≡ 0) → (i : ℕ) → i < suc t → bit n i ≡ 0
    before n e t f zero l = bit_zero n ∙ e
    before n e t f (suc i) l = bit_half n i ∙ f i (omega arith)

pub lowest_zeros : (k b m : ℕ) → 0 < m → m < 2 ^ k → Lowest (m * 2 ^ b) (b + count_trailing_zeros k m)
lowest_zeros k b m p h =
    let t = lowest_in k m p h in
    record {
      here = bit_shifted m b (count_trailing_zeros k m) ∙ t.here;
      none_before = λ i l.
          ⊎_elim
          (λ (q : i < b). bit_before m b i q)
          (λ (q : b ≤ i).
          let e : b + (i - b) ≡ i = omega arith in
          ap (λ (x : ℕ). bit (m * 2 ^ b) x) (sym e) ∙ (bit_shifted m b (i - b) ∙ t.none_before (i - b) (omega arith)))
          (lt_or_le i b);
    }

-- ---- a mask without its lowest run

-- a number and the one before it have the same digits above the lowest one, and none in common from there on
and_lowest : (k m : ℕ) → 0 < m → m < 2 ^ k → bit_and m (m - 1) + 2 ^ count_trailing_zeros k m ≡ m
and_lowest zero m p h = absurd (omega arith)
and_lowest (suc k) m p h =
    ⊎_elim
    (λ (e : m % 2 ≡ 1).
    let a : (m - 1) / 2 ≡ m / 2 = omega arith in
    let b : (m - 1) % 2 ≡ 0 = omega arith in
    let s : bit_and m (m - 1) ≡ m / 2 * 2 =
    and_step m (m - 1) ∙ ((λ i. bit_and (m / 2) (a i) * 2 + min (e i) (b i)) ∙ (let w = and_self (m / 2) in omega arith)) in
    rw (zeros_odd k m e) (omega arith))
    (λ (n : m % 2 ≢ 1).
    let e : m % 2 ≡ 0 = omega arith in
    let d : 2 ^ suc k ≡ 2 * 2 ^ k = omega arith in
    let a : (m - 1) / 2 ≡ m / 2 - 1 = omega arith in
    let b : (m - 1) % 2 ≡ 1 = omega arith in
    let s : bit_and m (m - 1) ≡ bit_and (m / 2) (m / 2 - 1) * 2 =
    and_step m (m - 1) ∙ ((λ i. bit_and (m / 2) (a i) * 2 + min (e i) (b i)) ∙ omega arith) in
    let q = and_lowest k (m / 2) (omega arith) (omega arith) in
    let f : 2 ^ suc (count_trailing_zeros k (m / 2)) ≡ 2 * 2 ^ count_trailing_zeros k (m / 2) = omega arith in
    rw (zeros_even k m e) (omega arith))
    (eq_or_ne (m % 2) 1)

-- a mask has one lowest run
one_lowest : (m i j : ℕ) → Lowest m i → Lowest m j → i ≡ j
one_lowest m i j a b =
    ⊎_elim
    (λ (h : i < j). absurd (let x = b.none_before i h in let y = a.here in omega arith))
    (λ (h : j ≤ i).
    ⊎_elim
    (λ (e : j ≡ i). sym e)
    (λ (n : j ≢ i). absurd (let x = a.none_before j (omega arith) in let y = b.here in omega arith))
    (eq_or_ne j i))
    (lt_or_le i j)

pub lowest_gone : (k b m : ℕ) → 0 < m → m < 2 ^ k → LowestGone (m * 2 ^ b) (bit_and m (m - 1) * 2 ^ b)
lowest_gone k b m p h =
    record {
      gone = λ i l.
          let e = one_lowest (m * 2 ^ b) i (b + count_trailing_zeros k m) l (lowest_zeros k b m p h) in
          let q = bit_and m (m - 1) in
          let f = add-mul q (2 ^ count_trailing_zeros k m) (2 ^ b) in
          ap (λ (x : ℕ). q * 2 ^ b + 2 ^ x) e
          ∙ (ap (λ (x : ℕ). q * 2 ^ b + x) (power_shifted b (count_trailing_zeros k m)) ∙ (sym f ∙ ap (λ (x : ℕ). x * 2 ^ b) (and_lowest k m p h)));
    }
