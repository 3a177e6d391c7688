-- The search by halving ends at the rank of the number sought, within as many comparisons as the length has binary digits: each leaves at most half.
-- Allowed more, it ends at the same place, whether the numbers rise or not. Assumes nothing.
use Prim.Native.Nat.{ℕ, zero, suc, ◌+◌, ◌-◌, ◌/◌, ◌^◌, ◌≤◌, ◌<◌}
use borrow.Author.Tests.{lt-ltb, le-ltb}
use lib.ListN.{length, get_or}
use lib.Pow.{pow_mono}
use mathlib.Core.List.{List}
use mathlib.Core.Logic.{⊎_elim}
use mathlib.Core.Path.{◌≡◌, refl, sym, ◌∙◌}
use native.Mathlib.Omega.{arith}
use Rattle.model.proofs.Digits.{digits_above}
use Rattle.model.proofs.From.{rank_le}
use Rattle.model.proofs.Ordered.{place_low, place_high}
use Rattle.model.proofs.Tests.{lt_or_le}
use Rattle.model.specs.Compared.{digits}
use Rattle.model.specs.Rows.{Ordered}
use Rattle.model.specs.Runs.{rank}
use Rattle.pair_model.specs.Pair.{sought_within, sought_in}

module _ (v : ℕ) {x : ℕ} (s : List ℕ) (o : Ordered x s) where
  -- the rank stays between lo and hi
  within_rank : (fuel lo hi : ℕ) → lo ≤ rank v s → rank v s ≤ hi → hi ≤ length s → hi - lo < 2 ^ fuel → sought_within fuel v s lo hi ≡ rank v s
  unfolding sought_within
  within_rank zero lo hi l h i f = omega arith
  within_rank (suc fuel) lo hi l h i f =
      let m = lo + (hi - lo) / 2 in
      ⊎_elim
      (λ (p : lo < hi).
      rw (lt-ltb lo hi p, sought_within)
      (⊎_elim
      (λ (q : get_or s m 0 < v). rw (lt-ltb (get_or s m 0) v q) (within_rank fuel (suc m) hi (place_low v s o m (omega arith) q) h i (omega arith)))
      (λ (q : v ≤ get_or s m 0). rw (le-ltb (get_or s m 0) v q) (within_rank fuel lo m l (place_high v s m q) (omega arith) (omega arith)))
      (lt_or_le (get_or s m 0) v)))
      (λ (p : hi ≤ lo). rw (le-ltb lo hi p, sought_within) (omega arith))
      (lt_or_le lo hi)

pub sought_rank : (v : ℕ) {x : ℕ} (s : List ℕ) → Ordered x s → sought_in v s ≡ rank v s
unfolding sought_in
sought_rank v s o = within_rank v s o (digits (length s)) 0 (length s) (omega arith) (rank_le v s) (omega arith) (omega (arith, digits_above (length s)))

-- ---- more comparisons

module _ (v : ℕ) (s : List ℕ) where
  ended : (fuel lo hi : ℕ) → hi ≤ lo → sought_within fuel v s lo hi ≡ lo
  unfolding sought_within
  ended zero lo hi h = refl
  ended (suc fuel) lo hi h = rw (le-ltb lo hi h, sought_within)

  same_within : (f g lo hi : ℕ) → hi - lo < 2 ^ f → hi - lo < 2 ^ g → sought_within f v s lo hi ≡ sought_within g v s lo hi
  unfolding sought_within
  same_within zero g lo hi h k = sym (ended g lo hi (omega arith))
  same_within (suc f) zero lo hi h k = ended (suc f) lo hi (omega arith)
  same_within (suc f) (suc g) lo hi h k =
      let m = lo + (hi - lo) / 2 in
      ⊎_elim
      (λ (p : lo < hi).
      rw (lt-ltb lo hi p, sought_within)
      (⊎_elim
      (λ (q : get_or s m 0 < v). rw (lt-ltb (get_or s m 0) v q) (same_within f g (suc m) hi (omega arith) (omega arith)))
      (λ (q : v ≤ get_or s m 0). rw (le-ltb (get_or s m 0) v q) (same_within f g lo m (omega arith) (omega arith)))
      (lt_or_le (get_or s m 0) v)))
      (λ (p : hi ≤ lo). ended (suc f) lo hi p ∙ sym (ended (suc g) lo hi p))
      (lt_or_le lo hi)

pub sought_more : (v n : ℕ) (s : List ℕ) → digits (length s) ≤ n → sought_within n v s 0 (length s) ≡ sought_in v s
unfolding sought_in
sought_more v n s h =
    let a = digits_above (length s) in
    let m = pow_mono h in
    same_within v s n (digits (length s)) 0 (length s) (omega arith) (omega arith)
