-- The sides of a list that rises: its front, what is left after so many numbers, and after a number passed over, rise. Split at the rank of a number v, its numbers
-- below v stand in front, those above v after it, and the rest begins with v where v is one of them. Assumes nothing.
use Prim.Native.Nat.{ℕ, zero, suc, ◌≤◌, ◌<◌}
use lib.ListN.{take, drop, take-append-drop}
use mathlib.Core.Bool.{true}
use mathlib.Core.List.Memᴰ
use mathlib.Core.List.{List, [], ◌∷◌, Memᴰ}
use mathlib.Core.Logic.{⊎_elim, ◌≢◌, ◌↔◌}
use mathlib.Core.Path.{◌≡◌, refl, sym, ◌∙◌}
use native.Mathlib.Omega.{arith}
use Rattle.insertion_rank.proofs.Passed.{begins_nil, begins_same, begins_other, passed_same, passed_other, passed_above}
use Rattle.insertion_rank.specs.Passed.{begins_with, passed_over}
use Rattle.model.proofs.From.{rise_least, rise_tail, rank_nil, rank_pass, rank_stop, drop_rank, rise_from, from_mem, mem_from}
use Rattle.model.proofs.Tests.{lt_or_le, eq_or_ne, true_false}
use Rattle.model.specs.Rows.{Rise, rise_nil, rise_cons}
use Rattle.model.specs.Runs.{from, rank, one}

pub rise_weaken : {a b : ℕ} {s : List ℕ} → b ≤ a → Rise a s → Rise b s
rise_weaken h rise_nil = rise_nil
rise_weaken {b = b} h (rise_cons {x = x} l u r) = let m : b ≤ x = omega arith in rise_cons m u r

pub rise_take : (n : ℕ) {x : ℕ} (s : List ℕ) → Rise x s → Rise x (take n s)
rise_take zero s r = rise_nil
rise_take (suc n) [] r = rise_nil
rise_take (suc n) (y ∷ s) (rise_cons l u r) = rise_cons l u (rise_take n s r)

pub rise_drop : (n : ℕ) {x : ℕ} (s : List ℕ) → Rise x s → Rise x (drop n s)
rise_drop zero s r = r
rise_drop (suc n) [] r = r
rise_drop (suc n) (y ∷ s) (rise_cons l u r) = rise_weaken (omega arith) (rise_drop n s r)

pub rise_passed : (v : ℕ) {x : ℕ} (s : List ℕ) → Rise x s → Rise x (passed_over v s)
unfolding passed_over
rise_passed v s r = rise_drop (one (begins_with v s)) s r

-- ---- a list from v on

module _ (v : ℕ) where
  begins_mem : (s : List ℕ) → begins_with v s ≡ true → Memᴰ v s
  begins_mem [] e = true_false e (begins_nil v)
  begins_mem (x ∷ s) e = ⊎_elim (λ q. Memᴰ.head (sym q)) (λ q. true_false e (begins_other v x s q)) (eq_or_ne x v)

  mem_begins : (s : List ℕ) → Rise v s → Memᴰ v s → begins_with v s ≡ true
  mem_begins [] r m = absurd (Memᴰ.not-nil m)
  mem_begins (x ∷ s) r m =
      let l = rise_least r (Memᴰ.head refl) in
      begins_same v x s (⊎_elim (λ e. sym e) (λ k. let h = rise_least (rise_tail r) k in absurd (omega arith)) (Memᴰ.cases_cons m))

  passed_mem : (s : List ℕ) {z : ℕ} → Memᴰ z (passed_over v s) → Memᴰ z s
  unfolding passed_over
  passed_mem s m = rw (take-append-drop (one (begins_with v s)) s) at (Memᴰ.append_right (take (one (begins_with v s)) s) m)

  mem_passed : (s : List ℕ) {z : ℕ} → Memᴰ z s → z ≢ v → Memᴰ z (passed_over v s)
  mem_passed [] m h = absurd (Memᴰ.not-nil m)
  mem_passed (x ∷ s) m h =
      ⊎_elim
      (λ (e : x ≡ v). rw (passed_same v x s e) (⊎_elim (λ i. absurd (h (i ∙ e))) (λ k. k) (Memᴰ.cases_cons m)))
      (λ (e : x ≢ v). rw (passed_other v x s e) m)
      (eq_or_ne x v)

  front_below : (s : List ℕ) {z : ℕ} → Memᴰ z (take (rank v s) s) → z < v
  front_below [] m = absurd (Memᴰ.not-nil (rw (rank_nil v) at m))
  front_below (x ∷ s) m =
      ⊎_elim
      (λ (h : x < v). ⊎_elim (λ e. omega arith) (λ k. front_below s k) (Memᴰ.cases_cons (rw (rank_pass v x s h) at m)))
      (λ (h : v ≤ x). absurd (Memᴰ.not-nil (rw (rank_stop v x s h) at m)))
      (lt_or_le x v)

-- ---- a list split at the rank of v

pub record Around (v place : ℕ) (s : List ℕ) : Type 0 where
  pub below : (z : ℕ) → Memᴰ z (take place s) ↔ (Memᴰ z s × (z < v))
  pub here : (begins_with v (drop place s) ≡ true) ↔ Memᴰ v s
  pub above : (z : ℕ) → Memᴰ z (passed_over v (drop place s)) ↔ (Memᴰ z s × (v < z))

pub around : (v : ℕ) {x : ℕ} (s : List ℕ) → Rise x s → Around v (rank v s) s
around v s r =
    let rest = from v s in
    let q = rise_from v s r in
    let e = drop_rank v s in
    record {
      below = λ z. (
        λ m. (rw (take-append-drop (rank v s) s) at (Memᴰ.append_left (drop (rank v s) s) m), front_below v s m),
        λ t.
            ⊎_elim
            (λ k. k)
            (λ (k : Memᴰ z (drop (rank v s) s)). let l = rise_least q (rw e at k) in absurd (omega (arith, t.1)))
            (Memᴰ.append_cases (take (rank v s) s) (rw (← (take-append-drop (rank v s) s)) at t.0)),
      );
      here = rw e (λ h. from_mem v s (begins_mem v rest h), λ m. mem_begins v rest q (mem_from v s (omega arith) m));
      above = λ z.
          rw e (
            λ m. (from_mem v s (passed_mem v rest m), rise_least (passed_above v rest q) m),
            λ t. mem_passed v rest (mem_from v s (omega (arith, t.1)) t.0) (omega (arith, t.1)),
          );
    }
