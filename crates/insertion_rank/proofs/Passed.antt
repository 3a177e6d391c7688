-- A number at the start of a list, by cases, what rises past it, and the place after it. Assumes nothing.
use Prim.Native.Nat.{ℕ, suc, ◌+◌, ◌≤◌, ◌<◌}
use borrow.Author.Tests.{eq-eqb, ne_eqb}
use lib.Dec.{eqb}
use lib.ListN.{length, get_or, drop, drop_of_length-le}
use lib.Seq.{drop-cons, drop-drop}
use mathlib.Core.Bool.{true, false}
use mathlib.Core.List.Memᴰ
use mathlib.Core.List.{List, [], ◌∷◌}
use mathlib.Core.Logic.{⊎_elim, ◌≢◌}
use mathlib.Core.Path.{◌≡◌, refl, sym, ◌∙◌}
use native.Mathlib.Omega.{arith}
use Rattle.model.proofs.From.{rise_least, rise_head_bin, rise_tail}
use Rattle.model.proofs.Tests.{eq_or_ne}
use Rattle.model.specs.Rows.{Rise, rise_nil, rise_cons}
use Rattle.model.specs.Runs.{one}
use Rattle.insertion_rank.specs.Passed.{begins_with, passed_over}

module _ (v : ℕ) where
  pub begins_nil : begins_with v [] ≡ false
  unfolding begins_with
  begins_nil = refl

  pub passed_nil : passed_over v [] ≡ []
  unfolding passed_over begins_with one
  passed_nil = refl

  module _ (x : ℕ) (s : List ℕ) where
    pub begins_same : x ≡ v → begins_with v (x ∷ s) ≡ true
    unfolding begins_with
    begins_same e = eq-eqb x v e

    pub begins_other : x ≢ v → begins_with v (x ∷ s) ≡ false
    unfolding begins_with
    begins_other e = ne_eqb x v e

    pub passed_same : x ≡ v → passed_over v (x ∷ s) ≡ s
    unfolding passed_over one
    passed_same e = rw (begins_same e, one)

    pub passed_other : x ≢ v → passed_over v (x ∷ s) ≡ x ∷ s
    unfolding passed_over one
    passed_other e = rw (begins_other e, one)

  -- a list that rises from v on rises, past it, from the next number on
  pub passed_above : (s : List ℕ) → Rise v s → Rise (suc v) (passed_over v s)
  passed_above [] r = rw passed_nil rise_nil
  passed_above (x ∷ s) r =
      let l = rise_least r (Memᴰ.head refl) in
      ⊎_elim
      (λ (e : x ≡ v). rw (passed_same x s e) (rw e at (rise_tail r)))
      (λ (e : x ≢ v). let h : v < x = omega arith in rw (passed_other x s e) (rise_cons h (rise_head_bin r) (rise_tail r)))
      (eq_or_ne x v)

  -- the list from a place on
  module _ (s : List ℕ) (place : ℕ) where
    pub begins_at : place < length s → begins_with v (drop place s) ≡ eqb (get_or s place 0) v
    unfolding begins_with
    begins_at h = rw (drop-cons s place 0 h)

    pub begins_here : place < length s → get_or s place 0 ≡ v → begins_with v (drop place s) ≡ true
    begins_here h e = begins_at h ∙ eq-eqb (get_or s place 0) v e

    pub begins_end : length s ≤ place → begins_with v (drop place s) ≡ false
    begins_end h = rw (drop_of_length-le s h) begins_nil

    pub drop_after : drop (place + one (begins_with v (drop place s))) s ≡ passed_over v (drop place s)
    unfolding passed_over
    drop_after = sym (drop-drop (one (begins_with v (drop place s))) place s)
