-- The least head such that the runs whose heads do not exceed it weigh at least t: those whose heads are below it weigh less than t. It is past the last bin
-- exactly when the runs with a head weigh less than t. In any row of heads in rising order it is the first up to which the row weighs enough. Assumes nothing.
use Prim.Native.Nat.{ℕ, zero, suc, ◌+◌, ◌*◌, ◌≤◌, ◌<◌, min}
use borrow.Author.Tests.{le-leb, lt-ltb, le-ltb, lt-leb, leb-true, eq-eqb, ne_eqb, eqb-true}
use lib.Dec.{ltb, leb, eqb}
use mathlib.Core.Bool.{Bool, true, false}
use mathlib.Core.List.{List, [], ◌∷◌, Memᴰ}
use mathlib.Core.Logic.{⊎_elim, ◌↔◌, ◌≢◌}
use mathlib.Core.Path.{◌≡◌, refl, sym, ap, ◌∙◌, subst}
use native.Mathlib.Nat.{min-eq_left, min-eq_right, le_antisymm, one-mul, zero-mul}
use native.Mathlib.Omega.{arith}
use Rattle.model.specs.Runs.{Run, past_bin, total, one, weight_of, weight_of_all}
use Rattle.model.specs.Walk.{head, least_head, enough_head}
use Rattle.model.proofs.Count.{total_add, total_eq, total_zero, weight_le, weight_eq, weight_some}
use Rattle.model.proofs.Tests.{both, lt_or_le, eq_or_ne}

-- what the runs whose heads are not above h weigh, and those whose heads are below h; below `past_bin` it is the weight in play
unfoldable pub at_most : ℕ → List Run → ℕ
at_most h rs = weight_of (λ r. leb (head r) h) rs

unfoldable pub below : ℕ → List Run → ℕ
below h rs = weight_of (λ r. ltb (head r) h) rs

-- every head is a bin or the number after the last
pub record Heads (rs : List Run) : Type 0 where
  pub small : (r : Run) → Memᴰ r rs → head r ≤ past_bin

module _ (p : ℕ → Bool) where
  least_passes : p past_bin ≡ true → (rs : List Run) → p (least_head p rs) ≡ true
  unfolding least_head
  least_passes e [] = e
  least_passes e (r ∷ rs) =
      ⊎_elim
      (λ (q : p (head r) ≡ true).
      rw (q, least_head)
      (⊎_elim
      (λ (l : head r < least_head p rs). let m : head r ≤ least_head p rs = omega arith in rw (min-eq_left m) q)
      (λ (l : least_head p rs ≤ head r). rw (min-eq_right l) (least_passes e rs))
      (lt_or_le (head r) (least_head p rs))))
      (λ (q : p (head r) ≡ false). rw (q, least_head) (least_passes e rs))
      (both (p (head r)))

  least_le : (rs : List Run) (r : Run) → Memᴰ r rs → p (head r) ≡ true → least_head p rs ≤ head r
  unfolding least_head
  least_le [] r m e = absurd (mathlib.Core.List.Memᴰ.not-nil m)
  least_le (s ∷ rs) r m e =
      ⊎_elim
      (λ (q : p (head s) ≡ true).
      rw (q, least_head)
      (⊎_elim
      (λ (i : r ≡ s). let j : head r ≡ head s = ap head i in omega arith)
      (λ (n : Memᴰ r rs). let j = least_le rs r n e in omega arith)
      (mathlib.Core.List.Memᴰ.cases_cons m)))
      (λ (q : p (head s) ≡ false).
      rw (q, least_head)
      (⊎_elim
      (λ (i : r ≡ s). absurd (let z : true ≡ false = sym e ∙ (ap (λ x. p (head x)) i ∙ q) in mathlib.Core.Bool.true≢false z))
      (λ (n : Memᴰ r rs). least_le rs r n e)
      (mathlib.Core.List.Memᴰ.cases_cons m)))
      (both (p (head s)))

  least_past : (rs : List Run) → least_head p rs ≤ past_bin
  unfolding least_head
  least_past [] = omega arith
  least_past (r ∷ rs) =
      let i = least_past rs in
      ⊎_elim
      (λ (q : p (head r) ≡ true). rw (q, least_head) (omega arith))
      (λ (q : p (head r) ≡ false). rw (q, least_head) i)
      (both (p (head r)))

  least_ge : (f : ℕ) → f ≤ past_bin → (rs : List Run) → ((r : Run) → Memᴰ r rs → f ≤ head r) → f ≤ least_head p rs
  unfolding least_head
  least_ge f l [] h = l
  least_ge f l (r ∷ rs) h =
      let i = least_ge f l rs (λ s m. h s (mathlib.Core.List.Memᴰ.tail m)) in
      let j = h r (mathlib.Core.List.Memᴰ.head refl) in
      ⊎_elim
      (λ (q : p (head r) ≡ true). rw (q, least_head) (omega arith))
      (λ (q : p (head r) ≡ false). rw (q, least_head) i)
      (both (p (head r)))

pub at_most_past : (rs : List Run) → Heads rs → at_most past_bin rs ≡ weight_of_all rs
unfolding at_most weight_of weight_of_all one
at_most_past rs h =
    total_eq _ _ rs (λ r m. ap (λ b. one b * r.weight) (le-leb (head r) past_bin (h.small r m)) ∙ one-mul r.weight)

pub enough_past : (t : ℕ) (rs : List Run) → enough_head t rs ≤ past_bin
unfolding enough_head
enough_past t rs = least_past _ rs

pub enough_ge : (t f : ℕ) (rs : List Run) → f ≤ past_bin → ((r : Run) → Memᴰ r rs → f ≤ head r) → f ≤ enough_head t rs
unfolding enough_head
enough_ge t f rs l h = least_ge _ f l rs h

-- the runs whose heads do not exceed it weigh at least t
pub enough_reached : (t : ℕ) (rs : List Run) → Heads rs → t ≤ weight_of_all rs → t ≤ at_most (enough_head t rs) rs
unfolding enough_head at_most
enough_reached t rs h l =
    let e : t ≤ weight_of (λ r. leb (head r) past_bin) rs = omega (arith, at_most_past rs h) in
    leb-true t _ (least_passes (λ x. leb t (weight_of (λ r. leb (head r) x) rs)) (le-leb t _ e) rs)

below_suc : (x : ℕ) (rs : List Run) → below (suc x) rs ≡ at_most x rs
unfolding below at_most
below_suc x rs = weight_eq _ _ rs (λ r m. same (head r))
  where
    same : (h : ℕ) → ltb h (suc x) ≡ leb h x
    same h = ⊎_elim (λ (q : h < suc x). lt-ltb h (suc x) q ∙ sym (le-leb h x (omega arith))) (λ (q : suc x ≤ h). le-ltb h (suc x) q ∙ sym (lt-leb h x (omega arith))) (lt_or_le h (suc x))

below_zero : (rs : List Run) → below 0 rs ≡ 0
unfolding below weight_of one
below_zero rs = total_zero _ rs (λ r m. ap (λ b. one b * r.weight) (le-ltb (head r) 0 (omega arith)) ∙ zero-mul r.weight)

-- the runs whose heads are not above x: those below it, and those at it
at_most_split : (x : ℕ) (rs : List Run) → at_most x rs ≡ below x rs + weight_of (λ r. eqb (head r) x) rs
unfolding at_most below weight_of one
at_most_split x rs =
    total_eq _ (λ r. one (ltb (head r) x) * r.weight + one (eqb (head r) x) * r.weight) rs (λ r m. split (head r) r.weight)
    ∙ total_add (λ r. one (ltb (head r) x) * r.weight) (λ r. one (eqb (head r) x) * r.weight) rs
  where
    split : (h w : ℕ) → one (leb h x) * w ≡ one (ltb h x) * w + one (eqb h x) * w
    split h w =
        ⊎_elim
        (λ (q : h < x). let n : h ≢ x = omega arith in rw (lt-ltb h x q, le-leb h x (omega arith), ne_eqb h x n) (omega arith))
        (λ (q : x ≤ h).
        ⊎_elim
        (λ (e : h ≡ x). rw (le-ltb h x q, le-leb h x (omega arith), eq-eqb h x e) (omega arith))
        (λ (n : h ≢ x). rw (le-ltb h x q, lt-leb h x (omega arith), ne_eqb h x n) (omega arith))
        (eq_or_ne h x))
        (lt_or_le h x)

least_at : (t x : ℕ) (rs : List Run) (r : Run) → Memᴰ r rs → head r ≡ x → t ≤ at_most x rs → enough_head t rs ≤ x
unfolding at_most enough_head
least_at t x rs r m e u =
    let j : leb t (weight_of (λ s. leb (head s) (head r)) rs) ≡ true = rw e (le-leb t _ u) in
    let k = least_le (λ h. leb t (weight_of (λ s. leb (head s) h) rs)) rs r m j in
    omega arith

-- the runs whose heads are below it weigh less than t
few_below : (t : ℕ) (rs : List Run) → 0 < t → (x : ℕ) → x ≤ enough_head t rs → below x rs < t
few_below t rs l zero h = rw (below_zero rs) l
few_below t rs l (suc x) h =
    let i = few_below t rs l x (omega arith) in
    rw (below_suc x rs)
    (⊎_elim
    (λ (q : 0 < weight_of (λ r. eqb (head r) x) rs).
    let s = weight_some _ rs q in
    ⊎_elim
    (λ (u : at_most x rs < t). u)
    (λ (u : t ≤ at_most x rs). let w = least_at t x rs s.0 s.1 (eqb-true (head s.0) x s.2) u in absurd (omega arith))
    (lt_or_le (at_most x rs) t))
    (λ (q : weight_of (λ r. eqb (head r) x) rs ≤ 0). let j = at_most_split x rs in omega arith)
    (lt_or_le 0 (weight_of (λ r. eqb (head r) x) rs)))

pub below_mono : {x y : ℕ} → x < y → (rs : List Run) → at_most x rs ≤ below y rs
unfolding at_most below
below_mono {x} {y} h rs = weight_le _ _ rs (λ r m q. let i = leb-true (head r) x q in lt-ltb (head r) y (omega arith))

pub enough_few : (t : ℕ) (rs : List Run) → 0 < t → below (enough_head t rs) rs < t
enough_few t rs l = few_below t rs l (enough_head t rs) (omega arith)

-- it is past the last bin exactly when the runs with a head weigh less than t
pub enough_none : (t : ℕ) (rs : List Run) → Heads rs → 0 < t → t ≤ weight_of_all rs → (enough_head t rs ≡ past_bin) ↔ (below past_bin rs < t)
enough_none t rs h l k = (
  λ e. subst (λ (x : ℕ). below x rs < t) e (enough_few t rs l),
  λ q.
      let i = enough_past t rs in
      let j = enough_reached t rs h k in
      ⊎_elim
      (λ (u : enough_head t rs < past_bin). let w = below_mono u rs in absurd (omega arith))
      (λ (u : past_bin ≤ enough_head t rs). le_antisymm i u)
      (lt_or_le (enough_head t rs) past_bin),
)

-- Where the runs whose heads are not above v weigh enough, and those whose heads are not above any smaller number do not, v is that head.
pub enough_first : (t v : ℕ) (rs : List Run) → Heads rs → 0 < t → t ≤ weight_of_all rs → t ≤ at_most v rs → ((h : ℕ) → h < v → at_most h rs < t) → v ≡ enough_head t rs
enough_first t v rs b p l e least =
    let u = enough_head t rs in
    le_antisymm
    (⊎_elim
    (λ (q : u < v). let i = least u q in let j = enough_reached t rs b l in absurd (omega arith))
    (λ (q : v ≤ u). q)
    (lt_or_le u v))
    (⊎_elim
    (λ (q : v < u). let i = few_below t rs p (suc v) q in let j = below_suc v rs in absurd (omega arith))
    (λ (q : u ≤ v). q)
    (lt_or_le v u))
