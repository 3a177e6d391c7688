-- A rising row is determined by its numbers: two that have the same ones are equal. Assumes nothing.
use Prim.Native.Nat.{ℕ, suc, ◌<◌}
use mathlib.Core.List.Memᴰ
use mathlib.Core.List.{List, [], ◌∷◌, Memᴰ}
use mathlib.Core.Logic.{⊎_elim, ◌↔◌}
use mathlib.Core.Option.{none}
use mathlib.Core.Path.{◌≡◌, refl, sym, ap₂}
use native.Mathlib.Omega.{arith}
use Rattle.model.proofs.FirstChecks.{after_next}
use Rattle.model.specs.Demands.{Lists}
use Rattle.model.specs.Runs.{unrisen}

-- after its first number a rising row rises, and what stands there is above it
rest_rising : (i x : ℕ) (s : List ℕ) → unrisen i (x ∷ s) ≡ none → unrisen (suc i) s ≡ none
unfolding unrisen
rest_rising i x [] e = refl
rest_rising i x (y ∷ s) e = (after_next i x y s e).1

rest_above : (i x : ℕ) (s : List ℕ) → unrisen i (x ∷ s) ≡ none → {z : ℕ} → Memᴰ z s → x < z
unfolding unrisen
rest_above i x [] e m = absurd (Memᴰ.not-nil m)
rest_above i x (y ∷ s) e {z} m =
    let n = after_next i x y s e in
    let l = n.0 in
    ⊎_elim (λ (q : z ≡ y). omega arith) (λ k. let u = rest_above (suc i) y s n.1 k in omega arith) (Memᴰ.cases_cons m)

-- a number of a row that is not its first one stands after that
among_rest : {x y z : ℕ} {s : List ℕ} → Memᴰ z (y ∷ s) → y ≡ x → x < z → Memᴰ z s
among_rest {x} {y} {z} m e h = ⊎_elim (λ (q : z ≡ y). absurd (omega arith)) (λ k. k) (Memᴰ.cases_cons m)

same_first : (i j x y : ℕ) (s t : List ℕ) → unrisen i (x ∷ s) ≡ none → unrisen j (y ∷ t) ≡ none → Memᴰ x (y ∷ t) → Memᴰ y (x ∷ s) → x ≡ y
same_first i j x y s t p q m n =
    ⊎_elim
    (λ e. e)
    (λ k.
    let a = rest_above j y t q k in
    ⊎_elim (λ e. sym e) (λ l. let b = rest_above i x s p l in absurd (omega arith)) (Memᴰ.cases_cons n))
    (Memᴰ.cases_cons m)

same_rows : (i j : ℕ) (s t : List ℕ) → unrisen i s ≡ none → unrisen j t ≡ none → ((z : ℕ) → Memᴰ z s ↔ Memᴰ z t) → s ≡ t
same_rows i j [] [] p q h = refl
same_rows i j [] (y ∷ t) p q h = absurd (Memᴰ.not-nil ((h y).1 (Memᴰ.head refl)))
same_rows i j (x ∷ s) [] p q h = absurd (Memᴰ.not-nil ((h x).0 (Memᴰ.head refl)))
same_rows i j (x ∷ s) (y ∷ t) p q h =
    let e = same_first i j x y s t p q ((h x).0 (Memᴰ.head refl)) ((h y).1 (Memᴰ.head refl)) in
    ap₂ (λ a l. a ∷ l) e
    (same_rows (suc i) (suc j) s t (rest_rising i x s p) (rest_rising j y t q)
    (λ z. (
      λ k. among_rest ((h z).0 (Memᴰ.tail k)) (sym e) (rest_above i x s p k),
      λ k. among_rest ((h z).1 (Memᴰ.tail k)) e (rest_above j y t q k),
    )))

-- two rows that list what is the same
pub lists_same : {P Q : ℕ → Type 0} {s t : List ℕ} → ((x : ℕ) → P x ↔ Q x) → Lists P s → Lists Q t → s ≡ t
lists_same {s = s} {t = t} e p q =
    same_rows 0 0 s t p.rising q.rising
    (λ z. (λ m. (q.all z).1 ((e z).0 ((p.all z).0 m)), λ m. (p.all z).1 ((e z).1 ((q.all z).0 m))))
