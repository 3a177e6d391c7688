-- The head up to which the runs of a row weigh enough: one turn of the loop that looks for it; the t-th key's where there are no weights; and that the keys whose
-- heads are not above it weigh enough, while those whose heads are not above a smaller number do not. Assumes nothing.
use Prim.Native.Nat.{ℕ, zero, suc, ◌+◌, ◌-◌, ◌*◌, ◌/◌, ◌≤◌, ◌<◌}
use borrow.Author.Tests.{le-leb, lt-leb}
use lib.Dec.{leb}
use lib.ListN.{length, get_or, drop}
use lib.Seq.{drop-cons}
use mathlib.Core.List.{List, [], ◌∷◌, Memᴰ}
use mathlib.Core.Logic.{◌⊎◌, inl, inr, ⊎_elim}
use mathlib.Core.Path.{◌≡◌, refl, sym, ap, ◌∙◌}
use native.Mathlib.Nat.{one-mul, zero-mul, mul-le-mul_right}
use native.Mathlib.Numerals.{add-one}
use native.Mathlib.Omega.{arith}
use Rattle.model.specs.Rows.{Ordered}
use Rattle.model.specs.Runs.{past_bin, one}
use Rattle.model.proofs.Ordered.{ordered_head, ordered_tail}
use Rattle.model.proofs.Tests.{lt_or_le, one_most}
use Rattle.walk_keys.specs.Row.{nth_head, key_weight, reached_head, sum_of}
use Rattle.walk_keys.proofs.Row.{sum_one, member_at}

-- ---- a key at a time

module _ (ws : List ℕ) where
  reached_here : (t k : ℕ) (s : List ℕ) → t ≤ key_weight ws k → reached_head ws t (k ∷ s) ≡ k / 256
  unfolding reached_head
  reached_here t k s h = rw (le-leb t (key_weight ws k) h, reached_head)

  reached_further : (t k : ℕ) (s : List ℕ) → key_weight ws k < t → reached_head ws t (k ∷ s) ≡ reached_head ws (t - key_weight ws k) s
  unfolding reached_head
  reached_further t k s h = rw (lt-leb t (key_weight ws k) h, reached_head)

  reached_nil : (t : ℕ) → reached_head ws t [] ≡ past_bin
  unfolding reached_head
  reached_nil t = refl

  pub reached_at : (t : ℕ) (k : List ℕ) (i : ℕ) → i < length k → t ≤ key_weight ws (get_or k i 0) → reached_head ws t (drop i k) ≡ get_or k i 0 / 256
  reached_at t k i l h = rw (drop-cons k i 0 l) (reached_here t (get_or k i 0) (drop (suc i) k) h)

  pub reached_on : (t : ℕ) (k : List ℕ) (i : ℕ) → i < length k → key_weight ws (get_or k i 0) < t
      → reached_head ws t (drop i k) ≡ reached_head ws (t - key_weight ws (get_or k i 0)) (drop (i + 1) k)
  reached_on t k i l h = rw (drop-cons k i 0 l, add-one i) (reached_further t (get_or k i 0) (drop (suc i) k) h)

  -- what the keys whose heads are not above h weigh
  unfoldable pub row_weight : ℕ → List ℕ → ℕ
  row_weight h s = sum_of (λ k. one (leb (k / 256) h) * key_weight ws k) s

  row_cons : (h k : ℕ) (s : List ℕ) → row_weight h (k ∷ s) ≡ one (leb (k / 256) h) * key_weight ws k + row_weight h s
  unfolding row_weight sum_of
  row_cons h k s = refl

  row_in : (h k : ℕ) (s : List ℕ) → k / 256 ≤ h → row_weight h (k ∷ s) ≡ key_weight ws k + row_weight h s
  unfolding one
  row_in h k s l =
      let e = row_cons h k s in
      let i = ap (λ b. one b * key_weight ws k) (le-leb (k / 256) h l) in
      let o = one-mul (key_weight ws k) in
      omega arith

  row_most : (h k : ℕ) (s : List ℕ) → row_weight h (k ∷ s) ≤ key_weight ws k + row_weight h s
  row_most h k s =
      let e = row_cons h k s in
      let m = mul-le-mul_right (key_weight ws k) (one_most (leb (k / 256) h)) in
      let o = one-mul (key_weight ws k) in
      omega arith

  -- no key of a row that starts above them
  row_none : (h : ℕ) {a : ℕ} (s : List ℕ) → h < a / 256 → Ordered a s → row_weight h s ≡ 0
  unfolding row_weight sum_of one
  row_none h [] l o = refl
  row_none h (k ∷ s) l o =
      let b = ordered_head o in
      let u : h < k / 256 = omega arith in
      let i = row_none h s u (ordered_tail o) in
      let e = row_cons h k s in
      let z = ap (λ x. one x * key_weight ws k) (lt-leb (k / 256) h u) in
      let y = zero-mul (key_weight ws k) in
      omega arith

  -- a head that is reached is one of the row's, and no key before it in order is above it
  reached_least : (t : ℕ) {a : ℕ} (s : List ℕ) → Ordered a s → ((k : ℕ) → Memᴰ k s → k / 256 < past_bin) → a / 256 ≤ past_bin → a / 256 ≤ reached_head ws t s
  reached_least t [] o b l = rw (reached_nil t) l
  reached_least t (k ∷ s) o b l =
      let h = ordered_head o in
      let p = b k (Memᴰ.head refl) in
      ⊎_elim
      (λ (q : key_weight ws k < t).
      let i = reached_least (t - key_weight ws k) s (ordered_tail o) (λ j m. b j (Memᴰ.tail m)) (omega arith) in
      rw (reached_further t k s q) (omega arith))
      (λ (q : t ≤ key_weight ws k). rw (reached_here t k s q) (omega arith))
      (lt_or_le (key_weight ws k) t)

  pub reached_most : (t : ℕ) (s : List ℕ) → ((k : ℕ) → Memᴰ k s → k / 256 < past_bin) → reached_head ws t s ≤ past_bin
  reached_most t [] b = rw (reached_nil t) (omega arith)
  reached_most t (k ∷ s) b =
      let p = b k (Memᴰ.head refl) in
      ⊎_elim
      (λ (q : key_weight ws k < t). rw (reached_further t k s q) (reached_most (t - key_weight ws k) s (λ j m. b j (Memᴰ.tail m))))
      (λ (q : t ≤ key_weight ws k). rw (reached_here t k s q) (omega arith))
      (lt_or_le (key_weight ws k) t)

  pub reached_enough : (t : ℕ) {a : ℕ} (s : List ℕ) → Ordered a s → ((k : ℕ) → Memᴰ k s → k / 256 < past_bin)
      → (reached_head ws t s ≡ past_bin) ⊎ (t ≤ row_weight (reached_head ws t s) s)
  reached_enough t [] o b = inl (reached_nil t)
  reached_enough t (k ∷ s) o b =
      let h = ordered_head o in
      let p = b k (Memᴰ.head refl) in
      ⊎_elim
      (λ (q : key_weight ws k < t).
      let e = reached_further t k s q in
      let l = reached_least (t - key_weight ws k) s (ordered_tail o) (λ j m. b j (Memᴰ.tail m)) (omega arith) in
      ⊎_elim
      (λ (i : reached_head ws (t - key_weight ws k) s ≡ past_bin). inl (e ∙ i))
      (λ (i : t - key_weight ws k ≤ row_weight (reached_head ws (t - key_weight ws k) s) s).
      let r = row_in (reached_head ws (t - key_weight ws k) s) k s l in
      inr (rw e (omega arith)))
      (reached_enough (t - key_weight ws k) s (ordered_tail o) (λ j m. b j (Memᴰ.tail m))))
      (λ (q : t ≤ key_weight ws k).
      let r = row_in (k / 256) k s (omega arith) in
      inr (rw (reached_here t k s q) (omega arith)))
      (lt_or_le (key_weight ws k) t)

  pub reached_few : (t : ℕ) → 0 < t → {a : ℕ} (s : List ℕ) → Ordered a s → (h : ℕ) → h < reached_head ws t s → row_weight h s < t
  unfolding row_weight sum_of one
  reached_few t p [] o h l = p
  reached_few t p (k ∷ s) o h l =
      ⊎_elim
      (λ (q : key_weight ws k < t).
      let e = reached_further t k s q in
      let i = reached_few (t - key_weight ws k) (omega arith) s (ordered_tail o) h (omega arith) in
      let r = row_most h k s in
      omega arith)
      (λ (q : t ≤ key_weight ws k).
      let e = reached_here t k s q in
      let u : h < k / 256 = omega arith in
      let i = row_none h s u (ordered_tail o) in
      let c = row_cons h k s in
      let z = ap (λ x. one x * key_weight ws k) (lt-leb (k / 256) h u) in
      let y = zero-mul (key_weight ws k) in
      omega arith)
      (lt_or_le (key_weight ws k) t)

-- ---- where there are no weights

one_each : (k : ℕ) → key_weight [] k ≡ 1
unfolding key_weight
one_each k = refl

-- then the runs of a row weigh as much as the row has keys
pub row_counted : (s : List ℕ) → sum_of (key_weight []) s ≡ length s
unfolding key_weight
row_counted s = sum_one s

pub reached_nth : (t : ℕ) (s : List ℕ) → 0 < t → t ≤ length s → reached_head [] t s ≡ nth_head t s
unfolding nth_head
reached_nth t [] p l = absurd (omega arith)
reached_nth zero (k ∷ s) p l = absurd (omega arith)
reached_nth (suc zero) (k ∷ s) p l = let e = one_each k in reached_here [] 1 k s (omega arith)
reached_nth (suc (suc t)) (k ∷ s) p l =
    let e = one_each k in
    let q : key_weight [] k < suc (suc t) = omega arith in
    let n : suc (suc t) - key_weight [] k ≡ suc t = omega arith in
    let e₁ : suc t - 1 ≡ t = omega arith in
    let e₂ : suc (suc t) - 1 ≡ suc t = omega arith in
    let i = reached_nth (suc t) s (omega arith) (omega arith) in
    reached_further [] (suc (suc t)) k s q
    ∙ (ap (λ x. reached_head [] x s) n ∙ (i ∙ (ap (λ x. get_or s x 0 / 256) e₁ ∙ ap (λ x. get_or (k ∷ s) x 0 / 256) (sym e₂))))

-- the t-th head is a key's
pub nth_key : (t : ℕ) (s : List ℕ) (v : ℕ) → 0 < t → t ≤ length s → v ≡ nth_head t s → (k : ℕ) × Memᴰ k s × (v ≡ k / 256)
unfolding nth_head
nth_key t s v p l e = (get_or s (t - 1) 0, member_at s (t - 1) (omega arith), e)
