-- Masks over runs whose labels rise: which runs the mask of a test names, how many, and that a mask which names only runs of these is the sum of their bits
-- and has as many ones as it names runs. Stated over the labels, so over any width. Assumes nothing.
use Prim.Native.Nat.{ℕ, zero, suc, ◌+◌, ◌-◌, ◌*◌, ◌/◌, ◌%◌, ◌^◌, ◌≤◌, ◌<◌, min}
use borrow.Author.Tests.{eq-eqb, ne_eqb, eqb-true}
use lib.Arith.{lt-one}
use lib.Bits.{bit_and, and_step, and_shr, and_zero_l}
use lib.Count.{ones, ones_cat, leading_top}
use lib.Dec.{eqb}
use lib.ListN.{length}
use lib.Pow.{pow_pos, pow_mono, pow-add, shr-shr, high, shl-shr, low}
use mathlib.Core.Bool.{Bool, true, false}
use mathlib.Core.List.{List, [], ◌∷◌, Memᴰ}
use mathlib.Core.Logic.{◌⊎◌, inl, inr, ⊎_elim, ◌≢◌}
use mathlib.Core.Path.{◌≡◌, refl, sym, ap, ◌∙◌, subst}
use native.Mathlib.Nat.{div-one, add_comm, zero-add, div-eq_of_lt, div-eq_of_lt-le, zero-div, div-lt_iff_lt-mul, div-mul-le_self, mod-lt, one-mul, mul_assoc, mul-div_cancel}
use native.Mathlib.Omega.{arith}
use Rattle.model.specs.Certificate.{NamesOnly}
use Rattle.model.specs.Plain.{count}
use Rattle.model.specs.Runs.{Run, total, one, mask, mask_of_all, bit, names}
use Rattle.model.proofs.Tests.{lt_or_le, eq_or_ne}

-- the runs' labels are a, a + 1 and so on
pub data Labelled : ℕ → List Run → Type 0 where
  labelled_nil : {a : ℕ} → Labelled a []
  labelled_cons : {a : ℕ} {r : Run} {rs : List Run} → r.label ≡ a → Labelled (suc a) rs → Labelled a (r ∷ rs)

pub label_first : {a : ℕ} {r : Run} {rs : List Run} → Labelled a (r ∷ rs) → r.label ≡ a
label_first (labelled_cons e l) = e

pub label_rest : {a : ℕ} {r : Run} {rs : List Run} → Labelled a (r ∷ rs) → Labelled (suc a) rs
label_rest (labelled_cons e l) = l

pub label_least : {a : ℕ} (rs : List Run) → Labelled a rs → (r : Run) → Memᴰ r rs → a ≤ r.label
label_least [] l r m = absurd (mathlib.Core.List.Memᴰ.not-nil m)
label_least (s ∷ rs) l r m =
    let e = label_first l in
    ⊎_elim
    (λ (i : r ≡ s). let j = ap (λ (x : Run). x.label) i in omega arith)
    (λ (n : Memᴰ r rs). let j = label_least rs (label_rest l) r n in omega arith)
    (mathlib.Core.List.Memᴰ.cases_cons m)

pub label_below : {a : ℕ} (rs : List Run) → Labelled a rs → (r : Run) → Memᴰ r rs → r.label < a + length rs
label_below [] l r m = absurd (mathlib.Core.List.Memᴰ.not-nil m)
label_below (s ∷ rs) l r m =
    let e = label_first l in
    ⊎_elim
    (λ (i : r ≡ s). let j = ap (λ (x : Run). x.label) i in omega arith)
    (λ (n : Memᴰ r rs). let j = label_below rs (label_rest l) r n in omega arith)
    (mathlib.Core.List.Memᴰ.cases_cons m)

-- the runs' labels rise, the first of them not below a
pub data Ascending : ℕ → List Run → Type 0 where
  ascending_nil : {a : ℕ} → Ascending a []
  ascending_cons : {a : ℕ} {r : Run} {rs : List Run} → a ≤ r.label → Ascending (suc r.label) rs → Ascending a (r ∷ rs)

pub ascending_first : {a : ℕ} {r : Run} {rs : List Run} → Ascending a (r ∷ rs) → a ≤ r.label
ascending_first (ascending_cons e l) = e

pub ascending_rest : {a : ℕ} {r : Run} {rs : List Run} → Ascending a (r ∷ rs) → Ascending (suc r.label) rs
ascending_rest (ascending_cons e l) = l

pub ascending_from : {a b : ℕ} {rs : List Run} → b ≤ a → Ascending a rs → Ascending b rs
ascending_from h ascending_nil = ascending_nil
ascending_from {b = b} h (ascending_cons {r = r} e l) = let f : b ≤ r.label = omega arith in ascending_cons f l

pub ascending_least : {a : ℕ} (rs : List Run) → Ascending a rs → (r : Run) → Memᴰ r rs → a ≤ r.label
ascending_least [] l r m = absurd (mathlib.Core.List.Memᴰ.not-nil m)
ascending_least (s ∷ rs) l r m =
    let e = ascending_first l in
    ⊎_elim
    (λ (i : r ≡ s). let j = ap (λ (x : Run). x.label) i in omega arith)
    (λ (n : Memᴰ r rs). let j = ascending_least rs (ascending_rest l) r n in omega arith)
    (mathlib.Core.List.Memᴰ.cases_cons m)

pub ascending : {a : ℕ} {rs : List Run} → Labelled a rs → Ascending a rs
ascending labelled_nil = ascending_nil
ascending {a} (labelled_cons {r = r} e l) = let f : a ≤ r.label = omega arith in ascending_cons f (ascending_from (omega arith) (ascending l))

-- ---- bits

pub bit_of : (m i : ℕ) → bit m i ≡ m / 2 ^ i % 2
unfolding bit
bit_of m i = refl

pub bit_small : (m i : ℕ) → bit m i < 2
unfolding bit
bit_small m i = mod-lt (m / 2 ^ i) (omega arith)

pub bit_zero : (m : ℕ) → bit m 0 ≡ m % 2
bit_zero m = bit_of m 0 ∙ ap (λ (x : ℕ). x % 2) (div-one m)

-- a run past the first is a run of the half
pub bit_half : (m i : ℕ) → bit m (suc i) ≡ bit (m / 2) i
bit_half m i =
    let e : 1 + i ≡ suc i = omega arith in
    bit_of m (suc i) ∙ (ap (λ (x : ℕ). m / 2 ^ x % 2) (sym e) ∙ (ap (λ (x : ℕ). x % 2) (sym (shr-shr m 1 i)) ∙ sym (bit_of (m / 2) i)))

-- a run is in both masks
pub bit_of_and : (m n i : ℕ) → bit (bit_and m n) i ≡ min (bit m i) (bit n i)
unfolding bit
bit_of_and m n i = let e = and_step (m / 2 ^ i) (n / 2 ^ i) in rw (and_shr m n i) (omega arith)

-- a mask whose bits are all bits of another is what the two have in common, and the other way round
pub and_all : (k m n : ℕ) → m < 2 ^ k → ((i : ℕ) → bit m i ≡ 1 → bit n i ≡ 1) → bit_and m n ≡ m
and_all zero m n l h = let e : m ≡ 0 = omega arith in rw (e, and_zero_l n)
and_all (suc k) m n l h =
    let d : 2 ^ suc k ≡ 2 * 2 ^ k = omega arith in
    let i = and_all k (m / 2) (n / 2) (omega arith) (λ j e. sym (bit_half n j) ∙ h (suc j) (bit_half m j ∙ e)) in
    let a = bit_zero m in
    let b = bit_zero n in
    let o = h 0 in
    let low : min (m % 2) (n % 2) ≡ m % 2 =
    ⊎_elim
    (λ (q : m % 2 ≡ 1). let z = o (a ∙ q) in omega arith)
    (λ (q : m % 2 ≢ 1). omega arith)
    (eq_or_ne (m % 2) 1) in
    and_step m n ∙ ((λ j. i j * 2 + low j) ∙ omega arith)

pub and_bit : (m n i : ℕ) → bit_and m n ≡ m → bit m i ≡ 1 → bit n i ≡ 1
and_bit m n i e h =
    let a = bit_of_and m n i in
    let b = ap (λ x. bit x i) e in
    let s = bit_small n i in
    omega arith

-- a mask below 2 ^ k names only runs below k, and the other way round
pub below_only : (m k i : ℕ) → m < 2 ^ k → bit m i ≡ 1 → i < k
below_only m k i h e =
    ⊎_elim
    (λ (q : i < k). q)
    (λ (q : k ≤ i).
    let p = pow_mono q in
    let z : m < 2 ^ i = omega arith in
    let w : bit m i ≡ 0 = bit_of m i ∙ rw (div-eq_of_lt z) in
    absurd (omega arith))
    (lt_or_le i k)

top_bit : (x : ℕ) → 0 < x → (j : ℕ) × (x / 2 ^ j ≡ 1)
top_bit x h =
    let t = leading_top x x h (Rattle.model.proofs.Digits.below_pow x) in
    (t.0, div-eq_of_lt-le (2 ^ t.0) (omega (arith, t.2)) (omega (arith, t.3)))

pub only_below : (m k : ℕ) → ((i : ℕ) → bit m i ≡ 1 → i < k) → m < 2 ^ k
only_below m k h =
    ⊎_elim
    (λ (q : 0 < m / 2 ^ k).
    let t = top_bit (m / 2 ^ k) q in
    let e : bit m (k + t.0) ≡ 1 = bit_of m (k + t.0) ∙ rw (← (shr-shr m k t.0), t.1) in
    let i = h (k + t.0) e in
    absurd (omega arith))
    (λ (q : m / 2 ^ k ≤ 0).
    let p = pow_pos k in
    let i = (div-lt_iff_lt-mul {x = m} {y = 1} p).0 (omega arith) in
    omega (arith, one-mul (2 ^ k)))
    (lt_or_le 0 (m / 2 ^ k))

-- ---- the mask of a test

one_le_1 : (b : Bool) → one b ≤ 1
unfolding one
one_le_1 true = omega arith
one_le_1 false = omega arith

mask_cons : (p : Run → Bool) (r : Run) (rs : List Run) → mask p (r ∷ rs) ≡ one (p r) * 2 ^ r.label + mask p rs
unfolding mask total
mask_cons p r rs = refl

mask_nil : (p : Run → Bool) → mask p [] ≡ 0
unfolding mask total
mask_nil p = refl

multiple_from : (a b q : ℕ) → a ≤ b → (c : ℕ) × (q * 2 ^ b ≡ c * 2 ^ a)
multiple_from a b q h =
    let e : (b - a) + a ≡ b = omega arith in
    (q * 2 ^ (b - a), ap (λ (x : ℕ). q * 2 ^ x) (sym e) ∙ (ap (λ (x : ℕ). q * x) (pow-add 2 (b - a) a) ∙ sym (mul_assoc q (2 ^ (b - a)) (2 ^ a))))

-- it has no bit below the first label
mask_multiple : (p : Run → Bool) (a : ℕ) (rs : List Run) → Ascending a rs → (q : ℕ) × (mask p rs ≡ q * 2 ^ a)
mask_multiple p a [] l = (0, rw (mask_nil p) (omega arith))
mask_multiple p a (r ∷ rs) l =
    let t = mask_multiple p (suc r.label) rs (ascending_rest l) in
    let e : 2 ^ suc r.label ≡ 2 * 2 ^ r.label = omega arith in
    let w = multiple_from a r.label (one (p r) + 2 * t.0) (ascending_first l) in
    (w.0, rw (mask_cons p r rs, t.1, e) (omega (arith, w.1)))

-- bits above the lowest stay where the lowest is cleared
bits_above : (q a i e : ℕ) → e < 2 ^ suc a → suc a ≤ i → (e + q * 2 ^ suc a) / 2 ^ i ≡ q * 2 ^ suc a / 2 ^ i
bits_above q a i e h l =
    let j : suc a + (i - suc a) ≡ i = omega arith in
    let c = native.Mathlib.Nat.add_comm e (q * 2 ^ suc a) in
    rw (c, ← j, ← (shr-shr (q * 2 ^ suc a + e) (suc a) (i - suc a)), ← (shr-shr (q * 2 ^ suc a) (suc a) (i - suc a)), high q (suc a) h, shl-shr q (suc a))

bit_lowest : (q a : ℕ) (b : Bool) → (one b * 2 ^ a + q * 2 ^ suc a) / 2 ^ a % 2 ≡ one b
bit_lowest q a b =
    let s = one_le_1 b in
    let d : 2 ^ suc a ≡ 2 * 2 ^ a = omega arith in
    let e : one b * 2 ^ a + q * (2 * 2 ^ a) ≡ (one b + 2 * q) * 2 ^ a = omega arith in
    rw (d, e, mul-div_cancel (one b + 2 * q) (pow_pos a)) (omega arith)

eqb_one : (b : Bool) → eqb (one b) 1 ≡ b
unfolding one
eqb_one true = refl
eqb_one false = refl

pub bit_under : (q a i : ℕ) → i < a → q * 2 ^ a / 2 ^ i % 2 ≡ 0
bit_under q a i h =
    let w = multiple_from (suc i) a q h in
    let c = w.0 in
    let e : 2 ^ suc i ≡ 2 * 2 ^ i = omega arith in
    let d : c * 2 ^ suc i ≡ 2 * c * 2 ^ i = ap (λ (x : ℕ). c * x) e ∙ omega arith in
    rw (w.1, d, mul-div_cancel (2 * w.0) (pow_pos i)) (omega arith)

low_bit : (b : Bool) (a : ℕ) → one b * 2 ^ a < 2 ^ suc a
low_bit b a = omega (arith, native.Mathlib.Nat.mul-le-mul_right (2 ^ a) (one_le_1 b), pow_pos a)

pub names_mask : (p : Run → Bool) {a : ℕ} (rs : List Run) → Ascending a rs → (r : Run) → Memᴰ r rs → names (mask p rs) r ≡ p r
unfolding names bit
names_mask p [] l r m = absurd (mathlib.Core.List.Memᴰ.not-nil m)
names_mask p (s ∷ rs) l r m =
    let t = mask_multiple p (suc s.label) rs (ascending_rest l) in
    ⊎_elim
    (λ (i : r ≡ s).
    let j : r.label ≡ s.label = ap (λ (x : Run). x.label) i in
    let k : eqb (mask p (s ∷ rs) / 2 ^ s.label % 2) 1 ≡ p s = rw (mask_cons p s rs, t.1, bit_lowest t.0 s.label (p s)) (eqb_one (p s)) in
    ap (λ (x : ℕ). eqb (mask p (s ∷ rs) / 2 ^ x % 2) 1) j ∙ (k ∙ ap p (sym i)))
    (λ (n : Memᴰ r rs).
    let w = ascending_least rs (ascending_rest l) r n in
    let k = bits_above t.0 s.label r.label (one (p s) * 2 ^ s.label) (low_bit (p s) s.label) w in
    let u = names_mask p rs (ascending_rest l) r n in
    rw (mask_cons p s rs, t.1, k, ← t.1) u)
    (mathlib.Core.List.Memᴰ.cases_cons m)

-- every bit of it is a run's that passes the test
pub mask_bit : (p : Run → Bool) {a : ℕ} (rs : List Run) → Ascending a rs → (i : ℕ) → bit (mask p rs) i ≡ 1
    → (r : Run) × Memᴰ r rs × (r.label ≡ i) × (p r ≡ true)
unfolding bit
mask_bit p [] l i e = let z = zero-div (2 ^ i) in let w : ◌≡◌ {A = ℕ} 0 1 = rw (mask_nil p, z) at e in absurd (omega arith)
mask_bit p (s ∷ rs) l i e =
    let t = mask_multiple p (suc s.label) rs (ascending_rest l) in
    let whole : mask p (s ∷ rs) ≡ one (p s) * 2 ^ s.label + t.0 * 2 ^ suc s.label = rw (mask_cons p s rs, t.1) in
    ⊎_elim
    (λ (h : i < s.label).
    let d : one (p s) * 2 ^ s.label + t.0 * (2 * 2 ^ s.label) ≡ (one (p s) + 2 * t.0) * 2 ^ s.label = omega arith in
    let f : 2 ^ suc s.label ≡ 2 * 2 ^ s.label = omega arith in
    let z = bit_under (one (p s) + 2 * t.0) s.label i h in
    let w : 0 ≡ 1 = sym z ∙ rw (whole, f, d) at e in
    absurd (omega arith))
    (λ (h : s.label ≤ i).
    ⊎_elim
    (λ (j : i ≡ s.label).
    let k : one (p s) ≡ 1 = sym (bit_lowest t.0 s.label (p s)) ∙ rw (whole, j) at e in
    (s, mathlib.Core.List.Memᴰ.head refl, sym j, sym (eqb_one (p s)) ∙ eq-eqb (one (p s)) 1 k))
    (λ (j : i ≢ s.label).
    let k = bits_above t.0 s.label i (one (p s) * 2 ^ s.label) (low_bit (p s) s.label) (omega arith) in
    let u = mask_bit p rs (ascending_rest l) i (rw (whole, k, ← t.1) at e) in
    (u.0, mathlib.Core.List.Memᴰ.tail u.1, u.2, u.3))
    (eq_or_ne i s.label))
    (lt_or_le i s.label)

-- so it is below 2 ^ k where the labels are below k
pub mask_under : (p : Run → Bool) {a : ℕ} (rs : List Run) → Ascending a rs → (k : ℕ) → ((r : Run) → Memᴰ r rs → r.label < k) → mask p rs < 2 ^ k
mask_under p rs l k h =
    only_below (mask p rs) k (λ i e. let t = mask_bit p rs l i e in let b = h t.0 t.1 in omega (arith, t.2))

pub mask_only : (p : Run → Bool) (rs : List Run) → Labelled 0 rs → mask p rs < 2 ^ length rs
mask_only p rs l = mask_under p rs (ascending l) (length rs) (λ r m. let b = label_below rs l r m in omega arith)

ones_bit : (b : Bool) (a : ℕ) → ones (one b * 2 ^ a) ≡ one b
unfolding one ones
ones_bit b a =
    let e : one b * 2 ^ a + 0 ≡ one b * 2 ^ a = omega arith in
    ap ones (sym e) ∙ (ones_cat a (one b) 0 (pow_pos a) ∙ small b)
  where
    small : (c : Bool) → ones (one c) + ones 0 ≡ one c
    small true = refl
    small false = refl

pub ones_mask : (p : Run → Bool) {a : ℕ} (rs : List Run) → Ascending a rs → ones (mask p rs) ≡ count p rs
unfolding count total ones
ones_mask p [] l = ap ones (mask_nil p)
ones_mask p (s ∷ rs) l =
    let t = mask_multiple p (suc s.label) rs (ascending_rest l) in
    let i = ones_mask p rs (ascending_rest l) in
    let z : ones (mask p rs) ≡ ones t.0 + ones 0 =
    (let e : mask p rs ≡ t.0 * 2 ^ suc s.label + 0 = t.1 ∙ omega arith in ap ones e) ∙ ones_cat (suc s.label) t.0 0 (pow_pos (suc s.label)) in
    let w : ones (mask p (s ∷ rs)) ≡ ones t.0 + ones (one (p s) * 2 ^ s.label) =
    (let e : mask p (s ∷ rs) ≡ t.0 * 2 ^ suc s.label + one (p s) * 2 ^ s.label =
    mask_cons p s rs ∙ (ap (λ (x : ℕ). one (p s) * 2 ^ s.label + x) t.1 ∙ add_comm _ _) in ap ones e)
    ∙ ones_cat (suc s.label) t.0 (one (p s) * 2 ^ s.label) (low_bit (p s) s.label) in
    let b = ones_bit (p s) s.label in
    let n : ones 0 ≡ 0 = refl in
    omega arith

-- ---- a mask that names only runs of these

one_bit : (m i : ℕ) → one (eqb (bit m i) 1) ≡ m / 2 ^ i % 2
unfolding one
one_bit m i =
    let s = bit_small m i in
    let e = bit_of m i in
    ⊎_elim
    (λ (q : bit m i ≡ 1). rw (eq-eqb (bit m i) 1 q) (omega arith))
    (λ (q : bit m i ≢ 1). rw (ne_eqb (bit m i) 1 q) (omega arith))
    (eq_or_ne (bit m i) 1)

-- a number's bits from a on, less those from b on where it has none between
half_shift : (m a : ℕ) → m / 2 ^ a * 2 ^ a ≡ m / 2 ^ a % 2 * 2 ^ a + m / 2 ^ suc a * 2 ^ suc a
half_shift m a =
    let e : m / 2 ^ a / 2 ≡ m / 2 ^ suc a = shr-shr m a 1 ∙ ap (λ (x : ℕ). m / 2 ^ x) (omega arith) in
    let d : 2 ^ suc a ≡ 2 * 2 ^ a = omega arith in
    let f : m / 2 ^ a ≡ m / 2 ^ a % 2 + 2 * (m / 2 ^ suc a) = omega arith in
    let q = m / 2 ^ suc a in
    let r = m / 2 ^ a % 2 in
    let g : (r + 2 * q) * 2 ^ a ≡ r * 2 ^ a + q * (2 * 2 ^ a) = omega arith in
    ap (λ (x : ℕ). x * 2 ^ a) f ∙ (g ∙ ap (λ (x : ℕ). r * 2 ^ a + q * x) (sym d))

skip : (m a n : ℕ) → ((i : ℕ) → a ≤ i → i < a + n → bit m i ≢ 1) → m / 2 ^ a * 2 ^ a ≡ m / 2 ^ (a + n) * 2 ^ (a + n)
skip m a zero h = ap (λ (x : ℕ). m / 2 ^ x * 2 ^ x) (omega arith)
skip m a (suc n) h =
    let s = half_shift m a in
    let b = bit_of m a in
    let l = bit_small m a in
    let z : bit m a ≢ 1 = h a (omega arith) (omega arith) in
    let e : suc a + n ≡ a + suc n = omega arith in
    let o : m / 2 ^ a % 2 ≡ 0 = omega arith in
    let i = skip m (suc a) n (λ j k g. h j (omega arith) (omega arith)) in
    s ∙ (ap (λ (x : ℕ). x * 2 ^ a + m / 2 ^ suc a * 2 ^ suc a) o ∙ (omega arith)) ∙ (i ∙ ap (λ (x : ℕ). m / 2 ^ x * 2 ^ x) e)

names_from : (m a : ℕ) (rs : List Run) → Ascending a rs → ((i : ℕ) → a ≤ i → bit m i ≡ 1 → (r : Run) × Memᴰ r rs × (r.label ≡ i))
    → m / 2 ^ a * 2 ^ a ≡ mask (names m) rs
unfolding names
names_from m a [] l h =
    let z : m < 2 ^ a = only_below m a
    (λ i e. ⊎_elim (λ (q : i < a). q) (λ (q : a ≤ i). absurd (mathlib.Core.List.Memᴰ.not-nil (h i q e).1)) (lt_or_le i a)) in
    ap (λ (x : ℕ). x * 2 ^ a) (div-eq_of_lt z) ∙ (omega arith ∙ sym (mask_nil (names m)))
names_from m a (r ∷ rs) l h =
    let f = ascending_first l in
    let e : a + (r.label - a) ≡ r.label = omega arith in
    let k = skip m a (r.label - a)
    (λ i g n b. let t = h i g b in let w = ascending_least (r ∷ rs) (own l) t.0 t.1 in absurd (omega (arith, t.2))) in
    let i = names_from m (suc r.label) rs (ascending_rest l) (λ j g b. let t = h j (omega arith) b in beyond j g t.0 t.1 t.2) in
    k ∙ (ap (λ (x : ℕ). m / 2 ^ x * 2 ^ x) e
    ∙ (half_shift m r.label
    ∙ ((λ j. sym (one_bit m r.label) j * 2 ^ r.label + i j) ∙ sym (mask_cons (names m) r rs))))
  where
    own : Ascending a (r ∷ rs) → Ascending r.label (r ∷ rs)
    own w = let f : r.label ≤ r.label = omega arith in ascending_cons f (ascending_rest w)

    beyond : (j : ℕ) → suc r.label ≤ j → (s : Run) → Memᴰ s (r ∷ rs) → s.label ≡ j → (q : Run) × Memᴰ q rs × (q.label ≡ j)
    beyond j g s n d =
        ⊎_elim
        (λ (i : s ≡ r). let c = ap (λ (x : Run). x.label) i in absurd (omega arith))
        (λ (o : Memᴰ s rs). (s, o, d))
        (mathlib.Core.List.Memᴰ.cases_cons n)

-- It is the sum of the bits of the runs that it names, and has as many ones.
pub mask_names : (m : ℕ) {a : ℕ} (rs : List Run) → Ascending a rs → NamesOnly m rs → mask (names m) rs ≡ m
mask_names m rs l h =
    sym (names_from m 0 rs (ascending_from (omega arith) l) (λ i g e. h i e))
    ∙ (let d = div-one m in omega arith)

pub ones_names : (m : ℕ) {a : ℕ} (rs : List Run) → Ascending a rs → NamesOnly m rs → ones m ≡ count (names m) rs
ones_names m rs l h = ap ones (sym (mask_names m rs l h)) ∙ ones_mask (names m) rs l

-- ---- all runs

pub mask_of_all_law : (rs : List Run) → mask_of_all rs ≡ mask (λ r. true) rs
unfolding mask_of_all
mask_of_all_law rs = refl

-- the runs that pass a test are some of all
pub mask_part : (p : Run → Bool) {a : ℕ} (rs : List Run) → Ascending a rs → bit_and (mask p rs) (mask_of_all rs) ≡ mask p rs
unfolding names
mask_part p rs l =
    and_all (mask p rs) (mask p rs) (mask_of_all rs) (Rattle.model.proofs.Digits.below_pow (mask p rs))
    (λ i b.
    let t = mask_bit p rs l i b in
    let n = names_mask (λ r. true) rs l t.0 t.1 in
    ap (λ x. bit x i) (mask_of_all_law rs) ∙ (ap (bit (mask (λ r. true) rs)) (sym t.2) ∙ eqb-true _ 1 n))

-- at most one run has a label
pub label_once : {a : ℕ} (rs : List Run) → Ascending a rs → (i : ℕ) → total (λ r. one (eqb r.label i)) rs ≤ 1
unfolding total one
label_once [] l i = omega arith
label_once (r ∷ rs) l i =
    ⊎_elim
    (λ (e : r.label ≡ i). let z = others_none rs (ascending_rest l) i (omega arith) in rw (eq-eqb r.label i e) (omega arith))
    (λ (e : r.label ≢ i). let h = label_once rs (ascending_rest l) i in rw (ne_eqb r.label i e) (omega arith))
    (eq_or_ne r.label i)
  where
    others_none : {b : ℕ} (qs : List Run) → Ascending b qs → (j : ℕ) → j < b → total (λ r. one (eqb r.label j)) qs ≡ 0
    others_none [] m j h = refl
    others_none (q ∷ qs) m j h =
        let f = ascending_first m in
        let n : q.label ≢ j = omega arith in
        let z = others_none qs (ascending_rest m) j (omega arith) in
        rw (ne_eqb q.label j n) (omega arith)

pub mask_all : {a : ℕ} (rs : List Run) → Labelled a rs → mask_of_all rs + 2 ^ a ≡ 2 ^ (a + length rs)
unfolding mask_of_all mask total one
mask_all {a} [] l = let e : a + 0 ≡ a = omega arith in rw e (omega arith)
mask_all {a} (r ∷ rs) l =
    let i = mask_all rs (label_rest l) in
    let e : suc a + length rs ≡ a + suc (length rs) = omega arith in
    let f = ap (λ x. 2 ^ x) (label_first l) in
    omega (arith, ap (λ x. 2 ^ x) e)

pub all_named : (rs : List Run) → Labelled 0 rs → (r : Run) → Memᴰ r rs → names (2 ^ length rs - 1) r ≡ true
all_named rs l r m =
    let a = mask_all rs l in
    let e = ap (λ x. 2 ^ x) (zero-add (length rs)) in
    let f : 2 ^ length rs - 1 ≡ mask_of_all rs = omega arith in
    ap (λ (x : ℕ). names x r) (f ∙ mask_of_all_law rs) ∙ names_mask (λ q. true) rs (ascending l) r m
