-- The search (docs/SPECIFICATION.md, 'The search') in a rising list whose head is below v: it moves to the rank of v, by at most `digits` doubling
-- probes and fewer halving probes. Doubling keeps lo at half of the next place, a power of 2; halving keeps the rank between lo and hi. Assumes nothing.
use Prim.Native.Nat.{ℕ, zero, suc, ◌+◌, ◌-◌, ◌*◌, ◌/◌, ◌^◌, ◌≤◌, ◌<◌}
use borrow.Author.Tests.{lt-ltb, le-ltb}
use lib.ListN.{length, get_or, drop}
use lib.Pow.{pow_pos}
use mathlib.Core.List.{List, ◌∷◌}
use mathlib.Core.Logic.{⊎_elim}
use mathlib.Core.Path.{◌≡◌, refl, sym, ap, ◌∙◌}
use native.Mathlib.Omega.{arith}
use Rattle.model.specs.Compared.{digits}
use Rattle.model.specs.Runs.{from, rank}
use Rattle.model.specs.Walk.{doubling, Bracket, halving, Halving, seek}
use Rattle.model.proofs.Digits.{below_digits}
use Rattle.model.specs.Rows.{Rise}
use Rattle.model.proofs.From.{rank_le, drop_rank, rank_pass}
use Rattle.model.proofs.Ordered.{rise_ordered, place_low, place_high}
use Rattle.model.proofs.Tests.{lt_or_le}

-- the step equations of doubling
pub double_end : (n v : ℕ) (s : List ℕ) (lo place : ℕ) → length s ≤ place
    → doubling n v s lo place ≡ record { probes = 0; lo = lo; hi = length s }
unfolding doubling
double_end zero v s lo place h = refl
double_end (suc n) v s lo place h = rw (le-ltb place (length s) h, doubling)

pub double_stop : (n v : ℕ) (s : List ℕ) (lo place : ℕ) → place < length s → v ≤ get_or s place 0
    → doubling (suc n) v s lo place ≡ record { probes = 1; lo = lo; hi = place }
unfolding doubling
double_stop n v s lo place h l = rw (lt-ltb place (length s) h, le-ltb (get_or s place 0) v l, doubling)

pub double_on : (n v : ℕ) (s : List ℕ) (lo place : ℕ) → place < length s → get_or s place 0 < v
    → doubling (suc n) v s lo place
    ≡ (let b = doubling n v s place (2 * place) in record { probes = suc b.probes; lo = b.lo; hi = b.hi })
unfolding doubling
double_on n v s lo place h l = rw (lt-ltb place (length s) h, lt-ltb (get_or s place 0) v l, doubling)

-- and of halving
pub halve_end : (n v : ℕ) (s : List ℕ) (lo hi : ℕ) → hi - lo ≤ 1 → halving n v s lo hi ≡ record { probes = 0; place = hi }
unfolding halving
halve_end zero v s lo hi h = refl
halve_end (suc n) v s lo hi h = rw (le-ltb 1 (hi - lo) h, halving)

pub halve_up : (n v : ℕ) (s : List ℕ) (lo hi : ℕ) → 1 < hi - lo → get_or s (lo + (hi - lo) / 2) 0 < v
    → halving (suc n) v s lo hi
    ≡ (let h = halving n v s (lo + (hi - lo) / 2) hi in record { probes = suc h.probes; place = h.place })
unfolding halving
halve_up n v s lo hi h l = rw (lt-ltb 1 (hi - lo) h, lt-ltb (get_or s (lo + (hi - lo) / 2) 0) v l, halving)

pub halve_down : (n v : ℕ) (s : List ℕ) (lo hi : ℕ) → 1 < hi - lo → v ≤ get_or s (lo + (hi - lo) / 2) 0
    → halving (suc n) v s lo hi
    ≡ (let h = halving n v s lo (lo + (hi - lo) / 2) in record { probes = suc h.probes; place = h.place })
unfolding halving
halve_down n v s lo hi h l = rw (lt-ltb 1 (hi - lo) h, le-ltb (get_or s (lo + (hi - lo) / 2) 0) v l, halving)

-- What a doubling from place 2 ^ j on finds, after j probes.
pub record Bracketed (v : ℕ) (s : List ℕ) (j : ℕ) (b : Bracket) : Type 0 where
  pub low : b.lo < rank v s
  pub high : rank v s ≤ b.hi
  pub inside : b.hi ≤ length s
  pub width : b.hi - b.lo ≤ 2 ^ (j + b.probes - 1)
  pub reached : 0 < b.probes → 2 ^ (j + b.probes - 1) < length s

half_pow : (j : ℕ) → 2 ^ j ≤ 2 ^ j / 2 + 2 ^ (j - 1)
half_pow zero = omega arith
half_pow (suc j) = let e : suc j - 1 ≡ j = omega arith in rw e (omega arith)

ended : (v : ℕ) (s : List ℕ) (j lo place : ℕ) → place ≡ 2 ^ j → lo ≡ place / 2 → lo < rank v s → length s ≤ place
    → Bracketed v s j (record { probes = 0; lo = lo; hi = length s })
ended v s j lo place e f l n =
    let i : j + 0 - 1 ≡ j - 1 = omega arith in
    let w = half_pow j in
    let g : lo ≡ 2 ^ j / 2 = f ∙ ap (λ (x : ℕ). x / 2) e in
    record {
      low = l;
      high = rank_le v s;
      inside = omega arith;
      width = rw i (omega arith);
      reached = λ q. absurd (omega arith);
    }

stopped : (v : ℕ) (s : List ℕ) (j lo place : ℕ) → place ≡ 2 ^ j → lo < rank v s → place < length s → v ≤ get_or s place 0
    → Bracketed v s j (record { probes = 1; lo = lo; hi = place })
stopped v s j lo place e l n h =
    let i : j + 1 - 1 ≡ j = omega arith in
    record {
      low = l;
      high = place_high v s place h;
      inside = omega arith;
      width = rw i (omega arith);
      reached = λ q. rw i (omega arith);
    }

went_on : (v : ℕ) (s : List ℕ) (j place : ℕ) (b : Bracket) → place ≡ 2 ^ j → place < length s → Bracketed v s (suc j) b
    → Bracketed v s j (record { probes = suc b.probes; lo = b.lo; hi = b.hi })
went_on v s j place b e n k =
    let i : j + suc b.probes - 1 ≡ suc j + b.probes - 1 = omega arith in
    record {
      low = k.low;
      high = k.high;
      inside = k.inside;
      width = rw i k.width;
      reached = λ q. rw i (far b.probes k.reached);
    }
  where
    far : (p : ℕ) → (0 < p → 2 ^ (suc j + p - 1) < length s) → 2 ^ (suc j + p - 1) < length s
    far zero h = let i : suc j + 0 - 1 ≡ j = omega arith in rw i (omega arith)
    far (suc p) h = h (omega arith)

bracket : (fuel v : ℕ) {a : ℕ} (s : List ℕ) → Rise a s → (j lo place : ℕ) → place ≡ 2 ^ j → lo ≡ place / 2 → lo < rank v s
    → length s ≤ place + fuel → Bracketed v s j (doubling fuel v s lo place)
bracket zero v s r j lo place e f l n =
    let h : length s ≤ place = omega arith in rw (double_end zero v s lo place h) (ended v s j lo place e f l h)
bracket (suc fuel) v s r j lo place e f l n =
    ⊎_elim
    (λ (h : place < length s).
    ⊎_elim
    (λ (q : get_or s place 0 < v).
    let c = pow_pos j in
    rw (double_on fuel v s lo place h q)
    (went_on v s j place _ e h
    (bracket fuel v s r (suc j) place (2 * place) (omega arith) (omega arith) (place_low v s (rise_ordered r) place h q) (omega arith))))
    (λ (q : v ≤ get_or s place 0). rw (double_stop fuel v s lo place h q) (stopped v s j lo place e l h q))
    (lt_or_le (get_or s place 0) v))
    (λ (h : length s ≤ place). rw (double_end (suc fuel) v s lo place h) (ended v s j lo place e f l h))
    (lt_or_le place (length s))

-- What a halving between lo and hi finds: the rank, by at most j probes where the width is at most 2 ^ j.
pub record Located (v : ℕ) (s : List ℕ) (j : ℕ) (h : Halving) : Type 0 where
  pub found : h.place ≡ rank v s
  pub few : h.probes ≤ j

locate : (fuel v : ℕ) {a : ℕ} (s : List ℕ) → Rise a s → (j lo hi : ℕ) → lo < rank v s → rank v s ≤ hi → hi ≤ length s → hi - lo ≤ 2 ^ j
    → hi ≤ lo + suc fuel → Located v s j (halving fuel v s lo hi)
locate zero v s r j lo hi l h n w m =
    let q : hi - lo ≤ 1 = omega arith in rw (halve_end zero v s lo hi q) (record { found = omega arith; few = omega arith })
locate (suc fuel) v s r zero lo hi l h n w m =
    let q : hi - lo ≤ 1 = omega arith in rw (halve_end (suc fuel) v s lo hi q) (record { found = omega arith; few = omega arith })
locate (suc fuel) v s r (suc j) lo hi l h n w m =
    ⊎_elim
    (λ (q : 1 < hi - lo).
    let i : lo + (hi - lo) / 2 < length s = omega arith in
    ⊎_elim
    (λ (u : get_or s (lo + (hi - lo) / 2) 0 < v).
    let k = locate fuel v s r j (lo + (hi - lo) / 2) hi (place_low v s (rise_ordered r) _ i u) h n (omega arith) (omega arith) in
    rw (halve_up fuel v s lo hi q u) (record { found = k.found; few = omega arith }))
    (λ (u : v ≤ get_or s (lo + (hi - lo) / 2) 0).
    let k = locate fuel v s r j lo (lo + (hi - lo) / 2) l (place_high v s _ u) (omega arith) (omega arith) (omega arith) in
    rw (halve_down fuel v s lo hi q u) (record { found = k.found; few = omega arith }))
    (lt_or_le (get_or s (lo + (hi - lo) / 2) 0) v))
    (λ (q : hi - lo ≤ 1). rw (halve_end (suc fuel) v s lo hi q) (record { found = omega arith; few = omega arith }))
    (lt_or_le 1 (hi - lo))

-- The search of a rising list whose head is below v.
pub record Sought (v : ℕ) (s : List ℕ) : Type 0 where
  pub moved : drop (seek v s).place s ≡ from v s
  pub placed : (seek v s).place ≡ rank v s
  pub doublings : (seek v s).doublings ≤ digits (length s)
  pub halvings : (seek v s).halvings ≤ (seek v s).doublings - 1

pub sought_right : (v : ℕ) {a : ℕ} (x : ℕ) (s : List ℕ) → Rise a (x ∷ s) → x < v → Sought v (x ∷ s)
unfolding seek
sought_right v x s r h =
    let xs : List ℕ = x ∷ s in
    let first : 0 < rank v xs = rw (rank_pass v x s h) (omega arith) in
    let b = bracket (length xs) v xs r 0 0 1 refl refl first (omega arith) in
    let k = locate (length xs) v xs r (0 + (doubling (length xs) v xs 0 1).probes - 1) (doubling (length xs) v xs 0 1).lo (doubling (length xs) v xs 0 1).hi
    b.low b.high b.inside b.width (omega (arith, b.inside)) in
    record {
      moved = rw k.found (drop_rank v xs);
      placed = k.found;
      doublings = within_digits (doubling (length xs) v xs 0 1).probes b.reached;
      halvings = omega (arith, k.few);
    }
  where
    within_digits : (p : ℕ) → (0 < p → 2 ^ (0 + p - 1) < length (x ∷ s)) → p ≤ digits (length (x ∷ s))
    within_digits zero g = omega arith
    within_digits (suc p) g =
        let i : 0 + suc p - 1 ≡ p = omega arith in
        below_digits p (length (x ∷ s)) (omega (arith, rw i at (g (omega arith))))

-- ---- any fuel that is enough gives the same

pub double_fuel : (n m v : ℕ) (s : List ℕ) (lo place : ℕ) → 0 < place → length s ≤ place + n → length s ≤ place + m
    → doubling n v s lo place ≡ doubling m v s lo place
double_fuel zero m v s lo place p h k =
    let q : length s ≤ place = omega arith in double_end zero v s lo place q ∙ sym (double_end m v s lo place q)
double_fuel (suc n) zero v s lo place p h k =
    let q : length s ≤ place = omega arith in double_end (suc n) v s lo place q ∙ sym (double_end zero v s lo place q)
double_fuel (suc n) (suc m) v s lo place p h k =
    ⊎_elim
    (λ (q : place < length s).
    ⊎_elim
    (λ (o : get_or s place 0 < v).
    double_on n v s lo place q o
    ∙ (ap (λ (b : Bracket). record { probes = suc b.probes; lo = b.lo; hi = b.hi })
    (double_fuel n m v s place (2 * place) (omega arith) (omega arith) (omega arith))
    ∙ sym (double_on m v s lo place q o)))
    (λ (o : v ≤ get_or s place 0). double_stop n v s lo place q o ∙ sym (double_stop m v s lo place q o))
    (lt_or_le (get_or s place 0) v))
    (λ (q : length s ≤ place). double_end (suc n) v s lo place q ∙ sym (double_end (suc m) v s lo place q))
    (lt_or_le place (length s))

pub halve_fuel : (n m v : ℕ) (s : List ℕ) (lo hi : ℕ) → hi ≤ lo + suc n → hi ≤ lo + suc m → halving n v s lo hi ≡ halving m v s lo hi
halve_fuel zero m v s lo hi h k =
    let q : hi - lo ≤ 1 = omega arith in halve_end zero v s lo hi q ∙ sym (halve_end m v s lo hi q)
halve_fuel (suc n) zero v s lo hi h k =
    let q : hi - lo ≤ 1 = omega arith in halve_end (suc n) v s lo hi q ∙ sym (halve_end zero v s lo hi q)
halve_fuel (suc n) (suc m) v s lo hi h k =
    ⊎_elim
    (λ (q : 1 < hi - lo).
    ⊎_elim
    (λ (o : get_or s (lo + (hi - lo) / 2) 0 < v).
    halve_up n v s lo hi q o
    ∙ (ap (λ (b : Halving). record { probes = suc b.probes; place = b.place })
    (halve_fuel n m v s (lo + (hi - lo) / 2) hi (omega arith) (omega arith))
    ∙ sym (halve_up m v s lo hi q o)))
    (λ (o : v ≤ get_or s (lo + (hi - lo) / 2) 0).
    halve_down n v s lo hi q o
    ∙ (ap (λ (b : Halving). record { probes = suc b.probes; place = b.place })
    (halve_fuel n m v s lo (lo + (hi - lo) / 2) (omega arith) (omega arith))
    ∙ sym (halve_down m v s lo hi q o)))
    (lt_or_le (get_or s (lo + (hi - lo) / 2) 0) v))
    (λ (q : hi - lo ≤ 1). halve_end (suc n) v s lo hi q ∙ sym (halve_end (suc m) v s lo hi q))
    (lt_or_le 1 (hi - lo))

-- the bracket lies in the list
pub double_inside : (n v : ℕ) (s : List ℕ) (lo place : ℕ) → (doubling n v s lo place).hi ≤ length s
unfolding doubling
double_inside zero v s lo place = omega arith
double_inside (suc n) v s lo place =
    ⊎_elim
    (λ (q : place < length s).
    ⊎_elim
    (λ (o : get_or s place 0 < v). rw (double_on n v s lo place q o) (double_inside n v s place (2 * place)))
    (λ (o : v ≤ get_or s place 0). rw (double_stop n v s lo place q o) (omega arith))
    (lt_or_le (get_or s place 0) v))
    (λ (q : length s ≤ place). rw (double_end (suc n) v s lo place q) (omega arith))
    (lt_or_le place (length s))

pub double_order : (n v : ℕ) (s : List ℕ) (lo place : ℕ) → lo ≤ place → lo ≤ length s → (doubling n v s lo place).lo ≤ (doubling n v s lo place).hi
unfolding doubling
double_order zero v s lo place h k = k
double_order (suc n) v s lo place h k =
    ⊎_elim
    (λ (q : place < length s).
    ⊎_elim
    (λ (o : get_or s place 0 < v). rw (double_on n v s lo place q o) (double_order n v s place (2 * place) (omega arith) (omega arith)))
    (λ (o : v ≤ get_or s place 0). rw (double_stop n v s lo place q o) h)
    (lt_or_le (get_or s place 0) v))
    (λ (q : length s ≤ place). rw (double_end (suc n) v s lo place q) k)
    (lt_or_le place (length s))

-- the new position lies in the list
halve_inside : (n v : ℕ) (s : List ℕ) (lo hi : ℕ) → lo ≤ hi → (halving n v s lo hi).place ≤ hi
unfolding halving
halve_inside zero v s lo hi h = omega arith
halve_inside (suc n) v s lo hi h =
    ⊎_elim
    (λ (q : 1 < hi - lo).
    ⊎_elim
    (λ (o : get_or s (lo + (hi - lo) / 2) 0 < v). rw (halve_up n v s lo hi q o) (halve_inside n v s (lo + (hi - lo) / 2) hi (omega arith)))
    (λ (o : v ≤ get_or s (lo + (hi - lo) / 2) 0).
    let i = halve_inside n v s lo (lo + (hi - lo) / 2) (omega arith) in rw (halve_down n v s lo hi q o) (omega arith))
    (lt_or_le (get_or s (lo + (hi - lo) / 2) 0) v))
    (λ (q : hi - lo ≤ 1). rw (halve_end (suc n) v s lo hi q) (omega arith))
    (lt_or_le 1 (hi - lo))

pub seek_inside : (v : ℕ) (s : List ℕ) → (seek v s).place ≤ length s
unfolding seek
seek_inside v s =
    let i = double_inside (length s) v s 0 1 in
    let o = double_order (length s) v s 0 1 (omega arith) (omega arith) in
    let h = halve_inside (length s) v s (doubling (length s) v s 0 1).lo (doubling (length s) v s 0 1).hi o in
    omega arith
