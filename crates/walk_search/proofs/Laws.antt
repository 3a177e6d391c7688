-- One turn of each loop, with the probes made before it, and the two parts of a search put together. Assumes nothing.
use Rattle.std.specs.Prelude.{Result, Ok, Err}
use Prim.Native.Nat.{ℕ, zero, suc, ◌+◌, ◌-◌, ◌*◌, ◌/◌, ◌≤◌, ◌<◌}
use lib.ListN.{length, get_or}
use mathlib.Core.List.{List}
use mathlib.Core.Logic.{⊎_elim}
use mathlib.Core.Path.{◌≡◌, ap, ◌∙◌}
use native.Mathlib.Omega.{arith}
use Rattle.model.specs.Walk.{Bracket, doubling, Halving, halving, seek}
use Rattle.model.proofs.Searching.{double_end, double_stop, double_on, double_fuel, double_inside, double_order, halve_end, halve_up, halve_down, halve_fuel}
use Rattle.model.proofs.Tests.{lt_or_le}
use Rattle.walk_search.specs.Limited.{Doubles, Halves, Seeks}
use Rattle.walk_search.specs.declared.Bracket as code
use Rattle.walk_search.specs.declared.Found.{Found}
use Rattle.walk_search.specs.declared.Spent.{Spent}

-- ---- doubling

-- a bracket after k more probes
unfoldable pub more_b : ℕ → Bracket → Bracket
more_b k b = record { probes = k + b.probes; lo = b.lo; hi = b.hi }

pub no_more : (b : Bracket) → b ≡ more_b 0 b
unfolding more_b
no_more b = let e : b.probes ≡ 0 + b.probes = omega arith in λ i. record { probes = e i; lo = b.lo; hi = b.hi }

-- a doubling with fuel enough has at least one probe while its place is below the length
some_probe : (n v : ℕ) (s : List ℕ) (lo place : ℕ) → place < length s → length s ≤ place + n → 0 < (doubling n v s lo place).probes
some_probe zero v s lo place h k = absurd (omega arith)
some_probe (suc n) v s lo place h k =
    ⊎_elim
    (λ (o : get_or s place 0 < v). rw (double_on n v s lo place h o) (omega arith))
    (λ (o : v ≤ get_or s place 0). rw (double_stop n v s lo place h o) (omega arith))
    (lt_or_le (get_or s place 0) v)

pub double_due : (k v : ℕ) (s : List ℕ) (lo place : ℕ) → place < length s → k < (more_b k (doubling (length s) v s lo place)).probes
unfolding more_b
double_due k v s lo place h = let p = some_probe (length s) v s lo place h (omega arith) in omega arith

stop_with : (n v : ℕ) (s : List ℕ) (lo place : ℕ) → place < length s → v ≤ get_or s place 0 → 0 < n
    → doubling n v s lo place ≡ record { probes = 1; lo = lo; hi = place }
stop_with zero v s lo place h o p = absurd (omega arith)
stop_with (suc n) v s lo place h o p = double_stop n v s lo place h o

pub double_found : (k v : ℕ) (s : List ℕ) (lo place : ℕ) → place < length s → v ≤ get_or s place 0
    → more_b k (doubling (length s) v s lo place) ≡ record { probes = k + 1; lo = lo; hi = place }
unfolding more_b
double_found k v s lo place h o = ap (more_b k) (stop_with (length s) v s lo place h o (omega arith))

double_turn : (n v : ℕ) (s : List ℕ) (lo place : ℕ) → 0 < place → place < length s → get_or s place 0 < v → length s ≤ place + n
    → doubling n v s lo place ≡ more_b 1 (doubling n v s place (2 * place))
unfolding more_b
double_turn zero v s lo place p h o k = absurd (omega arith)
double_turn (suc n) v s lo place p h o k =
    let b = doubling n v s place (2 * place) in
    let e : suc b.probes ≡ 1 + b.probes = omega arith in
    double_on n v s lo place h o
    ∙ ((λ i. record { probes = e i; lo = b.lo; hi = b.hi })
    ∙ ap (more_b 1) (double_fuel n (suc n) v s place (2 * place) (omega arith) (omega arith) (omega arith)))

pub double_next : (k v : ℕ) (s : List ℕ) (lo place : ℕ) → 0 < place → place < length s → get_or s place 0 < v
    → more_b k (doubling (length s) v s lo place) ≡ more_b (k + 1) (doubling (length s) v s place (2 * place))
unfolding more_b
double_next k v s lo place p h o =
    let b = doubling (length s) v s place (2 * place) in
    let e : k + (1 + b.probes) ≡ k + 1 + b.probes = omega arith in
    ap (more_b k) (double_turn (length s) v s lo place p h o (omega arith)) ∙ λ i. record { probes = e i; lo = b.lo; hi = b.hi }

pub double_past : (k v : ℕ) (s : List ℕ) (lo place : ℕ) → length s ≤ place
    → more_b k (doubling (length s) v s lo place) ≡ record { probes = k + 0; lo = lo; hi = length s }
unfolding more_b
double_past k v s lo place h = ap (more_b k) (double_end (length s) v s lo place h)

-- ---- halving

unfoldable pub more_h : ℕ → Halving → Halving
more_h k h = record { probes = k + h.probes; place = h.place }

pub no_more_h : (h : Halving) → h ≡ more_h 0 h
unfolding more_h
no_more_h h = let e : h.probes ≡ 0 + h.probes = omega arith in λ i. record { probes = e i; place = h.place }

some_half : (n v : ℕ) (s : List ℕ) (lo hi : ℕ) → 1 < hi - lo → hi ≤ lo + suc n → 0 < (halving n v s lo hi).probes
some_half zero v s lo hi h k = absurd (omega arith)
some_half (suc n) v s lo hi h k =
    ⊎_elim
    (λ (o : get_or s (lo + (hi - lo) / 2) 0 < v). rw (halve_up n v s lo hi h o) (omega arith))
    (λ (o : v ≤ get_or s (lo + (hi - lo) / 2) 0). rw (halve_down n v s lo hi h o) (omega arith))
    (lt_or_le (get_or s (lo + (hi - lo) / 2) 0) v)

pub halve_due : (k v : ℕ) (s : List ℕ) (lo hi : ℕ) → 1 < hi - lo → hi ≤ length s → k < (more_h k (halving (length s) v s lo hi)).probes
unfolding more_h
halve_due k v s lo hi h l = let p = some_half (length s) v s lo hi h (omega arith) in omega arith

one_more_h : (k n v : ℕ) (s : List ℕ) (lo hi a b : ℕ) → halving (suc n) v s lo hi ≡ (let h = halving n v s a b in record { probes = suc h.probes; place = h.place })
    → b ≤ a + suc n → more_h k (halving (suc n) v s lo hi) ≡ more_h (k + 1) (halving (suc n) v s a b)
unfolding more_h
one_more_h k n v s lo hi a b e l =
    let h = halving n v s a b in
    let i : k + suc h.probes ≡ k + 1 + h.probes = omega arith in
    ap (more_h k) e ∙ ((λ j. record { probes = i j; place = h.place }) ∙ ap (more_h (k + 1)) (halve_fuel n (suc n) v s a b l (omega arith)))

halve_turn_up : (n k v : ℕ) (s : List ℕ) (lo hi : ℕ) → 1 < hi - lo → hi ≤ n → get_or s (lo + (hi - lo) / 2) 0 < v
    → more_h k (halving n v s lo hi) ≡ more_h (k + 1) (halving n v s (lo + (hi - lo) / 2) hi)
halve_turn_up zero k v s lo hi h l o = absurd (omega arith)
halve_turn_up (suc n) k v s lo hi h l o = one_more_h k n v s lo hi (lo + (hi - lo) / 2) hi (halve_up n v s lo hi h o) (omega arith)

halve_turn_down : (n k v : ℕ) (s : List ℕ) (lo hi : ℕ) → 1 < hi - lo → hi ≤ n → v ≤ get_or s (lo + (hi - lo) / 2) 0
    → more_h k (halving n v s lo hi) ≡ more_h (k + 1) (halving n v s lo (lo + (hi - lo) / 2))
halve_turn_down zero k v s lo hi h l o = absurd (omega arith)
halve_turn_down (suc n) k v s lo hi h l o = one_more_h k n v s lo hi lo (lo + (hi - lo) / 2) (halve_down n v s lo hi h o) (omega arith)

pub halve_next_up : (k v : ℕ) (s : List ℕ) (lo hi half : ℕ) → half ≡ (hi - lo) / 2 → 1 < hi - lo → hi ≤ length s → get_or s (lo + half) 0 < v
    → more_h k (halving (length s) v s lo hi) ≡ more_h (k + 1) (halving (length s) v s (lo + half) hi)
halve_next_up k v s lo hi half e h l o = rw e (halve_turn_up (length s) k v s lo hi h l (rw (← e) o))

pub halve_next_down : (k v : ℕ) (s : List ℕ) (lo hi half : ℕ) → half ≡ (hi - lo) / 2 → 1 < hi - lo → hi ≤ length s → v ≤ get_or s (lo + half) 0
    → more_h k (halving (length s) v s lo hi) ≡ more_h (k + 1) (halving (length s) v s lo (lo + half))
halve_next_down k v s lo hi half e h l o = rw e (halve_turn_down (length s) k v s lo hi h l (rw (← e) o))

pub halve_done : (k v : ℕ) (s : List ℕ) (lo hi : ℕ) → hi - lo ≤ 1 → more_h k (halving (length s) v s lo hi) ≡ record { probes = k + 0; place = hi }
unfolding more_h
halve_done k v s lo hi h = ap (more_h k) (halve_end (length s) v s lo hi h)

-- ---- a whole search

module _ (tally v : ℕ) (s : List ℕ) where
  abbrev pub doubles : Bracket
  doubles = doubling (length s) v s 0 1

  -- the probes run out in the doubling
  pub spent_doubling : (e : Spent) → Doubles tally doubles (Err e) → Seeks tally (seek v s) (Err e)
  unfolding seek
  spent_doubling e d = (omega (arith, d.0), d.1, omega (arith, d.0, d.2))

  module _ (b : code.Bracket) (d : Doubles tally doubles (Ok b)) where
    pub doubled_inside : (b.lo ≤ b.hi) × (b.hi ≤ length s)
    doubled_inside =
        let i = double_order (length s) v s 0 1 (omega arith) (omega arith) in
        let j = double_inside (length s) v s 0 1 in
        (omega (arith, d.0, d.1), omega (arith, d.1))

    -- the halving is the search's
    halved_there : halving (length s) v s b.lo b.hi ≡ halving (length s) v s doubles.lo doubles.hi
    halved_there i = halving (length s) v s (d.0 i) (d.1 i)

    pub searched : (r : Result Found Spent) → Halves b.tally (halving (length s) v s b.lo b.hi) r → Seeks tally (seek v s) r
    unfolding seek
    searched (Ok r) h =
        let e = ap (λ (x : Halving). x.probes) halved_there in
        (h.0 ∙ ap (λ (x : Halving). x.place) halved_there, omega (arith, d.2, h.1), omega (arith, d.3, h.2))
    searched (Err e) h =
        let q = ap (λ (x : Halving). x.probes) halved_there in
        (omega (arith, d.2, h.0), h.1, omega (arith, d.2, d.3, h.2))
