-- What the runs that a mask names weigh, and what all runs do: run by run, by those that it leaves out, and as the model has it. Assumes nothing.
use Prim.Native.Nat.{ℕ, zero, suc, ◌+◌, ◌*◌, ◌/◌, ◌%◌, ◌^◌, ◌≤◌, ◌<◌}
use borrow.Author.Tests.{eq-eqb, ne_eqb}
use lib.Bits.{bit_and}
use lib.Count.{ones, ones_step}
use lib.Dec.{eqb}
use lib.ListN.{length, get_or}
use lib.Pow.{shr-shr}
use mathlib.Core.List.{List, [], ◌∷◌}
use mathlib.Core.Logic.{⊎_elim, ◌≢◌}
use mathlib.Core.Path.{◌≡◌, refl, sym, ap, ◌∙◌}
use native.Mathlib.Nat.{zero-mul, one-mul, add-mul, zero-div, div-one, div-eq_of_lt, mul-le-mul}
use native.Mathlib.Omega.{arith}
use Rattle.mask.proofs.Lowest.{cleared_here, cleared_other}
use Rattle.mask.proofs.Mask.{bit_above}
use Rattle.mask.specs.Mask.{Others}
use Rattle.model.proofs.Masks.{Labelled, label_first, label_rest, bit_of, bit_small, and_bit, below_only, only_below}
use Rattle.model.proofs.Tests.{eq_or_ne}
use Rattle.model.specs.Refusals.{sum_of_weights}
use Rattle.model.specs.Runs.{Run, weighted_run, weighted, total, one, weight_of, bit, names, mask_bits}
use Rattle.std.proofs.lemmas.List.Sums.{sum_by-cons}
use Rattle.std.specs.List.{sum}
use Rattle.weights.specs.Named.{weight_from, named_weight, Fewer}

-- ---- the sum of a row

pub sum_is : (s : List ℕ) → sum s ≡ sum_of_weights s
unfolding sum_of_weights
sum_is [] = refl
sum_is (x ∷ s) = let i = sum_is s in omega (arith, sum_by-cons (λ (w : ℕ). w) x s)

-- ---- a mask less a run that it names

module _ (ws : List ℕ) (m r i : ℕ) (h : bit m i ≡ 1) (e : r + 2 ^ i ≡ m) where
  other : (j : ℕ) → j ≢ i → bit r j * get_or ws j 1 ≡ bit m j * get_or ws j 1
  other j n = ap (λ x. x * get_or ws j 1) (cleared_other m r i j h e n)

  -- its weight is gone, where it is one of the n runs from a on
  cleared_after : (a n : ℕ) → i < a → weight_from ws r a n ≡ weight_from ws m a n
  unfolding weight_from
  cleared_after a zero l = refl
  cleared_after a (suc n) l =
      let k : a ≢ i = omega arith in
      let o = other a k in
      let s = cleared_after (suc a) n (omega arith) in
      omega arith

  cleared_from : (a n : ℕ) → a ≤ i → i < a + n → weight_from ws r a n + get_or ws i 1 ≡ weight_from ws m a n
  unfolding weight_from
  cleared_from a zero l k = absurd (omega arith)
  cleared_from a (suc n) l k =
      ⊎_elim
      (λ (q : a ≡ i).
      let z = ap (λ x. x * get_or ws i 1) (cleared_here m r i h e) in
      let o = ap (λ x. x * get_or ws i 1) h in
      let x = zero-mul (get_or ws i 1) in
      let y = one-mul (get_or ws i 1) in
      let s = cleared_after (suc a) n (omega arith) in
      let u = ap (λ j. bit r j * get_or ws j 1) q in
      let v = ap (λ j. bit m j * get_or ws j 1) q in
      omega arith)
      (λ (q : a ≢ i).
      let o = other a q in
      let s = cleared_from (suc a) n (omega arith) (omega arith) in
      omega arith)
      (eq_or_ne a i)

  pub cleared_weight : i < mask_bits → named_weight ws r + get_or ws i 1 ≡ named_weight ws m
  unfolding named_weight
  cleared_weight l = cleared_from 0 mask_bits (omega arith) (omega arith)

-- a weight of the row, whatever stands for one that it has not
pub weight_at : (s : List ℕ) (i : ℕ) → i < length s → get_or s i 1 ≡ get_or s i 0
weight_at [] i h = absurd (omega arith)
weight_at (x ∷ s) zero h = refl
weight_at (x ∷ s) (suc i) h = weight_at s i (omega arith)

pub weights_small : (w : ℕ) → 1 < w → (s : List ℕ) → ((i : ℕ) → get_or s i 0 < w) → (i : ℕ) → get_or s i 1 < w
weights_small w l [] h i = l
weights_small w l (x ∷ s) h zero = h 0
weights_small w l (x ∷ s) h (suc i) = weights_small w l s (λ j. h (suc j)) i

-- no run named, no weight
none_from : (ws : List ℕ) (a n : ℕ) → weight_from ws 0 a n ≡ 0
unfolding weight_from
none_from ws a zero = refl
none_from ws a (suc n) =
    let z = bit_of 0 a ∙ ap (λ (x : ℕ). x % 2) (zero-div (2 ^ a)) in
    let y = ap (λ x. x * get_or ws a 1) z in
    let x = zero-mul (get_or ws a 1) in
    let s = none_from ws (suc a) n in
    omega arith

pub none_named : (ws : List ℕ) → named_weight ws 0 ≡ 0
unfolding named_weight
none_named ws = none_from ws 0 mask_bits

-- what the named runs weigh is below 2 to the power 38, where each weight has 32 bits
most_from : (ws : List ℕ) (m a n : ℕ) → ((i : ℕ) → get_or ws i 1 < 4294967296) → weight_from ws m a n ≤ n * 4294967296
unfolding weight_from
most_from ws m a zero h = omega arith
most_from ws m a (suc n) h =
    let s = most_from ws m (suc a) n h in
    let b = bit_small m a in
    let w = h a in
    let l : bit m a ≤ 1 = omega arith in
    let u : get_or ws a 1 ≤ 4294967296 = omega arith in
    let k = mul-le-mul l u in
    omega arith

pub most_named : (ws : List ℕ) (m : ℕ) → ((i : ℕ) → get_or ws i 1 < 4294967296) → named_weight ws m ≤ 274877906944
unfolding named_weight
most_named ws m h = let s = most_from ws m 0 mask_bits h in omega arith

-- ---- a mask that names only runs of another

-- it names no run from k on, if the other names none
pub only_of : (m c k : ℕ) → c < 2 ^ k → bit_and m c ≡ m → m < 2 ^ k
only_of m c k w e = only_below m k (λ i q. below_only c k i w (and_bit m c i e q))

-- The runs that it names and those that it leaves out are together those of the other, and so is what they weigh.
module _ (c m r : ℕ) (o : Others c m r) where
  others_within : (k : ℕ) → c < 2 ^ k → r < 2 ^ k
  others_within k w =
      only_below r k
      (λ i q.
      let e = o.each i in
      let s = bit_small c i in
      below_only c k i w (omega arith))

  others_from : (ws : List ℕ) (a n : ℕ) → weight_from ws r a n + weight_from ws m a n ≡ weight_from ws c a n
  unfolding weight_from
  others_from ws a zero = refl
  others_from ws a (suc n) =
      let e = sym (add-mul (bit r a) (bit m a) (get_or ws a 1)) ∙ ap (λ x. x * get_or ws a 1) (o.each a) in
      let s = others_from ws (suc a) n in
      omega arith

  others_weight : (ws : List ℕ) → named_weight ws r + named_weight ws m ≡ named_weight ws c
  unfolding named_weight
  others_weight ws = others_from ws 0 mask_bits

-- the same of the mask or what it leaves out
module _ (c m r : ℕ) (f : Fewer m c r) where
  pub fewer_within : (k : ℕ) → bit_and m c ≡ m → c < 2 ^ k → r < 2 ^ k
  fewer_within k e w =
      ⊎_elim
      (λ (q : r ≡ m). rw q (only_of m c k w e))
      (λ (o : Others c m r). others_within c m r o k w)
      f.either

  pub fewer_weight : (ws : List ℕ) → r ≢ m → named_weight ws r + named_weight ws m ≡ named_weight ws c
  fewer_weight ws n =
      ⊎_elim
      (λ (q : r ≡ m). absurd (n q))
      (λ (o : Others c m r). others_weight c m r o ws)
      f.either

-- ---- as the model has it

one_bit : (m i : ℕ) → one (eqb (bit m i) 1) ≡ bit m i
unfolding one
one_bit m i =
    let s = bit_small m i in
    ⊎_elim
    (λ (q : bit m i ≡ 1). rw (eq-eqb (bit m i) 1 q) (omega arith))
    (λ (q : bit m i ≢ 1). rw (ne_eqb (bit m i) 1 q) (omega arith))
    (eq_or_ne (bit m i) 1)

-- past its last run a mask adds nothing
beyond : (ws : List ℕ) (m a n : ℕ) → m < 2 ^ a → weight_from ws m a n ≡ 0
unfolding weight_from
beyond ws m a zero h = refl
beyond ws m a (suc n) h =
    let z = ap (λ x. x * get_or ws a 1) (bit_above m a h) in
    let x = zero-mul (get_or ws a 1) in
    let d : 2 ^ suc a ≡ 2 * 2 ^ a = omega arith in
    let s = beyond ws m (suc a) n (omega arith) in
    omega arith

weighs_from : (ws : List ℕ) (m a n : ℕ) (rs : List Run) → Labelled a rs → length rs ≤ n → m < 2 ^ (a + length rs)
    → weight_of (names m) (weighted ws rs) ≡ weight_from ws m a n
unfolding weight_of weighted weighted_run total names weight_from
weighs_from ws m a n [] l k h =
    let e : a + 0 ≡ a = omega arith in
    let b : m < 2 ^ a = rw e at h in
    sym (beyond ws m a n b)
weighs_from ws m a zero (r ∷ rs) l k h = absurd (omega arith)
weighs_from ws m a (suc n) (r ∷ rs) l k h =
    let e : a + suc (length rs) ≡ suc a + length rs = omega arith in
    let i = weighs_from ws m (suc a) n rs (label_rest l) (omega arith) (rw (← e) h) in
    let b = one_bit m a in
    rw (label_first l, b) (omega arith)

-- What the runs that a mask names weigh, of runs labelled from 0 on.
pub named_weight_law : (ws : List ℕ) (m : ℕ) (rs : List Run) → Labelled 0 rs → length rs ≤ mask_bits → m < 2 ^ length rs
    → weight_of (names m) (weighted ws rs) ≡ named_weight ws m
unfolding named_weight
named_weight_law ws m rs l k h =
    let e : 0 + length rs ≡ length rs = omega arith in
    weighs_from ws m 0 mask_bits rs l k (rw e h)

-- ---- where the row has no weights

pub no_weights : (s : List ℕ) → length s ≡ 0 → s ≡ []
no_weights [] e = refl
no_weights (x ∷ s) e = absurd (omega arith)

-- A mask names as many runs as it has ones, and each weighs 1.
none_given : (m a n : ℕ) → m < 2 ^ (a + n) → weight_from [] m a n ≡ ones (m / 2 ^ a)
unfolding weight_from ones
none_given m a zero h =
    let e : a + 0 ≡ a = omega arith in
    let b : m < 2 ^ a = rw e at h in
    let z : ones 0 ≡ 0 = refl in
    sym (ap ones (div-eq_of_lt b) ∙ z)
none_given m a (suc n) h =
    let e : a + suc n ≡ suc a + n = omega arith in
    let i = none_given m (suc a) n (rw (← e) h) in
    let s = ones_step (m / 2 ^ a) in
    let b = bit_of m a in
    let d : m / 2 ^ a / 2 ≡ m / 2 ^ suc a = shr-shr m a 1 ∙ ap (λ (x : ℕ). m / 2 ^ x) (omega arith) in
    let o = ap ones d in
    omega arith

pub named_none : (m : ℕ) → m < 2 ^ mask_bits → named_weight [] m ≡ ones m
unfolding named_weight
named_none m h = none_given m 0 mask_bits h ∙ ap ones (div-one m)
