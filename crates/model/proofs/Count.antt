-- Sums over the runs and what they weigh: when two are equal, when one is at most another, when two tests share no run. Assumes nothing.
use Prim.Native.Nat.{ℕ, ◌+◌, ◌*◌, ◌≤◌, ◌<◌}
use mathlib.Core.Bool.{Bool, true, false, not}
use mathlib.Core.List.{List, [], ◌∷◌, map, Memᴰ}
use mathlib.Core.Logic.{⊎_elim}
use mathlib.Core.Path.{◌≡◌, refl, sym, ap, ◌∙◌}
use native.Mathlib.Nat.{add-mul, one-mul, zero-mul, mul-le-mul_right}
use native.Mathlib.Omega.{arith}
use Rattle.model.specs.Runs.{Run, total, one, weight_of, weight_of_all}

pub total_nil : (g : Run → ℕ) → total g [] ≡ 0
unfolding total
total_nil g = refl

pub total_le : (g h : Run → ℕ) (rs : List Run) → ((r : Run) → Memᴰ r rs → g r ≤ h r) → total g rs ≤ total h rs
unfolding total
total_le g h [] e = omega arith
total_le g h (r ∷ rs) e =
    let i = total_le g h rs (λ q m. e q (mathlib.Core.List.Memᴰ.tail m)) in
    let j = e r (mathlib.Core.List.Memᴰ.head refl) in
    omega arith

pub total_eq : (g h : Run → ℕ) (rs : List Run) → ((r : Run) → Memᴰ r rs → g r ≡ h r) → total g rs ≡ total h rs
unfolding total
total_eq g h [] e = refl
total_eq g h (r ∷ rs) e =
    let i = total_eq g h rs (λ q m. e q (mathlib.Core.List.Memᴰ.tail m)) in
    let j = e r (mathlib.Core.List.Memᴰ.head refl) in
    omega arith

pub total_add : (g h : Run → ℕ) (rs : List Run) → total (λ r. g r + h r) rs ≡ total g rs + total h rs
unfolding total
total_add g h [] = refl
total_add g h (r ∷ rs) = let i = total_add g h rs in omega arith

pub total_times : (g : Run → ℕ) (n : ℕ) (rs : List Run) → total (λ r. g r * n) rs ≡ total g rs * n
unfolding total
total_times g n [] = omega arith
total_times g n (r ∷ rs) = let i = total_times g n rs in let d = add-mul (g r) (total g rs) n in omega arith

pub total_map : (g : Run → ℕ) (f : Run → Run) (rs : List Run) → total g (map f rs) ≡ total (λ r. g (f r)) rs
unfolding total
total_map g f [] = refl
total_map g f (r ∷ rs) = let i = total_map g f rs in omega arith

pub total_zero : (g : Run → ℕ) (rs : List Run) → ((r : Run) → Memᴰ r rs → g r ≡ 0) → total g rs ≡ 0
unfolding total
total_zero g [] e = refl
total_zero g (r ∷ rs) e =
    let i = total_zero g rs (λ q m. e q (mathlib.Core.List.Memᴰ.tail m)) in
    let j = e r (mathlib.Core.List.Memᴰ.head refl) in
    omega arith

-- where none adds more and one run adds less, the sum is less
pub total_less : (g h : Run → ℕ) (rs : List Run) → ((r : Run) → Memᴰ r rs → g r ≤ h r) → (r : Run) → Memᴰ r rs → g r < h r → total g rs < total h rs
unfolding total
total_less g h [] e r m l = absurd (mathlib.Core.List.Memᴰ.not-nil m)
total_less g h (s ∷ rs) e r m l =
    let i = e s (mathlib.Core.List.Memᴰ.head refl) in
    ⊎_elim
    (λ (q : r ≡ s).
    let a = ap g q in
    let b = ap h q in
    let j = total_le g h rs (λ q n. e q (mathlib.Core.List.Memᴰ.tail n)) in
    omega arith)
    (λ (n : Memᴰ r rs). let j = total_less g h rs (λ q k. e q (mathlib.Core.List.Memᴰ.tail k)) r n l in omega arith)
    (mathlib.Core.List.Memᴰ.cases_cons m)

-- ---- what the runs that pass a test weigh

pub weight_eq : (p q : Run → Bool) (rs : List Run) → ((r : Run) → Memᴰ r rs → p r ≡ q r) → weight_of p rs ≡ weight_of q rs
unfolding weight_of
weight_eq p q rs e = total_eq _ _ rs (λ r m. ap (λ b. one b * r.weight) (e r m))

-- what moves runs and keeps their weights
pub weight_map : (p : Run → Bool) (f : Run → Run) (rs : List Run) → ((r : Run) → (f r).weight ≡ r.weight) → weight_of p (map f rs) ≡ weight_of (λ r. p (f r)) rs
unfolding weight_of
weight_map p f rs h = total_map _ f rs ∙ total_eq _ _ rs (λ r m. ap (λ w. one (p (f r)) * w) (h r))

one_le : (a b : Bool) → (a ≡ true → b ≡ true) → one a ≤ one b
unfolding one
one_le true b h = rw (h refl) (omega arith)
one_le false b h = omega arith

-- where one test implies another
pub weight_le : (p q : Run → Bool) (rs : List Run) → ((r : Run) → Memᴰ r rs → p r ≡ true → q r ≡ true) → weight_of p rs ≤ weight_of q rs
unfolding weight_of
weight_le p q rs h = total_le _ _ rs (λ r m. mul-le-mul_right r.weight (one_le (p r) (q r) (h r m)))

-- a sum of two tests, for each run
weight_add : (p q : Run → Bool) (rs : List Run) → weight_of p rs + weight_of q rs ≡ total (λ r. (one (p r) + one (q r)) * r.weight) rs
unfolding weight_of
weight_add p q rs =
    sym (total_add (λ r. one (p r) * r.weight) (λ r. one (q r) * r.weight) rs)
    ∙ total_eq _ _ rs (λ r m. sym (add-mul (one (p r)) (one (q r)) r.weight))

one_sum : (a b : Bool) → (a ≡ true → b ≡ false) → one a + one b ≤ 1
unfolding one
one_sum true b h = rw (h refl) (omega arith)
one_sum false true h = omega arith
one_sum false false h = omega arith

-- two tests that no run passes both of
pub weight_disjoint : (p q : Run → Bool) (rs : List Run) → ((r : Run) → Memᴰ r rs → p r ≡ true → q r ≡ false)
    → weight_of p rs + weight_of q rs ≤ weight_of_all rs
unfolding weight_of_all
weight_disjoint p q rs h =
    let a = weight_add p q rs in
    let l = total_le (λ r. (one (p r) + one (q r)) * r.weight) (λ r. r.weight) rs
    (λ r m. let k = mul-le-mul_right r.weight (one_sum (p r) (q r) (h r m)) in omega (arith, one-mul r.weight)) in
    omega arith

one_not : (a b : Bool) → b ≡ not a → one a + one b ≡ 1
unfolding one
one_not true b h = rw h
one_not false b h = rw h

-- a test and its negation
pub weight_not : (p q : Run → Bool) (rs : List Run) → ((r : Run) → Memᴰ r rs → q r ≡ not (p r)) → weight_of p rs + weight_of q rs ≡ weight_of_all rs
unfolding weight_of_all
weight_not p q rs h =
    weight_add p q rs ∙ total_eq _ _ rs (λ r m. ap (λ n. n * r.weight) (one_not (p r) (q r) (h r m)) ∙ one-mul r.weight)

-- a weight that is more than another has a run that passes the one test and not the other
pub weight_witness : (p q : Run → Bool) (rs : List Run) → weight_of p rs < weight_of q rs → (r : Run) × Memᴰ r rs × (q r ≡ true) × (p r ≡ false)
unfolding weight_of total one
weight_witness p q [] h = absurd (omega arith)
weight_witness p q (r ∷ rs) h = go (λ l. let t = weight_witness p q rs l in (t.0, mathlib.Core.List.Memᴰ.tail t.1, t.2, t.3)) (p r) (q r) refl refl
  where
    Found : Type 0
    Found = (s : Run) × Memᴰ s (r ∷ rs) × (q s ≡ true) × (p s ≡ false)

    go : (weight_of p rs < weight_of q rs → Found) → (a b : Bool) → p r ≡ a → q r ≡ b → Found
    go further false true e f = (r, mathlib.Core.List.Memᴰ.head refl, f, e)
    go further true true e f = further (let l = rw (e, f) at h in omega arith)
    go further true false e f = further (let l = rw (e, f) at h in let z = zero-mul r.weight in omega arith)
    go further false false e f = further (let l = rw (e, f) at h in omega arith)

pub weight_none : (rs : List Run) → weight_of (λ r. false) rs ≡ 0
unfolding weight_of one
weight_none rs = total_zero _ rs (λ r m. zero-mul r.weight)

-- a weight that is not 0 has a run that passes
pub weight_some : (p : Run → Bool) (rs : List Run) → 0 < weight_of p rs → (r : Run) × Memᴰ r rs × (p r ≡ true)
weight_some p rs h = let t = weight_witness (λ r. false) p rs (rw (weight_none rs) h) in (t.0, t.1, t.2)
