-- A round of the walk in the terms of the code: the gap before v, the searches, the answer; and the mask that a gap names. Assumes nothing.
use Prim.Native.Nat.{ℕ, suc, ◌+◌, ◌-◌, ◌*◌, ◌^◌, ◌≤◌, ◌<◌}
use borrow.Author.Tests.{lt-ltb, le-ltb, le-leb, lt-leb, eq-eqb, ne_eqb}
use lib.Dec.{ltb, leb, eqb}
use mathlib.Core.Bool.{Bool, true, false, not}
use mathlib.Core.List.{List, [], ◌∷◌, ◌++◌, map}
use mathlib.Core.Logic.{◌≢◌}
use mathlib.Core.Path.{◌≡◌, refl, sym, ap, ◌∙◌}
use native.Mathlib.Omega.{arith}
use Rattle.model.specs.Certificate.{answer, gap}
use Rattle.model.specs.Runs.{Run, last_bin, past_bin, one, weight_of, mask, mask_of_all}
use Rattle.model.specs.Walk.{Event, wrote, head, enough_head, searches, searched, moved_on, settle, round, weight_in_play}
use Rattle.model.proofs.Count.{total_eq, total_add}
use Rattle.model.specs.Rows.{equal}
use Rattle.model.proofs.Truth.{not_below}

-- ---- masks

one_not : (b : Bool) → one b + one (not b) ≡ one true
unfolding one
one_not true = refl
one_not false = refl

mask_split : (p q : Run → Bool) (rs : List Run) → ((r : Run) → q r ≡ not (p r)) → mask p rs + mask q rs ≡ mask_of_all rs
unfolding mask mask_of_all
mask_split p q rs h =
    sym (total_add (λ r. one (p r) * 2 ^ r.label) (λ r. one (q r) * 2 ^ r.label) rs)
    ∙ total_eq _ (λ r. one true * 2 ^ r.label) rs
    (λ r m.
    let e = one_not (p r) in
    let f = ap one (h r) in
    let k : one (p r) + one (q r) ≡ one true = omega arith in
    omega (arith, ap (λ x. x * 2 ^ r.label) k))

heads_split : (rs : List Run) (v : ℕ) → mask (λ r. ltb (head r) v) rs + mask (λ r. leb v (head r)) rs ≡ mask_of_all rs
heads_split rs v = mask_split (λ r. ltb (head r) v) (λ r. leb v (head r)) rs (λ r. not_below (head r) v)

-- the mask of the runs whose head is not below v: all but those whose head is
pub gap_mask : (rs : List Run) (v : ℕ) → mask_of_all rs - mask (λ r. ltb (head r) v) rs ≡ mask (λ r. leb v (head r)) rs
gap_mask rs v = let b = heads_split rs v in omega arith

pub front_in_all : (rs : List Run) (v : ℕ) → mask (λ r. ltb (head r) v) rs ≤ mask_of_all rs
front_in_all rs v = let b = heads_split rs v in omega arith

-- ---- rounds

pub round_ends : (next : ℕ → List Run → List Event) (t f : ℕ) (rs : List Run) → weight_in_play rs < t
    → round next t f rs ≡ wrote (gap f last_bin (mask (λ r. leb past_bin (head r)) rs)) ∷ []
unfolding round
round_ends next t f rs h = rw (lt-ltb (weight_in_play rs) t h, round)

-- the gap before v, where there is one
unfoldable pub gap_before : ℕ → ℕ → List Run → List Event
gap_before f v rs = elim (ltb f v) [ true ↦ wrote (gap f (v - 1) (mask (λ r. leb v (head r)) rs)) ∷ [] | false ↦ [] ]

pub round_is : (next : ℕ → List Run → List Event) (t f v : ℕ) (rs : List Run) → t ≤ weight_in_play rs → enough_head t rs ≡ v
    → round next t f rs ≡ gap_before f v rs ++ (searches v rs ++ settle next t v (map (searched v) rs))
unfolding round gap_before
round_is next t f v rs h e =
    rw (le-ltb (weight_in_play rs) t h, round)
    (ap (λ x. gap_before f x rs ++ (searches x rs ++ settle next t x (map (searched x) rs))) e)

pub settle_passes : (next : ℕ → List Run → List Event) (t v : ℕ) (rs : List Run) → equal v rs < t → settle next t v rs ≡ next v rs
unfolding settle equal
settle_passes next t v rs h = rw (lt-leb t (weight_of (λ r. eqb (head r) v) rs) h, settle)

pub settle_answers : (next : ℕ → List Run → List Event) (t v : ℕ) (rs : List Run) → t ≤ equal v rs → v ≢ last_bin
    → settle next t v rs ≡ wrote (answer v (mask (λ r. eqb (head r) v) rs)) ∷ next (suc v) (map (moved_on v) rs)
unfolding settle equal
settle_answers next t v rs h n = rw (le-leb t (weight_of (λ r. eqb (head r) v) rs) h, ne_eqb v last_bin n, settle)

pub settle_ends : (next : ℕ → List Run → List Event) (t v : ℕ) (rs : List Run) → t ≤ equal v rs → v ≡ last_bin
    → settle next t v rs ≡ wrote (answer v (mask (λ r. eqb (head r) v) rs)) ∷ []
unfolding settle equal
settle_ends next t v rs h n = rw (le-leb t (weight_of (λ r. eqb (head r) v) rs) h, eq-eqb v last_bin n, settle)
