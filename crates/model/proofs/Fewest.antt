-- Fewest parts. Where another true certificate has covered up to g, not past the walk's floor f, its next part ends not past the walk's: a gap
-- that started at or below f and reached v would name a run with a number from f to v, since runs that weigh t have one there and those
-- that are not named weigh less. So the walk's parts are no more than the other's. Assumes nothing.
use Prim.Native.Nat.{ℕ, suc, ◌+◌, ◌-◌, ◌≤◌, ◌<◌}
use borrow.Author.Tests.{leb-true, eqb-true, le-leb}
use lib.Dec.{leb, eqb}
use lib.ListN.{length}
use mathlib.Core.Bool.{true, false, not}
use mathlib.Core.List.{List, [], ◌∷◌, Memᴰ}
use mathlib.Core.Logic.{⊎_elim}
use mathlib.Core.Path.{◌≡◌, refl}
use native.Mathlib.Omega.{arith}
use Rattle.model.specs.Certificate.{Part, first_of, last_of, Covers, covered, covers, TrueGap, TrueAnswer, TruePart, gap_true, answer_true}
use Rattle.model.specs.Compared.{parts_of}
use Rattle.model.specs.Runs.{Run, last_bin, past_bin, from, weight_of, weight_of_all, names}
use Rattle.model.specs.Walk.{Event, head, head_of, wrote}
use Rattle.model.proofs.Count.{weight_disjoint, weight_not, weight_le}
use Rattle.model.proofs.Events.{parts_wrote, parts_nil, parts_round}
use Rattle.model.specs.Rows.{equal}
use Rattle.model.proofs.From.{rise_from, from_mem, head_mem, head_least}
use Rattle.model.proofs.Heads.{at_most}
use Rattle.model.proofs.Tests.{both, lt_or_le}
use Rattle.model.proofs.Truth.{Fit, weight_at}
use Rattle.model.proofs.Walking.{from_run, at, head_from, gap_at, answer_at, Walked, over, stop, pass, hit, hit_here}

pub covers_nil : {b : ℕ} → Covers b [] → b ≡ past_bin
covers_nil (covered e) = e

pub covers_first : {b : ℕ} {p : Part} {ps : List Part} → Covers b (p ∷ ps) → first_of p ≡ b
covers_first (covers e l c) = e

pub covers_order : {b : ℕ} {p : Part} {ps : List Part} → Covers b (p ∷ ps) → first_of p ≤ last_of p
covers_order (covers e l c) = l

pub covers_rest : {b : ℕ} {p : Part} {ps : List Part} → Covers b (p ∷ ps) → Covers (suc (last_of p)) ps
covers_rest (covers e l c) = c

-- what the runs that a true gap names weigh: all but less than t
pub gap_names : {rs : List Run} {t f l m : ℕ} → TrueGap rs t f l m → weight_of_all rs < t + weight_of (names m) rs
gap_names {rs} {m = m} p =
    let e = weight_not (names m) (λ r. not (names m r)) rs (λ r k. refl) in
    let n = p.unnamed in
    omega arith

-- no gap may reach from at or below f to v where runs that weigh at least t have a number from f to v
gap_ends : {rs : List Run} {t a l m : ℕ} (f v : ℕ) → Fit rs t → TrueGap rs t a l m → a ≤ f → f ≤ v → v < past_bin → t ≤ at_most v (at f rs) → l < v
unfolding at_most at
gap_ends {rs} {t} {a} {l} {m} f v g p i j b e =
    ⊎_elim
    (λ (q : l < v). q)
    (λ (q : v ≤ l).
    let n = gap_names p in
    let c = weight_at (λ r. leb (head r) v) f rs in
    let d = weight_disjoint (λ r. leb (head (from_run f r)) v) (names m) rs (λ r k h. unnamed r k h q) in
    absurd (omega arith))
    (lt_or_le l v)
  where
    unnamed : (r : Run) → Memᴰ r rs → leb (head (from_run f r)) v ≡ true → v ≤ l → names m r ≡ false
    unnamed r k h q =
        ⊎_elim
        (λ (y : names m r ≡ true).
        let s = head_from f r in
        let u : head_of (from f r.bins) ≤ v = omega (arith, leb-true _ v h) in
        let w = head_mem (from f r.bins) (omega arith) in
        let z = head_least (rise_from f r.bins (g.rising.each r k)) (omega arith) in
        absurd (p.misses r k y (head_of (from f r.bins)) (from_mem f r.bins w) (omega arith) (omega arith)))
        (λ (y : names m r ≡ false). y)
        (both (names m r))

enough_here : (rs : List Run) (v t : ℕ) → t ≤ equal v (at v rs) → t ≤ at_most v (at v rs)
unfolding equal at_most
enough_here rs v t h =
    let i = weight_le (λ r. eqb (head r) v) (λ r. leb (head r) v) (at v rs) (λ r m e. let j = eqb-true (head r) v e in le-leb (head r) v (omega arith)) in
    omega arith

-- So a true part that starts at or below f does not end past v, and not at v where f is below v.
part_ends : {rs : List Run} {t f v : ℕ} {p : Part} → Fit rs t → TruePart rs t p → first_of p ≤ f → f < v → v < past_bin → t ≤ at_most v (at f rs)
    → last_of p < v
unfolding first_of last_of
part_ends {f = f} {v = v} g (gap_true h) i j b e = gap_ends f v g h i (omega arith) b e
part_ends g (answer_true h) i j b e = omega arith

part_ends_here : {rs : List Run} {t v : ℕ} {p : Part} → Fit rs t → TruePart rs t p → first_of p ≤ v → v < past_bin → t ≤ equal v (at v rs)
    → last_of p ≤ v
unfolding first_of last_of
part_ends_here {rs} {t} {v} g (gap_true h) i b e = let l = gap_ends v v g h i (omega arith) b (enough_here rs v t e) in omega arith
part_ends_here g (answer_true h) i b e = i

-- the parts of the rest of another certificate
rest_true : {rs : List Run} {t : ℕ} {p : Part} {ps : List Part} → ((q : Part) → Memᴰ q (p ∷ ps) → TruePart rs t q)
    → (q : Part) → Memᴰ q ps → TruePart rs t q
rest_true h q m = h q (Memᴰ.tail m)

pub fewest : {rs : List Run} {t f : ℕ} {es : List Event} → Fit rs t → Walked rs t f es → (a : ℕ) (ps : List Part) → a ≤ f → Covers a ps
    → ((p : Part) → Memᴰ p ps → TruePart rs t p) → length (parts_of es) ≤ length ps
fewest g (over e) a ps i c h = rw parts_nil (omega arith)
fewest g (stop l q) a [] i c h = let e = covers_nil c in absurd (omega arith)
fewest {rs} {f = f} g (stop l q) a (p ∷ ps) i c h =
    rw (parts_wrote (gap_at rs f past_bin last_bin) [], parts_nil) (omega arith)
fewest g (pass l d q w) a [] i c h = let e = covers_nil c in let b = d.bin in absurd (omega arith)
fewest {rs} {f = f} g (pass {v = v} {es = es} l d q w) a (p ∷ ps) i c h =
    let e = covers_first c in
    let n = part_ends g (h p (Memᴰ.head refl)) (omega arith) l d.bin d.enough in
    let r = fewest g w (suc (last_of p)) ps n (covers_rest c) (rest_true h) in
    rw (parts_round (gap_at rs f v (v - 1)) v (at f rs) es) (omega arith)
fewest g (hit l d q w) a [] i c h = let e = covers_nil c in let b = d.bin in absurd (omega arith)
fewest g (hit l d q w) a (p ∷ []) i c h =
    let e = covers_first c in
    let n = part_ends g (h p (Memᴰ.head refl)) (omega arith) l d.bin d.enough in
    let k = covers_nil (covers_rest c) in
    let b = d.bin in
    absurd (omega arith)
fewest {rs} {f = f} g (hit {v = v} {es = es} l d q w) a (p ∷ (o ∷ ps)) i c h =
    let e = covers_first c in
    let n = part_ends g (h p (Memᴰ.head refl)) (omega arith) l d.bin d.enough in
    let e₂ = covers_first (covers_rest c) in
    let n₂ = part_ends_here {v = v} g (h o (Memᴰ.tail (Memᴰ.head refl))) (omega arith) d.bin q in
    let r = fewest g w (suc (last_of o)) ps (omega arith) (covers_rest (covers_rest c)) (rest_true (rest_true h)) in
    rw (parts_round (gap_at rs f v (v - 1)) v (at f rs) (wrote (answer_at rs v) ∷ es), parts_wrote (answer_at rs v) es) (omega arith)
fewest g (hit_here d q w) a [] i c h = let e = covers_nil c in let b = d.bin in absurd (omega arith)
fewest {rs} {f = f} g (hit_here {es = es} d q w) a (p ∷ ps) i c h =
    let e = covers_first c in
    let n = part_ends_here {v = f} g (h p (Memᴰ.head refl)) (omega arith) d.bin q in
    let r = fewest g w (suc (last_of p)) ps (omega arith) (covers_rest c) (rest_true h) in
    rw (parts_wrote (answer_at rs f) es) (omega arith)
