use Prim.Native.Nat.{ℕ, ◌+◌}
use lib.ListN.{length}
use mathlib.Core.List.{List}
use mathlib.Core.Path.{◌≡◌, refl, sym, ap, ◌∙◌}
use native.Mathlib.Omega.{arith}
use Rattle.model.specs.Walk.{Bracket, doubling}
use Rattle.walk_tally.specs.Tally.{left_in, halved_in}
use Rattle.walk_search.specs.Limited.{Doubles}
use Rattle.walk_search.proofs.Laws.{no_more, double_due, double_found, double_next, double_past}
use Rattle.std.specs.Prelude.{Ok}
use Rattle.walk_search.proofs.doubled.Invariants.{Here}
use Rattle.walk_search.proofs.doubled.Goals as goal

-- a probe more
probed : {s : List ℕ} {v before n lo place tally : ℕ} (tally' : ℕ) (h : Here s v before n lo place tally)
    → (left_in tally' + 1 ≡ left_in tally) × (halved_in tally' ≡ halved_in tally) → (left_in tally' + (h.made + 1) ≡ left_in before) × (halved_in tally' ≡ halved_in before)
probed tally' h e = let l = h.left in let k = h.halved in (omega (arith, e.0), e.1 ∙ k)

-- the doubling ended here
ended : (before v : ℕ) (s : List ℕ) (b : Bracket) (tally : ℕ) → doubling (length s) v s 0 1 ≡ b
    → (left_in tally + b.probes ≡ left_in before) × (halved_in tally ≡ halved_in before) → Doubles before (doubling (length s) v s 0 1) (Ok (record { lo = b.lo; hi = b.hi; tally = tally }))
ended before v s b tally e t =
    let p = ap (λ (x : Bracket). x.probes) e in
    (sym (ap (λ (x : Bracket). x.lo) e), sym (ap (λ (x : Bracket). x.hi) e), omega (arith, t.0), t.1)

pub loop-place-init : goal.loop-place-init
loop-place-init c =
    record { size = refl; some = omega arith; made = 0; left = omega arith; halved = refl; same = no_more _ }

pub returns-then-left-eq0 : goal.returns-then-left-eq0
returns-then-left-eq0 c =
    let a = c.args in
    let h = c.loop-place.invariant in
    let d = double_due h.made a.v a.s.now c.loop-place.lo c.loop-place.place (omega arith) in
    let e = ap (λ (x : Bracket). x.probes) h.same in
    let z : left_in c.loop-place.tally ≡ 0 = sym c.left.ensures ∙ c.if-left-eq0.true in
    (omega (arith, h.left), z, h.halved)

pub doubled-tally-requires : goal.doubled-tally-requires
doubled-tally-requires c =
    omega (arith, c.left.ensures, c.if-left-eq0.false)

pub returns-then-v-x : goal.returns-then-v-x
returns-then-v-x c =
    let a = c.args in
    let h = c.loop-place.invariant in
    ended a.before a.v a.s.now _ c.doubled-tally.result
    (h.same ∙ double_found h.made a.v a.s.now c.loop-place.lo c.loop-place.place (omega arith) c.if-v-x.true) (probed c.doubled-tally.result h c.doubled-tally.ensures)

pub loop-place-preserved : goal.loop-place-preserved
loop-place-preserved c =
    let a = c.args in
    let h = c.loop-place.invariant in
    let p = probed c.doubled-tally.result h c.doubled-tally.ensures in
    record {
      size = refl;
      some = omega (arith, h.some);
      made = h.made + 1;
      left = p.0;
      halved = p.1;
      same = h.same ∙ double_next h.made a.v a.s.now c.loop-place.lo c.loop-place.place h.some (omega arith) c.if-v-x.false;
    }

pub returns : goal.returns
returns c =
    let a = c.args in
    let h = c.loop-place.invariant in
    ended a.before a.v a.s.now _ c.loop-place.tally
    (h.same ∙ double_past h.made a.v a.s.now c.loop-place.lo c.loop-place.place (omega arith)) (omega (arith, h.left), h.halved)
