use Prim.Native.Nat.{ℕ, ◌+◌}
use mathlib.Core.List.{List}
use mathlib.Core.Path.{◌≡◌, sym, ap, ◌∙◌}
use native.Mathlib.Omega.{arith}
use Rattle.model.specs.Walk.{Halving}
use Rattle.walk_tally.specs.Tally.{left_in, halved_in}
use Rattle.walk_search.proofs.Laws.{no_more_h, halve_due, halve_next_up, halve_next_down, halve_done}
use Rattle.walk_search.proofs.halved.Invariants.{Here}
use Rattle.walk_search.proofs.halved.Goals as goal

-- a probe more
probed : {s : List ℕ} {v from to before lo hi tally : ℕ} (tally' : ℕ) (h : Here s v from to before lo hi tally)
    → (left_in tally' + 1 ≡ left_in tally) × (halved_in tally' ≡ halved_in tally + 1)
    → (left_in tally' + (h.made + 1) ≡ left_in before) × (halved_in tally' ≡ halved_in before + (h.made + 1))
probed tally' h e = let l = h.left in let k = h.halved in (omega (arith, e.0), omega (arith, e.1))

pub loop-hi-init : goal.loop-hi-init
loop-hi-init c =
    let p = c.requires in
    record { order = p.0; inside = p.1; made = 0; left = omega arith; halved = omega arith; same = no_more_h _ }

pub returns-then-left-eq0 : goal.returns-then-left-eq0
returns-then-left-eq0 c =
    let a = c.args in
    let h = c.loop-hi.invariant in
    let d = halve_due h.made a.v a.s.now c.loop-hi.lo c.loop-hi.hi (omega arith) h.inside in
    let e = ap (λ (x : Halving). x.probes) h.same in
    let z : left_in c.loop-hi.tally ≡ 0 = sym c.left.ensures ∙ c.if-left-eq0.true in
    (omega (arith, h.left), z, omega (arith, h.left, h.halved))

pub halved-tally-requires : goal.halved-tally-requires
halved-tally-requires c =
    let h = c.loop-hi.invariant in
    let p = c.requires in
    (omega (arith, c.left.ensures, c.if-left-eq0.false), omega (arith, h.left, h.halved, p.2))

pub loop-hi-preserved-then-x-v : goal.loop-hi-preserved-then-x-v
loop-hi-preserved-then-x-v c =
    let a = c.args in
    let h = c.loop-hi.invariant in
    let p = probed c.halved-tally.result h c.halved-tally.ensures in
    record {
      order = omega (arith, h.order);
      inside = h.inside;
      made = h.made + 1;
      left = p.0;
      halved = p.1;
      same = h.same ∙ halve_next_up h.made a.v a.s.now c.loop-hi.lo c.loop-hi.hi c.half.result c.half.ensures (omega arith) h.inside c.if-x-v.true;
    }

pub loop-hi-preserved : goal.loop-hi-preserved
loop-hi-preserved c =
    let a = c.args in
    let h = c.loop-hi.invariant in
    let p = probed c.halved-tally.result h c.halved-tally.ensures in
    record {
      order = omega (arith, h.order);
      inside = omega (arith, h.inside);
      made = h.made + 1;
      left = p.0;
      halved = p.1;
      same = h.same ∙ halve_next_down h.made a.v a.s.now c.loop-hi.lo c.loop-hi.hi c.half.result c.half.ensures (omega arith) h.inside c.if-x-v.false;
    }

pub returns : goal.returns
returns c =
    let a = c.args in
    let h = c.loop-hi.invariant in
    let e = h.same ∙ halve_done h.made a.v a.s.now c.loop-hi.lo c.loop-hi.hi (omega arith) in
    let p = ap (λ (x : Halving). x.probes) e in
    (sym (ap (λ (x : Halving). x.place) e), omega (arith, h.left), omega (arith, h.halved))
