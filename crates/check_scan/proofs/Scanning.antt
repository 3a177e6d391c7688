-- The scan of the runs that a part takes up: over the runs, and over the numbers of one. Assumes nothing.
use Prim.Native.Nat.{ℕ, suc, ◌+◌, ◌^◌, ◌≤◌, ◌<◌}
use lib.ListN.{length, get_or, set}
use lib.Seq.{get_or-set_other}
use borrow.Author.Tests.{eq-eqb, ne_eqb}
use lib.Dec.{eqb}
use mathlib.Core.Bool.{Bool, true, false, not}
use mathlib.Core.List.{List}
use mathlib.Core.Logic.{⊎_elim, ◌≢◌}
use mathlib.Core.Path.{◌≡◌, refl, sym, ap, ◌∙◌, subst}
use native.Mathlib.Omega.{arith}
use Rattle.mask.proofs.Lowest.{cleared_here, cleared_other}
use Rattle.model.proofs.Masks.{below_only}
use Rattle.model.proofs.Tests.{eq_or_ne}
use Rattle.model.specs.Refusals.{contradicts, any_contradicts}
use Rattle.model.specs.Runs.{past_bin, slice, from, runs, bit}
use Rattle.model.specs.Walk.{head_of}
use Rattle.check_cursor.specs.Cursors.{run_at, head_in, cursor_places, place_of, bin_of, Cursors}
use Rattle.check_scan.specs.Scan.{to_scan, clash, claim, MorePassed}
use Rattle.check_cursor.proofs.Moving.{weaken, Behind, Here, here_start, here_more, here_on, here_head, ahead, cursors_on, head_fits}
use Rattle.check_scan.proofs.Naming.{bit_none, named_says, unnamed_agrees, clash_above, none_contradicts, one_contradicts}
use Rattle.check_scan.proofs.Reaching.{to_scan_named, to_scan_not}

-- ---- over the runs

-- no run but those of `rest`, which are named, contradicts the part, and their cursors are still those before the part
pub record Sofar (numbers ends : List ℕ) (held : Bool) (f l m : ℕ) (cursors : List ℕ) (rest : ℕ) : Type 0 where
  pub ready : Cursors numbers ends cursors (suc l)
  pub ordered : f ≤ l
  pub low : f < past_bin
  pub high : l < past_bin
  pub within : m < 2 ^ length ends
  pub named : (i : ℕ) → bit rest i ≡ 1 → bit m i ≡ 1
  pub behind : (i : ℕ) → bit rest i ≡ 1 → Behind numbers ends cursors i f
  pub agreed : (i : ℕ) → i < length ends → bit rest i ≡ 0 → contradicts (claim held f l m) (run_at numbers ends i) ≡ false

pub sofar_start : (numbers ends : List ℕ) (held : Bool) (f l m : ℕ) (cursors : List ℕ) (rest : ℕ) → f < past_bin → l < past_bin → f ≤ l
    → Cursors numbers ends cursors f → m < 2 ^ length ends → rest ≡ to_scan held l m cursors → Sofar numbers ends held f l m cursors rest
sofar_start numbers ends held f l m cursors rest a b o c s e =
    record {
      ready = weaken numbers ends cursors f (suc l) (omega arith) c;
      ordered = o;
      low = a;
      high = b;
      within = s;
      named = is_named;
      behind = λ i q. c.same i (below_only m (length ends) i s (is_named i q));
      agreed = λ i h q.
          ⊎_elim
          (λ (n : bit m i ≡ 1).
          let z = c.lengths in
          let d = to_scan_not held l m cursors i (omega arith) (ap (λ x. bit x i) (sym e) ∙ q) n in
          let g = ahead numbers ends cursors i f h c a in
          sym (named_says numbers ends held f l m i (head_in numbers ends i f) (c.risen i h) a b n refl)
          ∙ clash_above held f l (head_in numbers ends i f) d.0 (omega (arith, d.1)))
          (λ (n : bit m i ≢ 1). unnamed_agrees numbers ends held f l m i n)
          (eq_or_ne (bit m i) 1);
    }
  where
    is_named : (i : ℕ) → bit rest i ≡ 1 → bit m i ≡ 1
    is_named i q = to_scan_named held l m cursors i (ap (λ x. bit x i) (sym e) ∙ q)

pub sofar_end : (numbers ends : List ℕ) (held : Bool) (f l m : ℕ) (cursors : List ℕ) (rest : ℕ) → Sofar numbers ends held f l m cursors rest → rest ≡ 0
    → not (eqb rest 0) ≡ any_contradicts (claim held f l m) (runs numbers ends)
sofar_end numbers ends held f l m cursors rest s e =
    ap not (eq-eqb rest 0 e) ∙ none_contradicts numbers ends (claim held f l m) (λ i h. s.agreed i h (ap (λ x. bit x i) e ∙ bit_none i))

-- one run less, and its cursor moved
module _ (numbers ends : List ℕ) (held : Bool) (f l m : ℕ) (cursors : List ℕ) (rest run : ℕ) (s : Sofar numbers ends held f l m cursors rest)
    (n : bit rest run ≡ 1) (h : contradicts (claim held f l m) (run_at numbers ends run) ≡ false) where
  sofar_on : (rest' : ℕ) → rest' + 2 ^ run ≡ rest → (w : ℕ) → Cursors numbers ends (set cursors run w) (suc l)
      → Sofar numbers ends held f l m (set cursors run w) rest'
  sofar_on rest' er w c =
      record {
        ready = c;
        ordered = s.ordered;
        low = s.low;
        high = s.high;
        within = s.within;
        named = λ k q. s.named k (still k q).1;
        behind = λ k q v g.
            s.behind k (still k q).1 v g
            ∙ (λ y. from v (slice numbers (place_of (sym (get_or-set_other cursors run k w 0 (still k q).0) y)) (get_or ends k 0)));
        agreed = λ k j q.
            ⊎_elim
            (λ (z : k ≡ run). subst (λ u. contradicts (claim held f l m) (run_at numbers ends u) ≡ false) (sym z) h)
            (λ (z : k ≢ run). s.agreed k j (sym (cleared_other rest rest' run k n er z) ∙ q))
            (eq_or_ne k run);
      }
    where
      -- a run of the new rest is another one of the old
      still : (k : ℕ) → bit rest' k ≡ 1 → (k ≢ run) × (bit rest k ≡ 1)
      still k q =
          ⊎_elim
          (λ (z : k ≡ run).
          let a = cleared_here rest rest' run n er in
          let b = ap (bit rest') z in
          absurd (omega arith))
          (λ (z : k ≢ run). (z, sym (cleared_other rest rest' run k n er z) ∙ q))
          (eq_or_ne k run)

-- ---- over the numbers of a run of the rest

pub record Scan (numbers ends : List ℕ) (held : Bool) (f l m : ℕ) (cursors : List ℕ) (rest i end j x : ℕ) : Type 0 where
  pub sofar : Sofar numbers ends held f l m cursors rest
  pub here : Here numbers ends i end f j x
  pub of_rest : bit rest i ≡ 1

module _ {numbers ends : List ℕ} {held : Bool} {f l m : ℕ} {cursors : List ℕ} {rest i : ℕ} (s : Sofar numbers ends held f l m cursors rest)
    (o : bit rest i ≡ 1) where
  pub run_below : i < length ends
  run_below = below_only m (length ends) i s.within (s.named i o)

  pub scan_start : {end j x : ℕ} → end ≡ get_or ends i 0 → j ≡ place_of (get_or cursors i 0) → x ≡ bin_of (get_or cursors i 0)
      → Scan numbers ends held f l m cursors rest i end j x
  scan_start {end} {j} {x} ee ej ex =
      record {
        sofar = s;
        here =
            here_start numbers ends cursors i end f j x (suc l) run_below s.ready (s.behind i o) ee ej ex;
        of_rest = o;
      }

module _ {numbers ends : List ℕ} {held : Bool} {f l m : ℕ} {cursors : List ℕ} {rest i end j x : ℕ}
    (s : Scan numbers ends held f l m cursors rest i end j x) where
  inside : i < length ends
  inside = run_below s.sofar s.of_rest

  bin : f ≤ past_bin
  bin = let h = s.sofar.low in omega arith

  pub scan_more : x < f → (j + 1 ≤ end) × (end ≤ length numbers)
  scan_more h = let k = here_more numbers ends i end f j x s.here h bin in (omega arith, s.here.inside)

  pub scan_on : x < f → {x' : ℕ} → x' ≡ head_of (slice numbers (j + 1) end) → Scan numbers ends held f l m cursors rest i end (j + 1) x'
  scan_on h {x'} e =
      record {
        sofar = s.sofar;
        here = here_on numbers ends i end f j x s.here h bin x' e;
        of_rest = s.of_rest;
      }

  module _ (h : f ≤ x) where
    first_is : head_in numbers ends i f ≡ x
    first_is = here_head numbers ends i end f j x s.here h

    said : clash held f l x ≡ contradicts (claim held f l m) (run_at numbers ends i)
    said =
        named_says numbers ends held f l m i x (s.sofar.ready.risen i inside) s.sofar.low s.sofar.high
        (s.sofar.named i s.of_rest) first_is

    pub scan_fits : (x ≤ past_bin) × (j ≤ end) × (end < cursor_places)
    scan_fits =
        let a = head_fits numbers ends cursors i f (suc l) inside s.sofar.ready in
        let e = first_is in
        let n = s.here.inside in
        let k = s.sofar.ready.short in
        (omega arith, s.here.order, omega arith)

    pub scan_found : {y : Bool} → y ≡ clash held f l x → y ≡ true → rest ≢ 0 → not (eqb rest 0) ≡ any_contradicts (claim held f l m) (runs numbers ends)
    scan_found ey t n = ap not (ne_eqb rest 0 n) ∙ one_contradicts numbers ends (claim held f l m) i inside (sym said ∙ (sym ey ∙ t))

    pub scan_agrees : {y : Bool} → y ≡ clash held f l x → y ≡ false → (w : ℕ) → (place_of w ≡ j) × (bin_of w ≡ x) → {rest' : ℕ} → rest' + 2 ^ i ≡ rest
        → Sofar numbers ends held f l m (set cursors i w) rest'
    scan_agrees ey t w ew {rest'} er =
        let o = s.sofar.ordered in
        sofar_on numbers ends held f l m cursors rest i s.sofar s.of_rest (sym said ∙ (sym ey ∙ t)) rest' er w
        (cursors_on numbers ends cursors i end f j x w (suc l) inside s.sofar.ready s.here (omega arith) ew (set cursors i w) refl)

-- ---- a turn of the loop: the number at hand is passed, and one more where that is below f too

module _ {numbers ends : List ℕ} {held : Bool} {f l m : ℕ} {cursors : List ℕ} {rest i end j x : ℕ}
    (s : Scan numbers ends held f l m cursors rest i end j x) (h : x < f) {x' : ℕ} (e : x' ≡ head_of (slice numbers (j + 1) end))
    {n : ℕ} (p : MorePassed x' f n) where
  pub turn_more : (j + 1 + n ≤ end) × (end ≤ length numbers)
  turn_more =
      ⊎_elim
      (λ (z : n ≡ 0). let k = scan_more s h in (omega (arith, k.0), k.1))
      (λ (z : n ≢ 0).
      let q = p.most in
      let k = scan_more (scan_on s h e) (p.below (omega arith)) in
      (omega (arith, k.0), k.1))
      (eq_or_ne n 0)

  pub turn_on : {x'' : ℕ} → x'' ≡ head_of (slice numbers (j + 1 + n) end) → Scan numbers ends held f l m cursors rest i end (j + 1 + n) x''
  turn_on {x''} e'' =
      ⊎_elim
      (λ (z : n ≡ 0). at (j + 1) (omega arith) (scan_on s h))
      (λ (z : n ≢ 0). let q = p.most in at (j + 1 + 1) (omega arith) (scan_on (scan_on s h e) (p.below (omega arith))))
      (eq_or_ne n 0)
    where
      at : (k : ℕ) → j + 1 + n ≡ k → (x'' ≡ head_of (slice numbers k end) → Scan numbers ends held f l m cursors rest i end k x'')
          → Scan numbers ends held f l m cursors rest i end (j + 1 + n) x''
      at k w g =
          subst (λ u. Scan numbers ends held f l m cursors rest i end u x'') (sym w) (g (e'' ∙ ap (λ u. head_of (slice numbers u end)) w))
