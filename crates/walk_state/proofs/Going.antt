-- A move of all the runs that a mask names, one run at a time: at each turn the runs that are still named are where they were, the others are moved.
-- Assumes nothing.
use Prim.Native.Nat.{ℕ, zero, suc, ◌+◌, ◌-◌, ◌^◌, ◌≤◌, ◌<◌}
use borrow.Author.Tests.{eq-eqb, ne_eqb}
use lib.Dec.{ltb}
use lib.ListN.{length, get_or, drop, set, length-set}
use lib.Seq.{get_or-set_same, get_or-set_other}
use mathlib.Core.Bool.{true, false}
use mathlib.Core.List.{List, [], ◌∷◌, map, Memᴰ}
use mathlib.Core.Logic.{⊎_elim, ◌≢◌}
use mathlib.Core.Path.{◌≡◌, refl, sym, ap, ap₂, ◌∙◌}
use native.Mathlib.Nat.{zero-div}
use native.Mathlib.Omega.{arith}
use Rattle.model.specs.Runs.{Run, past_bin, total, bit, names, slice, most_runs}
use Rattle.model.specs.Walk.{head, head_of, seek, search_in, searched}
use Rattle.model.specs.Compared.{doubling_probe, halving_probe, probe, halvings_of, probes_of}
use Rattle.model.proofs.Bounds.{search_cost}
use Rattle.model.proofs.Masks.{Labelled, below_only}
use Rattle.model.proofs.Slices.{drop_part}
use Rattle.model.proofs.Tests.{both, lt_or_le, eq_or_ne}
use Rattle.walk_state.specs.Moves.{Placeable, step_named}
use Rattle.walk_state.specs.State.{no_run, runs_at, keyed, Inside, not_named}
use Rattle.walk_state.proofs.Moving.{run_at_law, runs_at_set, label_at, pending, pending_named, pending_moved, not_named_zero, not_named_is, Cleared, state_step}

pub record Placed (numbers ends : List ℕ) (rs : List Run) (m : Run → Run) (rest : ℕ) (positions : List ℕ) : Type 0 where
  pub inside : Inside numbers positions ends
  pub runs_are_law : runs_at 0 numbers positions ends ≡ map (pending m rest) rs
  pub only : rest < 2 ^ length ends

pub map_still : (f : Run → Run) (rs : List Run) → ((r : Run) → Memᴰ r rs → f r ≡ r) → map f rs ≡ rs
map_still f [] h = refl
map_still f (r ∷ rs) h = ap₂ ◌∷◌ (h r (Memᴰ.head refl)) (map_still f rs (λ s m. h s (Memᴰ.tail m)))

-- ---- the first turn

pub placed_start : (numbers ends positions : List ℕ) (named : ℕ) (rs : List Run) (m : Run → Run) → Inside numbers positions ends
    → runs_at 0 numbers positions ends ≡ rs → named < 2 ^ length ends → ((r : Run) → Memᴰ r rs → names named r ≡ false → m r ≡ r)
    → Placed numbers ends rs m named positions
placed_start numbers ends positions named rs m inside are only still =
    record { inside = inside; runs_are_law = are ∙ sym (map_still (pending m named) rs stays); only = only }
  where
    stays : (r : Run) → Memᴰ r rs → pending m named r ≡ r
    stays r k = ⊎_elim (λ q. pending_named m named r q) (λ q. pending_moved m named r q ∙ still r k q) (both (names named r))

-- ---- the last turn

zero_bit : (i : ℕ) → bit 0 i ≡ 0
unfolding bit
zero_bit i = rw (zero-div (2 ^ i))

pub none_named : (r : Run) → names 0 r ≡ false
unfolding names
none_named r = ne_eqb (bit 0 r.label) 1 (let z = zero_bit r.label in omega arith)

map_all : (f g : Run → Run) (rs : List Run) → ((r : Run) → f r ≡ g r) → map f rs ≡ map g rs
map_all f g [] h = refl
map_all f g (r ∷ rs) h = ap₂ ◌∷◌ (h r) (map_all f g rs h)

pub placed_end : (numbers ends positions : List ℕ) (rest : ℕ) (rs : List Run) (m : Run → Run) → Placed numbers ends rs m rest positions → rest ≡ 0
    → runs_at 0 numbers positions ends ≡ map m rs
placed_end numbers ends positions rest rs m p e =
    p.runs_are_law ∙ map_all (pending m rest) m rs (λ r. pending_moved m rest r (ap (λ x. names x r) e ∙ none_named r))

-- ---- one turn

pub weigh_one : (r : Run) → keyed (λ k. 1) r ≤ 1
unfolding keyed
weigh_one r = ⊎_elim (λ (q : ltb (head r) past_bin ≡ true). rw (q, keyed) (omega arith)) (λ (q : ltb (head r) past_bin ≡ false). rw (q, keyed) (omega arith)) (both (ltb (head r) past_bin))

-- a sum of ones over the runs that are not named, where a run is named
pub some_free : (rest : ℕ) (c : Run → ℕ) (rs : List Run) → ((r : Run) → c r ≤ 1) → (j : ℕ) → j < length rs → names rest (get_or rs j no_run) ≡ true
    → total (not_named rest c) rs < length rs
unfolding total
some_free rest c [] h j l e = absurd (omega arith)
some_free rest c (r ∷ rs) h zero l e =
    let z = not_named_zero rest c r e in
    let i = most rs in
    omega arith
  where
    most : (qs : List Run) → total (not_named rest c) qs ≤ length qs
    most [] = omega arith
    most (s ∷ qs) =
        let k = most qs in
        let w = h s in
        ⊎_elim
        (λ q. let y = not_named_zero rest c s q in omega arith)
        (λ q. let y = not_named_is rest c s q in omega arith)
        (both (names rest s))
some_free rest c (r ∷ rs) h (suc j) l e =
    let i = some_free rest c rs h j (omega arith) e in
    let w = h r in
    ⊎_elim
    (λ q. let y = not_named_zero rest c r q in omega arith)
    (λ q. let y = not_named_is rest c r q in omega arith)
    (both (names rest r))

pub head_of_law : (l : ℕ) (s : List ℕ) → head (record { label = l; weight = 1; bins = s }) ≡ head_of s
unfolding head
head_of_law l s = refl

get_d_map : (f : Run → Run) (rs : List Run) (j : ℕ) → j < length rs → get_or (map f rs) j no_run ≡ f (get_or rs j no_run)
get_d_map f [] j h = absurd (omega arith)
get_d_map f (r ∷ rs) zero h = refl
get_d_map f (r ∷ rs) (suc j) h = get_d_map f rs j (omega arith)

module _ (numbers ends positions : List ℕ) (rest run : ℕ) (rs : List Run) (m : Run → Run) (labels : Labelled 0 rs) (number : length rs ≡ length ends)
    (few : length ends ≤ most_runs) (p : Placed numbers ends rs m rest positions) (named : bit rest run ≡ 1) where
  index : run < length ends
  index = below_only rest (length ends) run p.only named

  pub is_named : names rest (get_or rs run no_run) ≡ true
  unfolding names
  is_named = rw (label_at rs labels run (omega (arith, index))) (let z : 0 + run ≡ run = omega arith in rw z (eq-eqb (bit rest run) 1 named))

  pub placeable : Placeable numbers ends positions run
  placeable = let i = index in record { index = i; small = omega arith; inside = p.inside }

  -- the run is where it was
  pub run_is : get_or rs run no_run ≡ record { label = run; weight = 1; bins = slice numbers (get_or positions run 0) (get_or ends run 0) }
  run_is =
      let i = index in
      let n : run < length rs = omega arith in
      let z : 0 + run ≡ run = omega arith in
      sym (pending_named m rest (get_or rs run no_run) is_named)
      ∙ (sym (get_d_map (pending m rest) rs run n)
      ∙ (ap (λ x. get_or x run no_run) (sym p.runs_are_law)
      ∙ (run_at_law 0 numbers positions ends run p.inside.lengths i
      ∙ λ d. record { label = z d; weight = 1; bins = slice numbers (get_or positions run 0) (get_or ends run 0) })))

  -- the next turn, after the run has been moved to q
  pub placed_on : (rest' q : ℕ) (positions' : List ℕ) → Cleared rest rest' run → rest' < rest
      → m (get_or rs run no_run) ≡ record { label = run; weight = 1; bins = slice numbers q (get_or ends run 0) }
      → positions' ≡ set positions run q → q ≤ get_or ends run 0 → Placed numbers ends rs m rest' positions'
  placed_on rest' q positions' cleared less e are order =
      let i = index in
      let n : run < length rs = omega arith in
      let z : 0 + run ≡ run = omega arith in
      let o = p.only in
      record {
        inside = record {
          lengths = ap length are ∙ (length-set positions run q ∙ p.inside.lengths);
          before = λ j k. at_most j k;
          within = p.inside.within;
        };
        runs_are_law =
            ap (λ x. runs_at 0 numbers x ends) are
            ∙ (runs_at_set 0 numbers positions ends run q p.inside.lengths i
            ∙ ((λ d. set (runs_at 0 numbers positions ends) run (record { label = z d; weight = 1; bins = slice numbers q (get_or ends run 0) }))
            ∙ (ap₂ (λ x y. set x run y) p.runs_are_law (sym e) ∙ sym (state_step rs labels rest rest' run cleared n m))));
        only = omega arith;
      }
    where
      at_most : (j : ℕ) → j < length ends → get_or positions' j 0 ≤ get_or ends j 0
      at_most j k =
          let w = p.inside.lengths in
          let y = ap (λ x. get_or x j 0) are in
          ⊎_elim
          (λ (f : j ≡ run).
          let a = get_or-set_same positions run q 0 (omega (arith, index)) in
          let b = ap (λ x. get_or (set positions run q) x 0) f in
          let c = ap (λ x. get_or ends x 0) f in
          omega arith)
          (λ (f : j ≢ run). let a = get_or-set_other positions run j q 0 f in let b = p.inside.before j k in omega arith)
          (eq_or_ne j run)

-- ---- the run's own move

pub searched_still : (v : ℕ) (r : Run) → ltb (head r) v ≡ false → searched v r ≡ r
unfolding searched
searched_still v r e = rw (e, searched)

searched_moves : (v : ℕ) (r : Run) → ltb (head r) v ≡ true → searched v r ≡ record { label = r.label; weight = r.weight; bins = drop (seek v r.bins).place r.bins }
unfolding searched
searched_moves v r e = rw (e, searched)

pub search_move : (numbers : List ℕ) (v run p e : ℕ) (r : Run) → r ≡ record { label = run; weight = 1; bins = slice numbers p e } → ltb (head r) v ≡ true
    → searched v r ≡ record { label = run; weight = 1; bins = slice numbers (p + (seek v (slice numbers p e)).place) e }
search_move numbers v run p e r f h =
    ap (searched v) f
    ∙ (searched_moves v (record { label = run; weight = 1; bins = slice numbers p e }) (ap (λ x. ltb (head x) v) (sym f) ∙ h)
    ∙ λ d. record { label = run; weight = 1; bins = drop_part (seek v (slice numbers p e)).place p e numbers d })

pub step_label : (mask : ℕ) (r : Run) → (step_named mask r).label ≡ r.label
unfolding step_named
step_label mask r =
    ⊎_elim
    (λ (q : names mask r ≡ true). rw (q, step_named))
    (λ (q : names mask r ≡ false). rw (q, step_named))
    (both (names mask r))

pub step_still : (mask : ℕ) (r : Run) → names mask r ≡ false → step_named mask r ≡ r
unfolding step_named
step_still mask r e = rw (e, step_named)

step_moves : (mask : ℕ) (r : Run) → names mask r ≡ true → step_named mask r ≡ record { label = r.label; weight = r.weight; bins = drop 1 r.bins }
unfolding step_named
step_moves mask r e = rw (e, step_named)

pub step_move : (numbers : List ℕ) (mask run p e : ℕ) (r : Run) → r ≡ record { label = run; weight = 1; bins = slice numbers p e } → names mask r ≡ true
    → step_named mask r ≡ record { label = run; weight = 1; bins = slice numbers (p + 1) e }
step_move numbers mask run p e r f h =
    ap (step_named mask) f
    ∙ (step_moves mask (record { label = run; weight = 1; bins = slice numbers p e }) (ap (names mask) (sym f) ∙ h)
    ∙ λ d. record { label = run; weight = 1; bins = drop_part 1 p e numbers d })

-- a run with a bin for a head has a number at its position
pub has_number : (numbers : List ℕ) (run p e : ℕ) (r : Run) → r ≡ record { label = run; weight = 1; bins = slice numbers p e } → head r < past_bin → p < e
unfolding head head_of
has_number numbers run p e r f b =
    ⊎_elim
    (λ (q : p < e). q)
    (λ (q : e ≤ p).
    let z : e - p ≡ 0 = omega arith in
    let w : head_of (slice numbers p e) ≡ past_bin = rw z in
    let y : head_of r.bins ≡ head_of (slice numbers p e) = ap (λ (x : Run). head_of x.bins) f in
    absurd (omega arith))
    (lt_or_le p e)

-- ---- probes

pub search_probes : (v : ℕ) (r : Run) → head r < v → probes_of (search_in v r) ≡ (seek v r.bins).doublings + (seek v r.bins).halvings
unfolding probes_of probe doubling_probe halving_probe
search_probes v r h = let c = search_cost probe v 0 1 1 r refl refl refl h in omega arith

pub search_halvings : (v : ℕ) (r : Run) → head r < v → halvings_of (search_in v r) ≡ (seek v r.bins).halvings
unfolding halvings_of halving_probe
search_halvings v r h = let c = search_cost halving_probe v 0 0 1 r refl refl refl h in omega arith
