-- Runs moved one at a time: the state and the row of keys after each, whatever the order in which the runs are taken. Assumes nothing.
use Prim.Native.Nat.{ℕ, zero, suc, ◌+◌, ◌-◌, ◌*◌, ◌≤◌, ◌<◌}
use borrow.Author.Tests.{eq-eqb, ne_eqb, lt-ltb, le-ltb}
use lib.Dec.{eqb}
use lib.ListN.{length, get_or, take, drop, set}
use mathlib.Core.Bool.{true, false}
use mathlib.Core.List.{List, [], ◌∷◌, ◌++◌, map, Memᴰ}
use mathlib.Core.Logic.{⊎_elim, ◌≢◌}
use mathlib.Core.Path.{◌≡◌, refl, sym, ap, ap₂, ◌∙◌}
use native.Mathlib.Omega.{arith}
use Rattle.model.specs.Runs.{Run, past_bin, total, bit, names}
use Rattle.model.specs.Walk.{head, head_of}
use Rattle.model.proofs.Count.{total_eq}
use Rattle.model.proofs.Masks.{Labelled, labelled_nil, labelled_cons, label_first, label_rest, label_least}
use Rattle.model.proofs.Tests.{both, lt_or_le, eq_or_ne, true_false}
use Rattle.walk_keys.proofs.Row.{sum_insert, ordered_insert}
use Rattle.model.specs.Rows.{Ordered}
use Rattle.walk_keys.specs.Row.{insert_key, sum_of}
use Rattle.walk_state.specs.State.{no_run, runs_at, key_of, keyed, put_head, not_named}

-- ---- what a sum over keys adds for a run

pub keyed_some : (g : ℕ → ℕ) (r : Run) → head r < past_bin → keyed g r ≡ g (key_of r)
unfolding keyed
keyed_some g r h = rw (lt-ltb (head r) past_bin h, keyed)

pub keyed_none : (g : ℕ → ℕ) (r : Run) → past_bin ≤ head r → keyed g r ≡ 0
unfolding keyed
keyed_none g r h = rw (le-ltb (head r) past_bin h, keyed)

-- ---- runs at positions

pub runs_at_length : (i : ℕ) (numbers positions ends : List ℕ) → length positions ≡ length ends → length (runs_at i numbers positions ends) ≡ length ends
unfolding runs_at
runs_at_length i numbers [] [] h = refl
runs_at_length i numbers [] (e ∷ ends) h = absurd (omega arith)
runs_at_length i numbers (p ∷ positions) [] h = absurd (omega arith)
runs_at_length i numbers (p ∷ positions) (e ∷ ends) h = ap suc (runs_at_length (suc i) numbers positions ends (omega arith))

pub runs_at_labels : (i : ℕ) (numbers positions ends : List ℕ) → Labelled i (runs_at i numbers positions ends)
unfolding runs_at
runs_at_labels i numbers [] ends = labelled_nil
runs_at_labels i numbers (p ∷ positions) [] = labelled_nil
runs_at_labels i numbers (p ∷ positions) (e ∷ ends) = labelled_cons refl (runs_at_labels (suc i) numbers positions ends)

pub run_at_law : (i : ℕ) (numbers positions ends : List ℕ) (j : ℕ) → length positions ≡ length ends → j < length ends
    → get_or (runs_at i numbers positions ends) j no_run
    ≡ record { label = i + j; weight = 1; bins = take (get_or ends j 0 - get_or positions j 0) (drop (get_or positions j 0) numbers) }
unfolding runs_at
run_at_law i numbers [] [] j h l = absurd (omega arith)
run_at_law i numbers [] (e ∷ ends) j h l = absurd (omega arith)
run_at_law i numbers (p ∷ positions) [] j h l = absurd (omega arith)
run_at_law i numbers (p ∷ positions) (e ∷ ends) zero h l =
    let k : i ≡ i + 0 = omega arith in λ d. record { label = k d; weight = 1; bins = take (e - p) (drop p numbers) }
run_at_law i numbers (p ∷ positions) (e ∷ ends) (suc j) h l =
    let k : suc i + j ≡ i + suc j = omega arith in
    run_at_law (suc i) numbers positions ends j (omega arith) (omega arith)
    ∙ λ d. record { label = k d; weight = 1; bins = take (get_or ends j 0 - get_or positions j 0) (drop (get_or positions j 0) numbers) }

pub runs_at_set : (i : ℕ) (numbers positions ends : List ℕ) (j q : ℕ) → length positions ≡ length ends → j < length ends
    → runs_at i numbers (set positions j q) ends
    ≡ set (runs_at i numbers positions ends) j (record { label = i + j; weight = 1; bins = take (get_or ends j 0 - q) (drop q numbers) })
unfolding runs_at
runs_at_set i numbers [] [] j q h l = absurd (omega arith)
runs_at_set i numbers [] (e ∷ ends) j q h l = absurd (omega arith)
runs_at_set i numbers (p ∷ positions) [] j q h l = absurd (omega arith)
runs_at_set i numbers (p ∷ positions) (e ∷ ends) zero q h l =
    let k : i ≡ i + 0 = omega arith in λ d. record { label = k d; weight = 1; bins = take (e - q) (drop q numbers) } ∷ runs_at (suc i) numbers positions ends
runs_at_set i numbers (p ∷ positions) (e ∷ ends) (suc j) q h l =
    let k : suc i + j ≡ i + suc j = omega arith in
    ap (λ x. record { label = i; weight = 1; bins = take (e - p) (drop p numbers) } ∷ x)
    (runs_at_set (suc i) numbers positions ends j q (omega arith) (omega arith)
    ∙ λ d. set (runs_at (suc i) numbers positions ends) j (record { label = k d; weight = 1; bins = take (get_or ends j 0 - q) (drop q numbers) }))

-- ---- one run changed

pub label_at : {a : ℕ} (rs : List Run) → Labelled a rs → (j : ℕ) → j < length rs → (get_or rs j no_run).label ≡ a + j
label_at [] l j h = absurd (omega arith)
label_at (r ∷ rs) l zero h = let e = label_first l in omega arith
label_at (r ∷ rs) l (suc j) h = let e = label_at rs (label_rest l) j (omega arith) in omega arith

pub member_at : (rs : List Run) (j : ℕ) → j < length rs → Memᴰ (get_or rs j no_run) rs
member_at [] j h = absurd (omega arith)
member_at (r ∷ rs) zero h = Memᴰ.head refl
member_at (r ∷ rs) (suc j) h = Memᴰ.tail (member_at rs j (omega arith))

-- two maps that differ at one run only
map_one : (f g : Run → Run) {a : ℕ} (rs : List Run) → Labelled a rs → (j : ℕ) → j < length rs
    → ((r : Run) → Memᴰ r rs → r.label ≢ a + j → f r ≡ g r) → map g rs ≡ set (map f rs) j (g (get_or rs j no_run))
map_one f g [] l j h e = absurd (omega arith)
map_one f g {a} (r ∷ rs) l zero h e =
    ap (λ x. g r ∷ x) (others rs (label_rest l) (λ s m n. e s (Memᴰ.tail m) n))
  where
    others : (qs : List Run) → Labelled (suc a) qs → ((s : Run) → Memᴰ s qs → s.label ≢ a + 0 → f s ≡ g s) → map g qs ≡ map f qs
    others qs k h' = Rattle.model.proofs.Walking.map_same g f qs (λ s m. let w = label_least qs k s m in sym (h' s m (omega arith)))
map_one f g {a} (r ∷ rs) l (suc j) h e =
    let n : r.label ≢ a + suc j = (let k = label_first l in omega arith) in
    ap₂ ◌∷◌ (sym (e r (Memᴰ.head refl) n))
    (map_one f g rs (label_rest l) j (omega arith) (λ s m o. e s (Memᴰ.tail m) (λ q. o (omega arith))))

-- two sums that differ at one run only
pub total_one : (f g : Run → ℕ) {a : ℕ} (rs : List Run) → Labelled a rs → (j : ℕ) → j < length rs
    → ((r : Run) → Memᴰ r rs → r.label ≢ a + j → f r ≡ g r) → total g rs + f (get_or rs j no_run) ≡ total f rs + g (get_or rs j no_run)
unfolding total
total_one f g [] l j h e = absurd (omega arith)
total_one f g {a} (r ∷ rs) l zero h e =
    let s = total_eq f g rs (λ q m. let w = label_least rs (label_rest l) q m in e q (Memᴰ.tail m) (omega arith)) in
    omega arith
total_one f g {a} (r ∷ rs) l (suc j) h e =
    let n : r.label ≢ a + suc j = (let k = label_first l in omega arith) in
    let q = e r (Memᴰ.head refl) n in
    let i = total_one f g rs (label_rest l) j (omega arith) (λ s m o. e s (Memᴰ.tail m) (λ z. o (omega arith))) in
    omega arith

-- ---- a move of the runs, of which those that a mask names are still to be moved

-- a run that is named is where it was, any other is moved
unfoldable pub pending : (Run → Run) → ℕ → Run → Run
pending m rest r = elim (names rest r) [ true ↦ r | false ↦ m r ]

pub pending_named : (m : Run → Run) (rest : ℕ) (r : Run) → names rest r ≡ true → pending m rest r ≡ r
unfolding pending
pending_named m rest r e = rw (e, pending)

pub pending_moved : (m : Run → Run) (rest : ℕ) (r : Run) → names rest r ≡ false → pending m rest r ≡ m r
unfolding pending
pending_moved m rest r e = rw (e, pending)

pub not_named_zero : (rest : ℕ) (c : Run → ℕ) (r : Run) → names rest r ≡ true → not_named rest c r ≡ 0
unfolding not_named
not_named_zero rest c r e = rw (e, not_named)

pub not_named_is : (rest : ℕ) (c : Run → ℕ) (r : Run) → names rest r ≡ false → not_named rest c r ≡ c r
unfolding not_named
not_named_is rest c r e = rw (e, not_named)

-- the mask after run i has been moved
pub record Cleared (rest rest' i : ℕ) : Type 0 where
  pub here : bit rest i ≡ 1
  pub gone : bit rest' i ≡ 0
  pub kept : (j : ℕ) → j ≢ i → bit rest' j ≡ bit rest j

pub names_kept : (rest rest' i : ℕ) → Cleared rest rest' i → (r : Run) → r.label ≢ i → names rest' r ≡ names rest r
unfolding names
names_kept rest rest' i k r n = ap (λ (x : ℕ). eqb x 1) (k.kept r.label n)

module _ (rs : List Run) (labels : Labelled 0 rs) (rest rest' i : ℕ) (cleared : Cleared rest rest' i) (l : i < length rs) where
  pub run_named : names rest (get_or rs i no_run) ≡ true
  unfolding names
  run_named = rw (label_at rs labels i l) (let z : 0 + i ≡ i = omega arith in rw z (eq-eqb (bit rest i) 1 cleared.here))

  pub run_cleared : names rest' (get_or rs i no_run) ≡ false
  unfolding names
  run_cleared =
      rw (label_at rs labels i l)
      (let z : 0 + i ≡ i = omega arith in rw z (ne_eqb (bit rest' i) 1 (let g = cleared.gone in omega arith)))

  pub state_step : (m : Run → Run) → map (pending m rest') rs ≡ set (map (pending m rest) rs) i (m (get_or rs i no_run))
  state_step m =
      map_one (pending m rest) (pending m rest') rs labels i l
      (λ r k n. same r (λ q. n (omega arith)))
      ∙ ap (λ x. set (map (pending m rest) rs) i x) (pending_moved m rest' (get_or rs i no_run) run_cleared)
    where
      same : (r : Run) → r.label ≢ i → pending m rest r ≡ pending m rest' r
      same r n =
          ⊎_elim
          (λ (q : names rest r ≡ true).
          pending_named m rest r q ∙ sym (pending_named m rest' r (names_kept rest rest' i cleared r n ∙ q)))
          (λ (q : names rest r ≡ false).
          pending_moved m rest r q ∙ sym (pending_moved m rest' r (names_kept rest rest' i cleared r n ∙ q)))
          (both (names rest r))

  pub sum_step : (c : Run → ℕ) → total (not_named rest' c) rs ≡ total (not_named rest c) rs + c (get_or rs i no_run)
  sum_step c =
      let e = total_one (not_named rest c) (not_named rest' c) rs labels i l (λ r k n. same r (λ q. n (omega arith))) in
      let a = not_named_zero rest c (get_or rs i no_run) run_named in
      let b = not_named_is rest' c (get_or rs i no_run) run_cleared in
      omega arith
    where
      same : (r : Run) → r.label ≢ i → not_named rest c r ≡ not_named rest' c r
      same r n =
          ⊎_elim
          (λ (q : names rest r ≡ true).
          not_named_zero rest c r q ∙ sym (not_named_zero rest' c r (names_kept rest rest' i cleared r n ∙ q)))
          (λ (q : names rest r ≡ false).
          not_named_is rest c r q ∙ sym (not_named_is rest' c r (names_kept rest rest' i cleared r n ∙ q)))
          (both (names rest r))

-- a run's key put back
pub put_sum : (g : ℕ → ℕ) (h i : ℕ) (row : List ℕ) (r : Run) → head r ≡ h → r.label ≡ i → sum_of g (put_head h i row) ≡ sum_of g row + keyed g r
unfolding put_head keyed key_of
put_sum g h i row r e f =
    ⊎_elim
    (λ (q : head r < past_bin).
    let k : head r * 256 + r.label ≡ h * 256 + i = omega arith in
    rw (lt-ltb (head r) past_bin q, lt-ltb h past_bin (omega arith), put_head, keyed)
    (sum_insert g (h * 256 + i) row ∙ (let w = ap g k in omega arith)))
    (λ (q : past_bin ≤ head r).
    rw (le-ltb (head r) past_bin q, le-ltb h past_bin (omega arith), put_head, keyed) (omega arith))
    (lt_or_le (head r) past_bin)

pub put_ordered : (h i : ℕ) (row : List ℕ) → Ordered 0 row → Ordered 0 (put_head h i row)
unfolding put_head
put_ordered h i row o =
    ⊎_elim
    (λ (q : h < past_bin). rw (lt-ltb h past_bin q, put_head) (ordered_insert (h * 256 + i) row o (omega arith)))
    (λ (q : past_bin ≤ h). rw (le-ltb h past_bin q, put_head) o)
    (lt_or_le h past_bin)

pub head_empty : (numbers : List ℕ) (place end : ℕ) → place ≡ end → head_of (take (end - place) (drop place numbers)) ≡ past_bin
unfolding head_of
head_empty numbers place end e = rw (← e, Rattle.model.proofs.Slices.part_empty place numbers)

pub head_at : (numbers : List ℕ) (place end : ℕ) → place < end → end ≤ length numbers → head_of (take (end - place) (drop place numbers)) ≡ get_or numbers place 0
unfolding head_of
head_at numbers place end h l = rw (Rattle.model.proofs.Slices.part_cons place end numbers h l)

pub put_none : (h i : ℕ) (row : List ℕ) → h ≡ past_bin → put_head h i row ≡ row
unfolding put_head
put_none h i row e = rw (le-ltb h past_bin (omega arith), put_head)

pub put_some : (h i : ℕ) (row : List ℕ) → h < past_bin → put_head h i row ≡ insert_key (h * 256 + i) row
unfolding put_head
put_some h i row e = rw (lt-ltb h past_bin e, put_head)

pub past_is : past_bin ≡ 4294967296
unfolding past_bin
past_is = refl

pub dropped : (n : ℕ) (keys after x : List ℕ) → n ≤ length keys → after ≡ take n keys ++ x → drop n after ≡ x
dropped n keys after x h e = ap (drop n) e ∙ lib.Seq.drop_at (take n keys) x n (lib.Seq.length-take-le n keys h)

-- what is still named was named
pub names_still : (rest rest' i : ℕ) → Cleared rest rest' i → (r : Run) → names rest' r ≡ true → names rest r ≡ true
unfolding names
names_still rest rest' i k r q =
    ⊎_elim
    (λ (e : r.label ≡ i).
    let g = ap (bit rest') e ∙ k.gone in
    true_false q (ne_eqb (bit rest' r.label) 1 (omega arith)))
    (λ (n : r.label ≢ i). sym (names_kept rest rest' i k r n) ∙ q)
    (eq_or_ne r.label i)
