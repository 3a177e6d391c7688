-- The weight still in play where runs are moved: after one run is moved to a place, and after all that a mask names are moved on by one, of which the weight is
-- lowered for one at a time. Assumes nothing.
use Prim.Native.Nat.{ℕ, zero, suc, ◌+◌, ◌*◌, ◌≤◌, ◌<◌}
use borrow.Author.Tests.{lt-ltb, le-ltb}
use lib.Dec.{ltb}
use lib.ListN.{length, get_or, set}
use mathlib.Core.Bool.{Bool, true, false}
use mathlib.Core.List.{List, [], ◌∷◌, map, Memᴰ}
use mathlib.Core.Logic.{⊎_elim, ◌≢◌}
use mathlib.Core.Path.{◌≡◌, sym, ap, ◌∙◌, subst}
use native.Mathlib.Nat.{one-mul, zero-mul}
use native.Mathlib.Omega.{arith}
use Rattle.model.specs.Runs.{Run, slice, past_bin, weighted_run, weighted, total, one, weight_of, names}
use Rattle.model.specs.Walk.{head, weight_in_play}
use Rattle.model.proofs.Count.{total_map, total_eq}
use Rattle.model.proofs.Tests.{both, lt_or_le, true_false}
use Rattle.walk_state.specs.State.{no_run, runs_at, Inside, InPlay, lost_at, weight_if_heads}
use Rattle.walk_state.specs.Moves.{step_named}
use Rattle.walk_state.proofs.Choosing.{names_label}
use Rattle.walk_state.proofs.Going.{none_named, step_label, step_still}
use Rattle.walk_state.proofs.Moving.{runs_at_length, runs_at_labels, run_at_law, runs_at_set, total_one, Cleared, run_named, run_cleared, names_kept, head_empty, head_at}

-- ---- what each run adds

module _ (ws : List ℕ) where
  -- of runs with the weights of a row, by those without
  unfoldable adds : (Run → Bool) → Run → ℕ
  adds p r = one (p r) * get_or ws r.label 1

  -- what a run adds to the weight in play
  unfoldable added : Run → ℕ
  added r = adds (λ q. ltb (head q) past_bin) r

  in_play_sum : (rs : List Run) → weight_in_play (weighted ws rs) ≡ total added rs
  unfolding weight_of weighted weighted_run head added adds
  in_play_sum rs = total_map _ (weighted_run ws) rs

  added_some : (r : Run) → head r < past_bin → added r ≡ get_or ws r.label 1
  unfolding added adds one
  added_some r h = ap (λ b. one b * get_or ws r.label 1) (lt-ltb (head r) past_bin h) ∙ one-mul (get_or ws r.label 1)

  added_none : (r : Run) → past_bin ≤ head r → added r ≡ 0
  unfolding added adds one
  added_none r h = ap (λ b. one b * get_or ws r.label 1) (le-ltb (head r) past_bin h) ∙ zero-mul (get_or ws r.label 1)

-- a sum over runs of which one is another
total_set : (g : Run → ℕ) (rs : List Run) (j : ℕ) (x : Run) → j < length rs → total g (set rs j x) + g (get_or rs j no_run) ≡ total g rs + g x
unfolding total
total_set g [] j x h = absurd (omega arith)
total_set g (r ∷ rs) zero x h = omega arith
total_set g (r ∷ rs) (suc j) x h = let i = total_set g rs j x (omega arith) in omega arith

pub lost_none : (ws : List ℕ) (run place end : ℕ) → place < end → lost_at ws run place end ≡ 0
unfolding lost_at
lost_none ws run place end h = rw (lt-ltb place end h, lost_at)

pub lost_all : (ws : List ℕ) (run place end : ℕ) → end ≤ place → lost_at ws run place end ≡ get_or ws run 1
unfolding lost_at
lost_all ws run place end h = rw (le-ltb place end h, lost_at)

-- ---- a run at a place

module _ (numbers ws : List ℕ) (small : (i : ℕ) → get_or numbers i 0 < past_bin) (run end : ℕ) (inside : end ≤ length numbers) where
  abbrev run_at : ℕ → Run
  run_at place = record { label = run; weight = 1; bins = slice numbers place end }

  -- what it adds and what it no longer adds are its weight
  at_place : (place : ℕ) → place ≤ end → added ws (run_at place) + lost_at ws run place end ≡ get_or ws run 1
  unfolding head
  at_place place l =
      ⊎_elim
      (λ (q : place < end).
      let h = head_at numbers place end q inside in
      let s = small place in
      let p = added_some ws (run_at place) (omega arith) in
      let n = lost_none ws run place end q in
      omega arith)
      (λ (q : end ≤ place).
      let h = head_empty numbers place end (omega arith) in
      let p = added_none ws (run_at place) (omega arith) in
      let n = lost_all ws run place end q in
      omega arith)
      (lt_or_le place end)

-- ---- one run moved to a place

module _ (numbers ends ws positions : List ℕ) (run q weight : ℕ) (small : (i : ℕ) → get_or numbers i 0 < past_bin) (inside : Inside numbers positions ends)
    (index : run < length ends) (headed : get_or positions run 0 < get_or ends run 0) (order : q ≤ get_or ends run 0) (h : InPlay numbers ends ws positions weight) where
  moved_sum : weight_in_play (weighted ws (runs_at 0 numbers (set positions run q) ends)) + lost_at ws run q (get_or ends run 0) ≡ weight
  moved_sum =
      let rs = runs_at 0 numbers positions ends in
      let e = get_or ends run 0 in
      let z : 0 + run ≡ run = omega arith in
      let w = inside.within run index in
      let n = runs_at_length 0 numbers positions ends inside.lengths in
      let was = ap (added ws) (run_at_law 0 numbers positions ends run inside.lengths index)
      ∙ ap (λ l. added ws (record { label = l; weight = 1; bins = slice numbers (get_or positions run 0) e })) z in
      let now = ap (λ l. added ws (record { label = l; weight = 1; bins = slice numbers q e })) z in
      let before = at_place numbers ws small run e w (get_or positions run 0) (omega arith) in
      let none = lost_none ws run (get_or positions run 0) e headed in
      let after = at_place numbers ws small run e w q order in
      let one_set = total_set (added ws) rs run (record { label = 0 + run; weight = 1; bins = slice numbers q e }) (omega arith) in
      let a = ap (λ x. total (added ws) x) (runs_at_set 0 numbers positions ends run q inside.lengths index) in
      let b = in_play_sum ws (runs_at 0 numbers (set positions run q) ends) in
      let c = in_play_sum ws rs in
      let d = h.sum in
      omega arith

  pub lost_most : lost_at ws run q (get_or ends run 0) ≤ weight
  lost_most = let s = moved_sum in omega arith

  pub in_play_moved : (positions' : List ℕ) (weight' : ℕ) → positions' ≡ set positions run q → weight' + lost_at ws run q (get_or ends run 0) ≡ weight
      → InPlay numbers ends ws positions' weight'
  in_play_moved positions' weight' e l =
      let s = moved_sum in
      record { row = h.row; sum = subst (λ x. weight' ≡ weight_in_play (weighted ws (runs_at 0 numbers x ends))) (sym e) (omega arith) }

-- ---- all runs that a mask names moved on by one

module _ (ws : List ℕ) where
  -- what a run adds if each that a mask names had a head
  unfoldable counted : ℕ → Run → ℕ
  counted rest r = adds ws (λ q. elim (names rest q) [ true ↦ true | false ↦ ltb (head q) past_bin ]) r

  if_heads_sum : (rest : ℕ) (rs : List Run) → weight_if_heads rest (weighted ws rs) ≡ total (counted rest) rs
  unfolding weight_if_heads weight_of weighted weighted_run names head counted adds
  if_heads_sum rest rs = total_map _ (weighted_run ws) rs

  counted_named : (rest : ℕ) (r : Run) → names rest r ≡ true → counted rest r ≡ get_or ws r.label 1
  unfolding counted adds one
  counted_named rest r e = rw e (one-mul (get_or ws r.label 1))

  counted_other : (rest : ℕ) (r : Run) → names rest r ≡ false → counted rest r ≡ added ws r
  unfolding counted adds added
  counted_other rest r e = rw e

  -- where each run that is named has a head, it adds as much as it does
  pub if_heads_is : (rest : ℕ) (rs : List Run) → ((r : Run) → Memᴰ r rs → names rest r ≡ true → head r < past_bin)
      → weight_if_heads rest (weighted ws rs) ≡ weight_in_play (weighted ws rs)
  if_heads_is rest rs h =
      if_heads_sum rest rs
      ∙ (total_eq (counted rest) (added ws) rs
      (λ r m.
      ⊎_elim
      (λ e. counted_named rest r e ∙ sym (added_some ws r (h r m e)))
      (λ e. counted_other rest r e)
      (both (names rest r)))
      ∙ sym (in_play_sum ws rs))

  -- before the step each of them had a head
  pub if_heads_step : (named : ℕ) (rs : List Run) → ((r : Run) → Memᴰ r rs → names named r ≡ true → head r < past_bin)
      → weight_if_heads named (weighted ws (map (step_named named) rs)) ≡ weight_in_play (weighted ws rs)
  if_heads_step named rs h =
      if_heads_sum named (map (step_named named) rs)
      ∙ (total_map (counted named) (step_named named) rs
      ∙ (total_eq (λ r. counted named (step_named named r)) (added ws) rs
      (λ r m.
      ⊎_elim
      (λ e.
      counted_named named (step_named named r) (names_label named (step_named named r) r (step_label named r) ∙ e)
      ∙ (ap (λ l. get_or ws l 1) (step_label named r) ∙ sym (added_some ws r (h r m e))))
      (λ e. ap (counted named) (step_still named r e) ∙ counted_other named r e)
      (both (names named r)))
      ∙ sym (in_play_sum ws rs)))

-- one turn: the weight is lowered for a run, which then is named no more
module _ (numbers ends ws positions : List ℕ) (rest rest' run : ℕ) (small : (i : ℕ) → get_or numbers i 0 < past_bin) (inside : Inside numbers positions ends)
    (index : run < length ends) (k : Cleared rest rest' run) where
  pub if_heads_on : weight_if_heads rest' (weighted ws (runs_at 0 numbers positions ends)) + lost_at ws run (get_or positions run 0) (get_or ends run 0)
      ≡ weight_if_heads rest (weighted ws (runs_at 0 numbers positions ends))
  if_heads_on =
      let rs = runs_at 0 numbers positions ends in
      let r = get_or rs run no_run in
      let labels = runs_at_labels 0 numbers positions ends in
      let n = runs_at_length 0 numbers positions ends inside.lengths in
      let i : run < length rs = omega arith in
      let z : 0 + run ≡ run = omega arith in
      let is = run_at_law 0 numbers positions ends run inside.lengths index
      ∙ (λ d. record { label = z d; weight = 1; bins = slice numbers (get_or positions run 0) (get_or ends run 0) }) in
      let t = total_one (counted ws rest) (counted ws rest') rs labels run i (λ q m d. same q (λ e. d (omega arith))) in
      let a = counted_named ws rest r (run_named rs labels rest rest' run k i) ∙ ap (λ (q : Run). get_or ws q.label 1) is in
      let b = counted_other ws rest' r (run_cleared rs labels rest rest' run k i) ∙ ap (added ws) is in
      let p = at_place numbers ws small run (get_or ends run 0) (inside.within run index) (get_or positions run 0) (inside.before run index) in
      let c = if_heads_sum ws rest rs in
      let d = if_heads_sum ws rest' rs in
      omega arith
    where
      same : (r : Run) → r.label ≢ run → counted ws rest r ≡ counted ws rest' r
      same r d =
          ⊎_elim
          (λ (q : names rest r ≡ true). counted_named ws rest r q ∙ sym (counted_named ws rest' r (names_kept rest rest' run k r d ∙ q)))
          (λ (q : names rest r ≡ false). counted_other ws rest r q ∙ sym (counted_other ws rest' r (names_kept rest rest' run k r d ∙ q)))
          (both (names rest r))

-- the last turn
pub if_heads_end : (ws : List ℕ) (rest : ℕ) (rs : List Run) → rest ≡ 0 → weight_if_heads rest (weighted ws rs) ≡ weight_in_play (weighted ws rs)
if_heads_end ws rest rs e = if_heads_is ws rest rs (λ r m q. absurd (true_false q (ap (λ x. names x r) e ∙ none_named r)))
