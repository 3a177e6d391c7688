-- The runs that a mask chooses, as the rows hold them: their labels rise, their keys are those of the row, and the mask names them all. So it stays where runs
-- are moved. Assumes nothing.
use Prim.Native.Nat.{ℕ, ◌^◌, ◌≤◌, ◌<◌}
use lib.ListN.{length, get_or, drop}
use mathlib.Core.Bool.{true}
use mathlib.Core.List.{List, map, Memᴰ}
use mathlib.Core.Path.{◌≡◌, sym, ap, ◌∙◌, subst}
use native.Mathlib.Omega.{arith}
use Rattle.model.specs.Rows.{Rise}
use Rattle.model.specs.Runs.{Run, weighted_run, weighted, weight_of_all, mask_of_all, chosen, most_runs}
use Rattle.model.proofs.Chosen.{chosen_mem, chosen_ascending, chosen_map, all_chosen_mask}
use Rattle.model.proofs.Masks.{Ascending, label_below}
use Rattle.model.proofs.Weighted.{weighted_ascending, weighted_mem, weighted_mask, weighted_moved, weights_chosen}
use Rattle.walk_settle.specs.Turns.{Chooses}
use Rattle.walk_settle.proofs.Passing.{labels, number}
use Rattle.walk_state.specs.State.{runs_at, chosen_at, InOrder, Holds, Idle}
use Rattle.walk_state.proofs.Choosing.{Keeps, idle_order, idle_moved, weighted_order}
use Rattle.walk_state.proofs.Moving.{runs_at_labels}
use Rattle.weights.proofs.Named.{named_weight_law}

module _ (numbers ends ws positions : List ℕ) (m t : ℕ) (c : Chooses m numbers ends ws positions t) where
  abbrev rs : List Run
  rs = runs_at 0 numbers positions ends

  abbrev cs : List Run
  cs = chosen_at ws m numbers positions ends

  module _ (keys : List ℕ) (start : ℕ) (few : length ends ≤ most_runs) (h : Holds numbers ends positions keys start rs) where
    pub chosen_labels : Ascending 0 cs
    chosen_labels = weighted_ascending ws (chosen_ascending m rs (labels numbers ends positions keys start few h))

    -- a chosen run with its weight is a run of the rows
    chosen_run : (q : Run) → Memᴰ q cs → (r : Run) × Memᴰ r rs × (q ≡ weighted_run ws r)
    chosen_run q n = let p = weighted_mem ws (chosen m rs) q n in (p.0, (chosen_mem m rs p.1).0, p.2)

    pub chosen_within : (q : Run) → Memᴰ q cs → q.label < length ends
    unfolding weighted_run
    chosen_within q n =
        let p = chosen_run q n in
        let l = label_below rs (runs_at_labels 0 numbers positions ends) p.0 p.1 in
        let k = number numbers ends positions keys start few h in
        let e = ap (λ (x : Run). x.label) p.2 in
        omega arith

    pub chosen_small : (q : Run) → Memᴰ q cs → q.label < most_runs
    chosen_small q n = let b = chosen_within q n in omega arith

    pub chosen_weigh : (q : Run) → Memᴰ q cs → q.weight ≡ get_or ws q.label 1
    unfolding weighted_run
    chosen_weigh q n = let p = chosen_run q n in ap (λ (x : Run). x.weight) p.2 ∙ ap (λ (x : Run). get_or ws x.label 1) (sym p.2)

    pub chosen_rises : (f : ℕ) → ((r : Run) → Memᴰ r rs → Rise f r.bins) → (q : Run) → Memᴰ q cs → Rise f q.bins
    unfolding weighted_run
    chosen_rises f g q n = let p = chosen_run q n in subst (λ (x : Run). Rise f x.bins) (sym p.2) (g p.0 p.1)

    pub chosen_order : InOrder cs (drop start keys)
    chosen_order = weighted_order ws (idle_order m rs c.idle (drop start keys) h.order)

    only_these : m < 2 ^ length rs
    only_these = subst (λ x. m < 2 ^ x) (sym (number numbers ends positions keys start few h)) c.only

    pub chosen_met : t ≤ weight_of_all cs
    chosen_met =
        let n = number numbers ends positions keys start few h in
        let e = weights_chosen ws m rs in
        let f = named_weight_law ws m rs (runs_at_labels 0 numbers positions ends) (omega arith) only_these in
        let k = c.enough in
        omega arith

    pub mask_of_chosen : mask_of_all cs ≡ m
    unfolding weighted_run mask_of_all
    mask_of_chosen = weighted_mask ws (λ r. true) (chosen m rs) ∙ all_chosen_mask m rs (runs_at_labels 0 numbers positions ends) only_these

  module _ (f : Run → Run) (k : Keeps f) (positions' : List ℕ) (e : runs_at 0 numbers positions' ends ≡ map f rs) where
    pub chooses_moved : Chooses m numbers ends ws positions' t
    chooses_moved = record { only = c.only; enough = c.enough; idle = subst (λ x. Idle m x) (sym e) (idle_moved m f rs k c.idle) }

    pub chosen_moved : chosen_at ws m numbers positions' ends ≡ map f cs
    chosen_moved =
        ap (weighted ws) (ap (chosen m) e ∙ sym (chosen_map m f rs k.label)) ∙ sym (weighted_moved ws f (k.unweighed ws) (chosen m rs))
