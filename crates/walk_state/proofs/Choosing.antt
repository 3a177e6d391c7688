-- A walk over the runs that a mask chooses, in rows that hold all runs: the others have no number left, so that what the rows say of all runs they say of the
-- chosen, with whatever weights. It stays so where runs are moved. Assumes nothing.
use Prim.Native.Nat.{ℕ, ◌≤◌, ◌<◌}
use borrow.Author.Tests.{ne_eqb, le-ltb}
use lib.Dec.{ltb, eqb}
use lib.ListN.{drop}
use lib.Seq.{drop-nil}
use mathlib.Core.Bool.{true, false}
use mathlib.Core.List.{List, [], map, Memᴰ}
use mathlib.Core.Logic.{⊎_elim}
use mathlib.Core.Path.{◌≡◌, sym, ap, ◌∙◌}
use native.Mathlib.Omega.{arith}
use Rattle.model.specs.Rows.{equal}
use Rattle.model.specs.Runs.{Run, past_bin, weighted_run, weighted, weight_of, mask, bit, names, chosen}
use Rattle.model.specs.Walk.{head, head_of, seek, searches, searched, moved_on, weight_in_play}
use Rattle.model.proofs.Chosen.{chosen_total, chosen_weight, chosen_mask, chosen_searches}
use Rattle.model.proofs.Count.{total_map}
use Rattle.model.proofs.Tests.{both}
use Rattle.model.proofs.Walking.{map_mem}
use Rattle.model.proofs.Weighted.{weighted_mem, weighted_mask, weighted_chosen, weighted_searches, searched_run, moved_run}
use Rattle.walk_state.specs.State.{key_of, keyed, InOrder, Idle}
use Rattle.walk_state.proofs.Moving.{keyed_none}

-- ---- what the rows say

module _ (m : ℕ) (rs : List Run) (i : Idle m rs) where
  idle_head : (r : Run) → Memᴰ r rs → names m r ≡ false → head r ≡ past_bin
  unfolding head head_of
  idle_head r n e = ap head_of (i.each r n e)

  pub idle_keyed : (g : ℕ → ℕ) (r : Run) → Memᴰ r rs → names m r ≡ false → keyed g r ≡ 0
  idle_keyed g r n e = keyed_none g r (let h = idle_head r n e in omega arith)

  pub idle_order : (row : List ℕ) → InOrder rs row → InOrder (chosen m rs) row
  idle_order row o = record { ordered = o.ordered; same = λ g. o.same g ∙ sym (chosen_total m (keyed g) rs (idle_keyed g)) }

  module _ (ws : List ℕ) where
    pub idle_equal : (v : ℕ) → v < past_bin → equal v (weighted ws (chosen m rs)) ≡ equal v (weighted ws rs)
    unfolding equal names weighted_run head
    idle_equal v b =
        ap (weight_of (λ r. eqb (head r) v)) (sym (weighted_chosen ws m rs))
        ∙ chosen_weight m (λ r. eqb (head r) v) (weighted ws rs)
        (λ q n e.
        let p = weighted_mem ws rs q n in
        let h = idle_head p.0 p.1 (sym (ap (names m) p.2) ∙ e) in
        let k = ap head p.2 in
        ne_eqb (head q) v (omega arith))

    pub idle_in_play : weight_in_play (weighted ws (chosen m rs)) ≡ weight_in_play (weighted ws rs)
    unfolding names weighted_run head
    idle_in_play =
        ap weight_in_play (sym (weighted_chosen ws m rs))
        ∙ chosen_weight m (λ r. ltb (head r) past_bin) (weighted ws rs)
        (λ q n e.
        let p = weighted_mem ws rs q n in
        let h = idle_head p.0 p.1 (sym (ap (names m) p.2) ∙ e) in
        let k = ap head p.2 in
        le-ltb (head q) past_bin (omega arith))

    pub idle_mask : (v : ℕ) → v < past_bin → mask (λ r. eqb (head r) v) (weighted ws (chosen m rs)) ≡ mask (λ r. eqb (head r) v) rs
    unfolding weighted_run head
    idle_mask v b =
        weighted_mask ws (λ r. eqb (head r) v) (chosen m rs)
        ∙ chosen_mask m (λ r. eqb (head r) v) rs (λ r n e. ne_eqb (head r) v (let h = idle_head r n e in omega arith))

    pub idle_searches : (v : ℕ) → v ≤ past_bin → searches v (weighted ws (chosen m rs)) ≡ searches v rs
    idle_searches v b = weighted_searches ws v (chosen m rs) ∙ chosen_searches m v rs (λ r n e. let h = idle_head r n e in omega arith)

-- a key tells nothing of a weight
pub weighted_order : (ws : List ℕ) {rs : List Run} {row : List ℕ} → InOrder rs row → InOrder (weighted ws rs) row
unfolding weighted weighted_run keyed key_of head
weighted_order ws {rs} o = record { ordered = o.ordered; same = λ g. o.same g ∙ sym (total_map (keyed g) (weighted_run ws) rs) }

-- ---- moves

pub names_label : (m : ℕ) (r s : Run) → r.label ≡ s.label → names m r ≡ names m s
unfolding names
names_label m r s e = ap (λ (x : ℕ). eqb (bit m x) 1) e

-- a move that keeps labels and sees no weight, and leaves a run without a number where it is
pub record Keeps (f : Run → Run) : Type 0 where
  pub label : (r : Run) → (f r).label ≡ r.label
  pub unweighed : (ws : List ℕ) (r : Run) → f (weighted_run ws r) ≡ weighted_run ws (f r)
  pub empty : (r : Run) → r.bins ≡ [] → (f r).bins ≡ []

pub idle_moved : (m : ℕ) (f : Run → Run) (rs : List Run) → Keeps f → Idle m rs → Idle m (map f rs)
idle_moved m f rs k i =
    record {
      each = λ r n e.
          let p = map_mem f rs r n in
          let l = ap (λ (x : Run). x.label) p.2 ∙ k.label p.0 in
          ap (λ (x : Run). x.bins) p.2 ∙ k.empty p.0 (i.each p.0 p.1 (sym (names_label m r p.0 l) ∙ e));
    }

none_left : (n : ℕ) (s : List ℕ) → s ≡ [] → drop n s ≡ []
none_left n s e = ap (drop n) e ∙ drop-nil n

pub searched_keeps : (v : ℕ) → Keeps (searched v)
unfolding searched
searched_keeps v =
    record {
      unweighed = λ ws r. searched_run ws v r;
      label = λ r.
          ⊎_elim (λ (q : ltb (head r) v ≡ true). rw (q, searched)) (λ (q : ltb (head r) v ≡ false). rw (q, searched)) (both (ltb (head r) v));
      empty = λ r e.
          ⊎_elim
          (λ (q : ltb (head r) v ≡ true). rw (q, searched) (none_left (seek v r.bins).place r.bins e))
          (λ (q : ltb (head r) v ≡ false). rw (q, searched) e)
          (both (ltb (head r) v));
    }

pub moved_keeps : (v : ℕ) → Keeps (moved_on v)
unfolding moved_on
moved_keeps v =
    record {
      unweighed = λ ws r. moved_run ws v r;
      label = λ r.
          ⊎_elim (λ (q : eqb (head r) v ≡ true). rw (q, moved_on)) (λ (q : eqb (head r) v ≡ false). rw (q, moved_on)) (both (eqb (head r) v));
      empty = λ r e.
          ⊎_elim
          (λ (q : eqb (head r) v ≡ true). rw (q, moved_on) (none_left 1 r.bins e))
          (λ (q : eqb (head r) v ≡ false). rw (q, moved_on) e)
          (both (eqb (head r) v));
    }
