-- Where the runs of a walk begin: those that a mask does not choose have no number left, the others are at their first bins. Assumes nothing.
use Prim.Native.Nat.{ℕ, suc, ◌+◌, ◌-◌, ◌≤◌, ◌<◌}
use lib.Dec.{eqb}
use lib.ListN.{length, get_or}
use mathlib.Core.Bool.{true, false}
use mathlib.Core.List.{List, [], ◌∷◌, map}
use mathlib.Core.Logic.{⊎_elim}
use mathlib.Core.Path.{◌≡◌, refl, sym, ap, ap₂, ◌∙◌}
use native.Mathlib.Omega.{arith}
use Rattle.model.specs.Rows.{Rise, rise_nil}
use Rattle.model.specs.Runs.{Run, slice, bit, names, chosen}
use Rattle.model.proofs.Chosen.{chosen_mem, chosen_map}
use Rattle.model.proofs.Tests.{both}
use Rattle.model.proofs.Walking.{map_mem}
use Rattle.walk_state.specs.Moves.{PlacedAt}
use Rattle.walk_state.specs.State.{runs_at, Inside, Idle}
use Rattle.walk_state.proofs.Choosing.{names_label}
use Rattle.walk_state.proofs.Going.{map_still}
use Rattle.walk_begin.specs.Begin.{ChosenAt, standing, begins_at}

standing_in : (m : ℕ) (r : Run) → names m r ≡ true → standing m r ≡ r
unfolding standing
standing_in m r e = rw (e, standing)

standing_out : (m : ℕ) (r : Run) → names m r ≡ false → standing m r ≡ record { label = r.label; weight = r.weight; bins = [] }
unfolding standing
standing_out m r e = rw (e, standing)

standing_label : (m : ℕ) (r : Run) → (standing m r).label ≡ r.label
standing_label m r =
    ⊎_elim (λ q. ap (λ (x : Run). x.label) (standing_in m r q)) (λ q. ap (λ (x : Run). x.label) (standing_out m r q)) (both (names m r))

pub standing_idle : (m : ℕ) (rs : List Run) → Idle m (map (standing m) rs)
standing_idle m rs =
    record {
      each = λ r n e.
          let p = map_mem (standing m) rs r n in
          let l = ap (λ (x : Run). x.label) p.2 ∙ standing_label m p.0 in
          ap (λ (x : Run). x.bins) (p.2 ∙ standing_out m p.0 (sym (names_label m r p.0 l) ∙ e));
    }

-- the chosen runs are where they were
pub standing_chosen : (m : ℕ) (rs : List Run) → chosen m (map (standing m) rs) ≡ chosen m rs
standing_chosen m rs =
    sym (chosen_map m (standing m) rs (standing_label m)) ∙ map_still (standing m) (chosen m rs) (λ r n. standing_in m r (chosen_mem m rs n).1)

pub standing_rises : (m a : ℕ) (r : Run) → Rise a r.bins → Rise a (standing m r).bins
standing_rises m a r h =
    ⊎_elim (λ q. rw (standing_in m r q) h) (λ q. rw (standing_out m r q) rise_nil) (both (names m r))

module _ (m : ℕ) where
  -- the place where a run begins
  module _ (i first e : ℕ) where
    pub begins_first : eqb (bit m i) 1 ≡ true → begins_at m i first e ≡ first
    unfolding begins_at
    begins_first q = rw (q, begins_at)

    pub begins_end : eqb (bit m i) 1 ≡ false → begins_at m i first e ≡ e
    unfolding begins_at
    begins_end q = rw (q, begins_at)

    begins_inside : first ≤ e → begins_at m i first e ≤ e
    begins_inside h =
        ⊎_elim
        (λ q. let f = begins_first q in omega arith)
        (λ q. let f = begins_end q in omega arith)
        (both (eqb (bit m i) 1))

    -- there it is as it stands
    begins_standing : (numbers : List ℕ) → record { label = i; weight = 1; bins = slice numbers (begins_at m i first e) e } ≡ standing m (record { label = i; weight = 1; bins = slice numbers first e })
    unfolding names
    begins_standing numbers =
        let r : Run = record { label = i; weight = 1; bins = slice numbers first e } in
        let z : e - e ≡ 0 = omega arith in
        ⊎_elim
        (λ q. (λ d. record { label = i; weight = 1; bins = slice numbers (begins_first q d) e }) ∙ sym (standing_in m r q))
        (λ q. rw (begins_end q, z) (sym (standing_out m r q)))
        (both (eqb (bit m i) 1))

  -- all runs are then as they stand
  all_standing : (i : ℕ) (numbers ends firsts positions : List ℕ) → length firsts ≡ length ends → length positions ≡ length ends
      → ((j : ℕ) → j < length ends → get_or positions j 0 ≡ begins_at m (i + j) (get_or firsts j 0) (get_or ends j 0))
      → runs_at i numbers positions ends ≡ map (standing m) (runs_at i numbers firsts ends)
  unfolding runs_at
  all_standing i numbers [] [] [] f p h = refl
  all_standing i numbers [] (x ∷ firsts) positions f p h = absurd (omega arith)
  all_standing i numbers [] [] (x ∷ positions) f p h = absurd (omega arith)
  all_standing i numbers (e ∷ ends) [] positions f p h = absurd (omega arith)
  all_standing i numbers (e ∷ ends) (x ∷ firsts) [] f p h = absurd (omega arith)
  all_standing i numbers (e ∷ ends) (x ∷ firsts) (y ∷ positions) f p h =
      let z : i + 0 ≡ i = omega arith in
      let g : y ≡ begins_at m i x e = h 0 (omega arith) ∙ ap (λ k. begins_at m k x e) z in
      ap₂ ◌∷◌
      ((λ d. record { label = i; weight = 1; bins = slice numbers (g d) e }) ∙ begins_standing i x e numbers)
      (all_standing (suc i) numbers ends firsts positions (omega arith) (omega arith)
      (λ j l. let k : i + suc j ≡ suc i + j = omega arith in h (suc j) (omega arith) ∙ ap (λ n. begins_at m n (get_or firsts j 0) (get_or ends j 0)) k))

  pub standing_placed : (numbers ends firsts positions : List ℕ) → Inside numbers firsts ends → ChosenAt ends firsts m positions (length ends)
      → PlacedAt numbers ends (map (standing m) (runs_at 0 numbers firsts ends)) positions
  standing_placed numbers ends firsts positions n c =
      record {
        inside = record {
          lengths = c.size;
          before = λ j l.
              let e = c.each j l in
              let k = begins_inside j (get_or firsts j 0) (get_or ends j 0) (n.before j l) in
              omega arith;
          within = n.within;
        };
        runs_are_law = all_standing 0 numbers ends firsts positions n.lengths c.size
            (λ j l. let z : j ≡ 0 + j = omega arith in c.each j l ∙ ap (λ k. begins_at m k (get_or firsts j 0) (get_or ends j 0)) z);
      }
