-- After a step: how many of the runs that were moved have a number left is told by how many keys were put back; and the weight that was in play is the one in which
-- each of them has a head. Assumes nothing.
use Prim.Native.Nat.{ℕ, ◌+◌, ◌-◌, ◌^◌, ◌≤◌, ◌<◌}
use lib.Count.{ones}
use lib.ListN.{length, drop, length-drop}
use mathlib.Core.Bool.{true}
use mathlib.Core.List.{List, map, Memᴰ}
use mathlib.Core.Logic.{⊎_elim}
use mathlib.Core.Path.{◌≡◌, refl, sym, ap, ◌∙◌, subst}
use native.Mathlib.Omega.{arith}
use Rattle.model.proofs.Chosen.{names_of_all}
use Rattle.model.proofs.Count.{total_map, total_le, total_add, total_less}
use Rattle.model.proofs.Masks.{ascending, ones_names}
use Rattle.model.proofs.Tests.{both, lt_or_le}
use Rattle.model.proofs.Walking.{map_mem}
use Rattle.model.specs.Plain.{count}
use Rattle.model.specs.Runs.{Run, past_bin, total, one, weighted, names}
use Rattle.model.specs.Walk.{head}
use Rattle.walk_keys.proofs.Row.{sum_one}
use Rattle.walk_state.proofs.Choosing.{names_label}
use Rattle.walk_state.proofs.Going.{weigh_one, step_label, step_still}
use Rattle.walk_state.proofs.Moving.{runs_at_length, runs_at_labels, keyed_none, not_named_zero, not_named_is}
use Rattle.walk_state.proofs.InPlay.{if_heads_step}
use Rattle.walk_state.specs.Moves.{step_named, StepReady}
use Rattle.walk_state.specs.State.{runs_at, keyed, not_named, Holds, InPlay, weight_if_heads}
use Rattle.walk_weight.specs.Lowering.{Lowerable, AllHave}

module _ (numbers ends positions keys : List ℕ) (from named : ℕ) (s : StepReady numbers ends positions keys from named) (positions' keys' : List ℕ) (start : ℕ)
    (h : Holds numbers ends positions' keys' start (map (step_named named) (runs_at 0 numbers positions ends))) where
  abbrev rs : List Run
  rs = runs_at 0 numbers positions ends

  -- a key for each run that was not moved, and one for each that has a head after the step
  before : length keys - from ≡ total (not_named named (keyed (λ k. 1))) rs
  before = sym (length-drop from keys) ∙ (sym (sum_one (drop from keys)) ∙ s.lacks.same (λ k. 1))

  after : length keys' - start ≡ total (λ r. keyed (λ k. 1) (step_named named r)) rs
  after = sym (length-drop start keys') ∙ (sym (sum_one (drop start keys')) ∙ (h.order.same (λ k. 1) ∙ total_map (keyed (λ k. 1)) (step_named named) rs))

  pub not_after : start ≤ from
  not_after =
      let b = before in
      let a = after in
      let l = total_le (not_named named (keyed (λ k. 1))) (λ r. keyed (λ k. 1) (step_named named r)) rs (λ r m. more r) in
      let x = s.lacks.size in
      let y = h.size in
      let z = s.lacks.starts in
      let w = h.starts in
      omega arith
    where
      more : (r : Run) → not_named named (keyed (λ k. 1)) r ≤ keyed (λ k. 1) (step_named named r)
      more r =
          ⊎_elim
          (λ q. let e = not_named_zero named (keyed (λ k. 1)) r q in omega arith)
          (λ q. let e = not_named_is named (keyed (λ k. 1)) r q in let f = ap (keyed (λ k. 1)) (step_still named r q) in omega arith)
          (both (names named r))

  -- where all are put back, each of them has a head
  kept_heads : from - start ≡ ones named → (r : Run) → Memᴰ r rs → names named r ≡ true → head (step_named named r) < past_bin
  unfolding count one
  kept_heads e r m q =
      let labels = runs_at_labels 0 numbers positions ends in
      let k = runs_at_length 0 numbers positions ends s.lacks.inside.lengths in
      let b = before in
      let a = after in
      let f = not_after in
      let x = s.lacks.size in
      let y = h.size in
      let z = s.lacks.starts in
      let n = ones_names named rs (ascending labels) (names_of_all named rs labels (subst (λ x. named < 2 ^ x) (sym k) s.lacks.only)) in
      let d = total_add (not_named named (keyed (λ k. 1))) (λ r. one (names named r)) rs in
      ⊎_elim
      (λ (l : head (step_named named r) < past_bin). l)
      (λ (l : past_bin ≤ head (step_named named r)).
      let t = total_less (λ r. keyed (λ k. 1) (step_named named r)) (λ r. not_named named (keyed (λ k. 1)) r + one (names named r)) rs (λ r m. most r) r m
      (let i = keyed_none (λ k. 1) (step_named named r) l in let j = ap one q in let o = one_true in omega arith) in
      absurd (omega arith))
      (lt_or_le (head (step_named named r)) past_bin)
    where
      one_true : one true ≡ 1
      one_true = refl

      most : (r : Run) → keyed (λ k. 1) (step_named named r) ≤ not_named named (keyed (λ k. 1)) r + one (names named r)
      most r =
          ⊎_elim
          (λ (q : names named r ≡ true). let w = weigh_one (step_named named r) in let j = ap one q in let o = one_true in omega arith)
          (λ q. let e = not_named_is named (keyed (λ k. 1)) r q in let f = ap (keyed (λ k. 1)) (step_still named r q) in omega arith)
          (both (names named r))

  pub all_kept : (count : ℕ) → count ≡ ones named → AllHave numbers ends positions' named count (from - start)
  all_kept count n =
      record {
        each = λ e r m q.
            let p = map_mem (step_named named) rs r (subst (λ x. Memᴰ r x) h.runs_are_law m) in
            let l = names_label named (step_named named p.0) p.0 (step_label named p.0) in
            subst (λ x. head x < past_bin) (sym p.2) (kept_heads (e ∙ n) p.0 p.1 (sym l ∙ (sym (ap (names named) p.2) ∙ q)));
      }

  pub lowerable : (ws : List ℕ) (weight : ℕ) → InPlay numbers ends ws positions weight → Lowerable numbers ends ws positions' named weight
  lowerable ws weight w =
      record {
        few = s.few;
        inside = h.inside;
        only = s.lacks.only;
        row = w.row;
        sum = w.sum ∙ (sym (if_heads_step ws named rs s.heads) ∙ ap (λ x. weight_if_heads named (weighted ws x)) (sym h.runs_are_law));
      }
