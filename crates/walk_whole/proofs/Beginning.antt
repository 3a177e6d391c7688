-- The walk's first state stands, and where its rounds end the question does. Assumes nothing.
use Prim.Native.Nat.{ℕ, ◌^◌, ◌≤◌, ◌<◌}
use lib.ListN.{length, drop}
use mathlib.Core.List.{List, map, Memᴰ}
use mathlib.Core.Path.{◌≡◌, sym, ap, ◌∙◌, subst}
use native.Mathlib.Omega.{arith}
use Rattle.model.specs.Compared.{whole_walk}
use Rattle.model.specs.Demands.{Fits}
use Rattle.model.specs.Rows.{Rise}
use Rattle.model.proofs.Masks.{label_below}
use Rattle.model.specs.Runs.{Run, first_bin, past_bin, runs, weighted, chosen, most_runs}
use Rattle.model.specs.Walk.{walk}
use Rattle.model.proofs.FirstChecks.{lists_passed, runs_rising, all_labelled, all_length}
use Rattle.model.proofs.Zeros.{first_is}
use Rattle.model.proofs.Walking.{map_mem}
use Rattle.model.proofs.Weighted.{weights_chosen}
use Rattle.walk_progress.specs.Progress.{onward}
use Rattle.walk_write.specs.Writes.{counts_of, goes_on, Fitted}
use Rattle.walk_settle.specs.Turns.{Stands, Chooses}
use Rattle.walk_rounds.specs.Ends.{Finishes}
use Rattle.walk_whole.specs.Whole.{asked_runs, Begins, counts_from, ComesTo}
use Rattle.std.specs.Prelude.{Result}
use Rattle.walk_write.specs.declared.Stopped.{Stopped}
use Rattle.walk_write.specs.declared.State.{State}
use Rattle.walk_begin.proofs.Standing.{standing_idle, standing_chosen, standing_rises}
use Rattle.walk_keys.specs.Row.{sum_of, key_weight, HaveWeights}
use Rattle.walk_settle.proofs.Passing.{labels, number, small, row_weight_in_play}
use Rattle.walk_state.proofs.Moving.{past_is, runs_at_labels}
use Rattle.walk_write.proofs.Rows.{row_weights}
use Rattle.walk_begin.specs.Begin.{BeginReady, standing}
use Rattle.walk_state.specs.State.{runs_at, chosen_at, Holds, Idle}
use Rattle.weights.specs.Named.{named_weight}
use Rattle.weights.proofs.Named.{named_weight_law}

-- the state before the first round
abbrev pub first_state : ℕ → ℕ → ℕ → ℕ → ℕ → State
first_state start answered written tally weight = record { floor = 1; start = start; answers = answered; parts = 0; bytes = written; tally = tally; weight = weight }

module _ (numbers ends ws firsts : List ℕ) (m t : ℕ) (positions keys A B : List ℕ) (answered written tally : ℕ)
    (b : Begins numbers ends ws firsts m t positions keys B written tally) where
  pub begin_ready : BeginReady numbers ends firsts m positions keys
  begin_ready =
      record { few = b.asked.few; inside = b.asked.placed.inside; only = b.asked.only; size = b.positions_size; keys_size = b.keys_size }

  module _ (fits : Fits past_bin numbers) (positions' keys' : List ℕ) (start : ℕ)
      (begun : Holds numbers ends positions' keys' start (map (standing m) (runs_at 0 numbers firsts ends))) where
    -- each chosen run is at its first bin
    h : Holds numbers ends positions' keys' start (map (standing m) (runs numbers ends))
    h = subst (λ rs. Holds numbers ends positions' keys' start (map (standing m) rs)) b.asked.placed.runs_are_law begun

    rising : (r : Run) → Memᴰ r (runs_at 0 numbers positions' ends) → Rise 1 r.bins
    rising r i =
        let q = map_mem (standing m) (runs numbers ends) r (subst (λ x. Memᴰ r x) h.runs_are_law i) in
        let s = standing_rises m first_bin q.0 ((runs_rising numbers ends fits (lists_passed numbers ends b.asked.lists)).each q.0 q.1) in
        subst (λ x. Rise x r.bins) first_is (subst (λ (x : Run). Rise first_bin x.bins) (sym q.2) s)

    held : Holds numbers ends positions' keys' start (runs_at 0 numbers positions' ends)
    held = subst (λ x. Holds numbers ends positions' keys' start x) (sym h.runs_are_law) h

    -- what the weight that is summed asks
    pub row_ready : (start ≤ length keys') × (length keys' ≤ most_runs) × HaveWeights ws (drop start keys')
    row_ready =
        let few = b.asked.few in
        let z = h.size in (
          h.starts,
          omega arith,
          row_weights (runs_at 0 numbers positions' ends) (labels numbers ends positions' keys' start few held) (small numbers ends positions' keys' start few held)
              (drop start keys') held.order ws (length ends) b.asked.row
              (λ r m. let n = number numbers ends positions' keys' start few held in let l = label_below _ (runs_at_labels 0 numbers positions' ends) r m in omega arith),
        )

    -- what the chosen weigh
    met : t ≤ named_weight ws m
    met =
        let n = all_length numbers ends in
        let e = weights_chosen ws m (runs numbers ends) in
        let f = named_weight_law ws m (runs numbers ends) (all_labelled numbers ends) (let k = b.asked.few in omega arith) (subst (λ x. m < 2 ^ x) (sym n) b.asked.only) in
        let k = b.asked.met in
        omega arith

    pub stands_first : (weight : ℕ) → weight ≡ sum_of (key_weight ws) (drop start keys') → Stands numbers ends ws positions' keys' t (first_state start answered written tally weight) × Chooses m numbers ends ws positions' t
        × Fitted B (first_state start answered written tally weight)
    stands_first weight carried = (
      record {
        few = b.asked.few;
        some = b.asked.some;
        holds = held;
        rising = rising;
        in_play = record { row = b.asked.row; sum = carried ∙ row_weight_in_play numbers ends positions' keys' start b.asked.few held ws };
        bin = let e = past_is in omega arith;
        allowed = b.asked.allowed;
      },
      record { only = b.asked.only; enough = met; idle = subst (λ x. Idle m x) (sym h.runs_are_law) (standing_idle m (runs numbers ends)) },
      record { written = b.asked.bytes_fit; parts = omega arith },
    )

    -- the chosen runs are at their first bins
    chosen_first : asked_runs numbers ends ws m ≡ chosen_at ws m numbers positions' ends
    chosen_first = ap (weighted ws) (sym (ap (chosen m) h.runs_are_law ∙ standing_chosen m (runs numbers ends)))

    pub comes_first : (weight : ℕ) (A' B' : List ℕ) (r : Result State Stopped) → Finishes (chosen_at ws m numbers positions' ends) t (first_state start answered written tally weight) A B A' B' r
        → ComesTo numbers ends ws m t answered written tally A B A' B' r
    unfolding goes_on counts_of counts_from whole_walk
    comes_first weight A' B' r f =
        record {
          left_then = f.left;
          as_asked = λ allowance l.
              (λ i. onward allowance (counts_from allowance answered written tally) A B (walk past_bin t (first_is i) (chosen_first i)))
              ∙ f.comes_to allowance past_bin l (omega arith);
        }
