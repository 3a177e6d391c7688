-- A round as the code takes it: the last gap where the weight that the state carries is too little, for it is the one in play, and the head up to which the chosen runs
-- weigh enough otherwise. Assumes nothing.
use Prim.Native.Nat.{ℕ, ◌-◌, ◌/◌, ◌≤◌, ◌<◌}
use lib.Dec.{ltb}
use lib.ListN.{length, drop}
use mathlib.Core.List.{List, [], ◌∷◌, Memᴰ}
use mathlib.Core.Path.{◌≡◌, sym, ap, ◌∙◌, subst}
use native.Mathlib.Omega.{arith}
use Rattle.model.specs.Certificate.{gap}
use Rattle.model.specs.Runs.{Run, last_bin, past_bin, weight_of_all, mask, mask_of_all, most_runs}
use Rattle.model.specs.Walk.{wrote, head, weight_in_play, enough_head, round, walk}
use Rattle.model.proofs.Heads.{Heads}
use Rattle.model.proofs.Masks.{Ascending}
use Rattle.walk_keys.specs.Row.{no_key, sum_of, label_sum, key_weight, reached_head, Reaches, HaveWeights}
use Rattle.walk_progress.proofs.Progress.{onward_end}
use Rattle.walk_tally.specs.Tally.{undoubled}
use Rattle.walk_write.specs.Writes.{counts_of, goes_on, ends_with, Fitted, LastReady, LastGap}
use Rattle.walk_settle.specs.Turns.{Stands, Chooses, Goes}
use Rattle.walk_advance.specs.Advances.{Raises, Advances}
use Rattle.walk_write.specs.declared.State.{State}
use Rattle.walk_write.specs.declared.Turn.{Turn}
use Rattle.walk_write.specs.declared.Turn.TheVariants.{On, Done}
use Rattle.walk_write.specs.declared.Stopped.{Stopped}
use Rattle.refusal.specs.Number.{number_of}
use Rattle.std.specs.Prelude.{Result, Ok, Err}
use Rattle.walk_advance.proofs.Advancing.{heads_small}
use Rattle.walk_settle.proofs.Choosing.{chosen_labels, chosen_within, chosen_small, chosen_weigh, chosen_rises, chosen_order, chosen_met, mask_of_chosen}
use Rattle.walk_progress.proofs.Rounds.{gap_mask, front_in_all, round_ends}
use Rattle.walk_write.proofs.Rows.{row_labels, row_bins, row_mask, row_weights, reached_is}
use Rattle.walk_state.proofs.Moving.{past_is}
use Rattle.walk_settle.proofs.Passing.{row_weight_in_play}
use Rattle.walk_state.proofs.Choosing.{idle_in_play}
use Rattle.walk_state.specs.State.{runs_at, chosen_at, InOrder}

module _ (numbers ends ws positions keys A B : List ℕ) (m t : ℕ) (w : State) (s : Stands numbers ends ws positions keys t w)
    (c : Chooses m numbers ends ws positions t) (fits : Fitted B w) where
  abbrev cs : List Run
  cs = chosen_at ws m numbers positions ends

  abbrev row : List ℕ
  row = drop w.start keys

  labels : Ascending 0 cs
  labels = chosen_labels numbers ends ws positions m t c keys w.start s.few s.holds

  small : (r : Run) → Memᴰ r cs → r.label < most_runs
  small = chosen_small numbers ends ws positions m t c keys w.start s.few s.holds

  order : InOrder cs row
  order = chosen_order numbers ends ws positions m t c keys w.start s.few s.holds

  all_chosen : mask_of_all cs ≡ m
  all_chosen = mask_of_chosen numbers ends ws positions m t c keys w.start s.few s.holds

  heads : Heads cs
  heads = heads_small w.floor cs (chosen_rises numbers ends ws positions m t c keys w.start s.few s.holds w.floor s.rising)

  met : t ≤ weight_of_all cs
  met = chosen_met numbers ends ws positions m t c keys w.start s.few s.holds

  -- the weight that the state carries is that of the chosen runs with a head
  carried : w.weight ≡ weight_in_play cs
  carried = s.in_play.sum ∙ sym (idle_in_play m (runs_at 0 numbers positions ends) c.idle ws)

  pub reach_ready : t ≤ w.weight → (0 < t) × (w.start ≤ length keys) × HaveWeights ws row × (t ≤ sum_of (key_weight ws) row)
  reach_ready q =
      let e = row_weight_in_play numbers ends positions keys w.start s.few s.holds ws in
      let i = s.in_play.sum in (
        s.some,
        s.holds.starts,
        row_weights cs labels small row order ws (length ends) s.in_play.row (chosen_within numbers ends ws positions m t c keys w.start s.few s.holds),
        omega arith,
      )

  -- the head that the row gives
  reached : reached_head ws t row ≡ enough_head t cs
  reached = reached_is cs labels small row order ws (chosen_weigh numbers ends ws positions m t c keys w.start s.few s.holds) t s.some met heads

  row_named : label_sum row ≡ mask (λ r. ltb (head r) past_bin) cs
  row_named = row_mask cs labels small row order

  bins : (k : ℕ) → Memᴰ k row → k / 256 < past_bin
  bins = row_bins cs labels small row order

  pub last_ready : LastReady m keys B w
  unfolding no_key
  last_ready =
      let e = row_named in
      let a = all_chosen in
      let l = front_in_all cs past_bin in
      record {
        starts = s.holds.starts;
        labels = row_labels cs labels small row order;
        named = omega arith;
        bins = λ k i. let b = bins k i in let p = past_is in omega arith;
        written = fits.written;
        parts = fits.parts;
      }

  -- the gap that is written is the round's
  last_round : w.weight < t → (n : ℕ) → round (walk n t) t w.floor cs ≡ wrote (gap w.floor last_bin (m - label_sum row)) ∷ []
  last_round h n =
      round_ends (walk n t) t w.floor cs (let e = carried in omega arith)
      ∙ λ i. wrote (gap w.floor last_bin ((sym (gap_mask cs past_bin) ∙ λ j. all_chosen j - sym row_named j) i)) ∷ []

  pub ends_there : (B' : List ℕ) (r : Result Turn Stopped) → w.weight < t → LastGap m keys w B B' r
      → Goes (λ n. round (walk n t) t w.floor cs) m numbers ends ws t w A B positions keys A B' r × Raises w.floor r
  unfolding goes_on ends_with
  ends_there B' (Ok (On x)) h g = absurd g
  ends_there B' (Ok (Done x)) h g =
      let l = ap undoubled g.0.tally in (
        (
          omega arith,
          λ allowance n k. ap (goes_on allowance w A B) (last_round h n) ∙ (g.1 allowance A [] ∙ onward_end allowance (counts_of allowance x) A B'),
        ),
        tt,
      )
  ends_there B' (Err x) h g = (
    (
      subst (λ (z : State). undoubled z.tally ≤ undoubled w.tally) (sym g.0) (omega arith),
      λ allowance n k.
          ap (goes_on allowance w A B) (last_round h n)
          ∙ (g.1.2 allowance A []
          ∙ λ i. ends_with (number_of (sym g.1.0 i)) allowance (sym g.0 i) A (sym g.1.1 i)),
    ),
    tt,
  )

  -- a head that is reached is a bin
  module _ (v : ℕ) (r : Reaches ws t row v) where
    head_bin : v < past_bin
    head_bin = let k = r.1 in let b = bins k.0 k.1 in omega (arith, k.2)

    pub head_fits : v < 4294967296
    head_fits = let b = head_bin in let e = past_is in omega arith

    pub advances : t ≤ w.weight → Advances m numbers ends ws positions t v
    advances q = record { bin = head_bin; left = let e = carried in omega arith; least = sym reached ∙ r.0 }
