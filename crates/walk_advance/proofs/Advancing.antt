-- A round from the head on up to which runs weigh enough: the gap, the searches, and what follows. Assumes nothing.
use Prim.Native.Nat.{ℕ, ◌+◌, ◌-◌, ◌*◌, ◌≤◌, ◌<◌}
use borrow.Author.Tests.{le-ltb}
use lib.Dec.{ltb}
use lib.ListN.{drop, take}
use mathlib.Core.List.{List, ◌++◌, map, Memᴰ}
use mathlib.Core.Logic.{⊎_elim}
use mathlib.Core.Path.{◌≡◌, refl, sym, ap, ◌∙◌, subst}
use native.Mathlib.Omega.{arith}
use Rattle.model.specs.Compared.{doublings_of, halvings_of}
use Rattle.model.specs.Runs.{Run, past_bin, weighted, mask, mask_of_all, names}
use Rattle.model.specs.Walk.{Event, head, searches, searched, settle, round, walk}
use Rattle.model.specs.Rows.{Rise, equal, halvings_within}
use Rattle.model.proofs.Events.{both_kinds}
use Rattle.model.proofs.From.{rise_from, head_bin}
use Rattle.model.proofs.Heads.{Heads, at_most, enough_reached, enough_ge}
use Rattle.model.proofs.Quiet.{quiet_searches, Spent, spent_quiet, within_alone}
use Rattle.model.proofs.Tests.{lt_or_le}
use Rattle.model.proofs.Walking.{all_equal, map_mem, searched_bins}
use Rattle.walk_keys.specs.Row.{below_count, label_sum}
use Rattle.walk_progress.specs.Progress.{probes_so, onward, ended, with_probes}
use Rattle.walk_progress.proofs.Progress.{onward_quiet, onward_spent}
use Rattle.walk_write.specs.Writes.{counts_of, goes_on, ends_with, Fitted, Writes, gap_events}
use Rattle.walk_settle.specs.Turns.{Stands, Chooses, Goes, Settles}
use Rattle.walk_advance.specs.Advances.{Raises, Advances}
use Rattle.walk_write.specs.declared.State.{State}
use Rattle.walk_write.specs.declared.Turn.{Turn}
use Rattle.walk_write.specs.declared.Turn.TheVariants.{On, Done}
use Rattle.walk_write.specs.declared.Stopped.{Stopped}
use Rattle.refusal.specs.Number.{number_of}
use Rattle.refusal.specs.declared.Reason.{Reason}
use Rattle.refusal.specs.declared.Reason.TheVariants.{ProbesSpent}
use Rattle.std.specs.Prelude.{Result, Ok, Err}
use Rattle.walk_settle.proofs.Choosing.{chosen_labels, chosen_small, chosen_rises, chosen_order, chosen_met, mask_of_chosen, chooses_moved, chosen_moved}
use Rattle.walk_settle.proofs.Passing.{labels, small, taken_out, heads_from}
use Rattle.walk_progress.proofs.Rounds.{gap_before, gap_mask, front_in_all, round_is}
use Rattle.walk_write.proofs.Rows.{front_mask, front_names}
use Rattle.walk_state.specs.Moves.{SearchReady}
use Rattle.walk_searches.specs.Searches.{Exhausted, SearchedRuns}
use Rattle.walk_tally.specs.Tally.{left_in, halved_in, undoubled}
use Rattle.walk_state.specs.State.{runs_at, chosen_at, Holds, InPlay}
use Rattle.walk_state.proofs.Choosing.{idle_equal, idle_searches, searched_keeps}
use Rattle.walk_state.proofs.Going.{map_still, searched_still}

pub heads_small : (f : ℕ) (rs : List Run) → ((r : Run) → Memᴰ r rs → Rise f r.bins) → Heads rs
unfolding head
heads_small f rs h = record { small = λ r m. head_bin (h r m) }

searched_rises : (v : ℕ) {a : ℕ} (r : Run) → Rise a r.bins → v ≤ past_bin → Rise v (searched v r).bins
searched_rises v r h b = subst (λ (x : Run). Rise v x.bins) (sym (searched_bins v r.label r.weight r.bins h b)) (rise_from v r.bins h)

module _ (numbers ends ws positions keys A B : List ℕ) (m t v : ℕ) (w : State) (n named : ℕ) (s : Stands numbers ends ws positions keys t w)
    (c : Chooses m numbers ends ws positions t) (fits : Fitted B w) (adv : Advances m numbers ends ws positions t v)
    (counts : n ≡ below_count (v * 256) (drop w.start keys)) (names : named ≡ label_sum (take n (drop w.start keys))) where
  abbrev rs : List Run
  rs = runs_at 0 numbers positions ends

  abbrev cs : List Run
  cs = chosen_at ws m numbers positions ends

  front_is : named ≡ label_sum (take (below_count (v * 256) (drop w.start keys)) (drop w.start keys))
  front_is = names ∙ ap (λ x. label_sum (take x (drop w.start keys))) counts

  named_is : named ≡ mask (λ r. ltb (head r) v) rs
  named_is =
      let b = adv.bin in
      front_is
      ∙ front_mask rs (labels numbers ends positions keys w.start s.few s.holds) (small numbers ends positions keys w.start s.few s.holds)
      (drop w.start keys) s.holds.order v (omega arith)

  named_chosen : named ≡ mask (λ r. ltb (head r) v) cs
  named_chosen =
      let b = adv.bin in
      front_is
      ∙ front_mask cs (chosen_labels numbers ends ws positions m t c keys w.start s.few s.holds)
      (chosen_small numbers ends ws positions m t c keys w.start s.few s.holds) (drop w.start keys)
      (chosen_order numbers ends ws positions m t c keys w.start s.few s.holds) v (omega arith)

  pub search_ready : SearchReady numbers ends positions keys (w.start + n) named v
  search_ready =
      let b = adv.bin in
      record {
        few = s.few;
        lacks = taken_out numbers ends positions keys w.start s.few s.holds v (omega arith) n named counts named_is;
        below = record {
          each = λ r k.
              ap (λ x. Rattle.model.specs.Runs.names x r) named_is
              ∙ front_names rs (labels numbers ends positions keys w.start s.few s.holds)
              (small numbers ends positions keys w.start s.few s.holds) (drop w.start keys) s.holds.order v r k;
        };
      }

  all_chosen : mask_of_all cs ≡ m
  all_chosen = mask_of_chosen numbers ends ws positions m t c keys w.start s.few s.holds

  pub named_small : named ≤ m
  named_small = let e = named_chosen in let a = all_chosen in let l = front_in_all cs v in omega arith

  gap_events_are : gap_events w.floor v (m - named) ≡ gap_before w.floor v cs
  unfolding gap_events gap_before
  gap_events_are = ap (gap_events w.floor v) ((λ i. sym all_chosen i - named_chosen i) ∙ gap_mask cs v)

  -- what is still to be done after the searches
  abbrev rest : ℕ → List Event
  rest k = settle (walk k t) t v (map (searched v) cs)

  -- the round as the gap, the searches and the rest
  round_parts : (k : ℕ) → round (walk k t) t w.floor cs ≡ gap_events w.floor v (m - named) ++ (searches v rs ++ rest k)
  round_parts k =
      let b = adv.bin in
      round_is (walk k t) t w.floor v cs adv.left adv.least
      ∙ (λ i. sym gap_events_are i ++ (idle_searches m rs c.idle ws v (omega arith) i ++ rest k))

  pub gap_stops : (B' : List ℕ) (reason : Reason) → Writes (gap_events w.floor v (m - named)) w B B' (Err reason)
      → Goes (λ k. round (walk k t) t w.floor cs) m numbers ends ws t w A B positions keys A B' (Err (record { reason = reason; at = w })) × Raises w.floor (Err (record { reason = reason; at = w }))
  gap_stops B' reason h = (
    (
      omega arith,
      λ allowance k l.
          ap (goes_on allowance w A B) (round_parts k)
          ∙ (h.2 allowance A (searches v rs ++ rest k) ∙ λ i. ends_with (number_of (sym h.0 i)) allowance w A (sym h.1 i)),
    ),
    tt,
  )

  module _ (x : State) (B' : List ℕ) (g : Writes (gap_events w.floor v (m - named)) w B B' (Ok x)) where
    -- after the gap, to the searches
    to_searches : (allowance k : ℕ) → goes_on allowance w A B (round (walk k t) t w.floor cs) ≡ goes_on allowance x A B' (searches v rs ++ rest k)
    to_searches allowance k = ap (goes_on allowance w A B) (round_parts k) ∙ g.1 allowance A (searches v rs ++ rest k)

    -- the probes are as they were
    x_tally : x.tally ≡ w.tally
    x_tally = g.0.tally

    pub x_in_play : InPlay numbers ends ws positions x.weight
    x_in_play = subst (λ z. InPlay numbers ends ws positions z) (sym g.0.weight) s.in_play

    -- the state where no probe is left
    abbrev spent_state : ℕ → State
    spent_state tally = record { floor = x.floor; start = x.start; answers = x.answers; parts = x.parts; bytes = x.bytes; tally = tally; weight = x.weight }

    -- of the searches as many probes are made as are left
    cut_searches : (n tally : ℕ) → n ≡ left_in x.tally → Exhausted (searches v rs) x.tally tally
        → (q : Spent n (searches v rs)) × (halved_in x.tally + halvings_of q.done ≡ halved_in tally) × (doublings_of q.done + undoubled tally ≡ undoubled x.tally)
    cut_searches n tally e h =
        let q = spent_quiet n (quiet_searches v rs) (omega (arith, h.0)) in
        let p = q.probes in
        let b = both_kinds q.done in
        let k = within_alone q in
        let i = ap (λ y. halvings_within y (searches v rs)) e in
        (q, omega (arith, h.2), omega (arith, h.1, h.2))

    pub searches_stop : (positions' keys' : List ℕ) (tally : ℕ) → SearchedRuns numbers ends ws rs v x.tally positions' keys' (Err (record { 0 = tally }))
        → Goes (λ k. round (walk k t) t w.floor cs) m numbers ends ws t w A B positions' keys' A B' (Err (record { reason = ProbesSpent; at = spent_state tally }))
        × Raises w.floor (Err (record { reason = ProbesSpent; at = spent_state tally }))
    unfolding goes_on ends_with counts_of with_probes probes_so
    searches_stop positions' keys' tally h =
        let l = ap undoubled x_tally in
        let f = (cut_searches (left_in x.tally) tally refl h).2 in (
          (
            omega arith,
            λ allowance k o.
                let q = cut_searches (allowance - probes_so (counts_of allowance x)) tally (omega arith) h in
                let d : allowance - undoubled x.tally + doublings_of q.0.done ≡ allowance - undoubled tally = omega (arith, q.2) in
                to_searches allowance k
                ∙ (onward_spent allowance (counts_of allowance x) A B' (rest k) q.0
                ∙ λ j. ended 7 (record { answers = x.answers; parts = x.parts; bytes = x.bytes; doublings = d j; halvings = q.1 j }) A B'),
          ),
          tt,
        )

    -- the state after the searches
    abbrev searched_state : ℕ → ℕ → ℕ → State
    searched_state start tally weight = record { floor = v; start = start; answers = x.answers; parts = x.parts; bytes = x.bytes; tally = tally; weight = weight }

    module _ (positions' keys' : List ℕ) (start tally weight : ℕ) (h : SearchedRuns numbers ends ws rs v x.tally positions' keys' (Ok (record { start = start; tally = tally; weight = weight }))) where
      -- halving probes are probes
      still_allowed : undoubled tally ≤ undoubled w.tally
      still_allowed = let b = both_kinds (searches v rs) in let e = ap undoubled x_tally in omega (arith, h.0.0, h.0.1)

      runs_now : runs_at 0 numbers positions' ends ≡ map (searched v) rs
      runs_now = h.1.runs_are_law

      chosen_now : chosen_at ws m numbers positions' ends ≡ map (searched v) cs
      chosen_now = chosen_moved numbers ends ws positions m t c (searched v) (searched_keeps v) positions' runs_now

      chooses_there : Chooses m numbers ends ws positions' t
      chooses_there = chooses_moved numbers ends ws positions m t c (searched v) (searched_keeps v) positions' runs_now

      pub stands_there : Stands numbers ends ws positions' keys' t (searched_state start tally weight) × Fitted B' (searched_state start tally weight)
      stands_there =
          let b = adv.bin in
          let k = g.0 in (
            record {
              few = s.few;
              some = s.some;
              holds = subst (λ y. Holds numbers ends positions' keys' start y) (sym runs_now) h.1;
              rising = λ r i.
                  let p = map_mem (searched v) rs r (subst (λ y. Memᴰ r y) runs_now i) in
                  subst (λ (y : Run). Rise v y.bins) (sym p.2) (searched_rises v p.0 (s.rising p.0 p.1) (omega arith));
              in_play = h.2;
              bin = b;
              allowed = let l = still_allowed in let o = s.allowed in omega arith;
            },
            record { written = k.written; parts = k.parts },
          )

      to_settle : (allowance k : ℕ) → undoubled w.tally ≤ allowance → goes_on allowance w A B (round (walk k t) t w.floor cs)
          ≡ goes_on allowance (searched_state start tally weight) A B' (settle (walk k t) t v (chosen_at ws m numbers positions' ends))
      unfolding goes_on counts_of with_probes probes_so
      to_settle allowance k o =
          let e = ap undoubled x_tally in
          let p = h.0.0 in
          let q = h.0.1 in
          let b = both_kinds (searches v rs) in
          let d : allowance - undoubled x.tally + doublings_of (searches v rs) ≡ allowance - undoubled tally = omega arith in
          to_searches allowance k
          ∙ (onward_quiet allowance (counts_of allowance x) A B' (rest k) (quiet_searches v rs) (omega arith)
          ∙ λ i. onward allowance (record { answers = x.answers; parts = x.parts; bytes = x.bytes; doublings = d i; halvings = sym q i }) A B'
          (settle (walk k t) t v (sym chosen_now i)))

      -- the floor is raised
      rising_chosen : (r : Run) → Memᴰ r cs → Rise w.floor r.bins
      rising_chosen = chosen_rises numbers ends ws positions m t c keys w.start s.few s.holds w.floor s.rising

      heads_chosen : (r : Run) → Memᴰ r cs → w.floor ≤ head r
      heads_chosen = heads_from w.floor cs (let b = s.bin in omega arith) rising_chosen

      floor_le : w.floor ≤ v
      floor_le =
          let b = s.bin in
          let e = adv.least in
          let l = enough_ge t w.floor cs (omega arith) heads_chosen in
          omega arith

      -- a floor that is v already is held by runs that weigh enough: no run is searched, and that head is v
      raised : equal v (weighted ws (runs_at 0 numbers positions' ends)) < t → w.floor < v
      raised q =
          ⊎_elim
          (λ (o : w.floor < v). o)
          (λ (o : v ≤ w.floor).
          let same : map (searched v) cs ≡ cs = map_still (searched v) cs (λ r i. searched_still v r (le-ltb (head r) v (at_least o r i))) in
          let e = ap (equal v) (chosen_now ∙ same) in
          let f = idle_equal m (runs_at 0 numbers positions' ends) chooses_there.idle ws v adv.bin in
          let n' = enough_reached t cs (heads_small w.floor cs rising_chosen) (chosen_met numbers ends ws positions m t c keys w.start s.few s.holds) in
          let least = ap (λ y. at_most y cs) adv.least in
          let a = all_equal v cs (at_least o) in
          absurd (omega arith))
          (lt_or_le w.floor v)
        where
          at_least : v ≤ w.floor → (r : Run) → Memᴰ r cs → v ≤ head r
          at_least o r i = let p = heads_chosen r i in omega arith

      settled : (positions'' keys'' A'' B'' : List ℕ) (r : Result Turn Stopped)
          → Goes (λ k. settle (walk k t) t v (chosen_at ws m numbers positions' ends)) m numbers ends ws t (searched_state start tally weight) A B' positions'' keys'' A'' B'' r
          → Settles (weighted ws (runs_at 0 numbers positions' ends)) t v r
          → Goes (λ k. round (walk k t) t w.floor cs) m numbers ends ws t w A B positions'' keys'' A'' B'' r × Raises w.floor r
      settled positions'' keys'' A'' B'' (Ok (On y)) p u =
          let l = still_allowed in
          let j = p.3 in (
            (
              p.0,
              p.1,
              p.2,
              omega arith,
              λ allowance k o. to_settle allowance k o ∙ p.4 allowance k (omega arith),
            ),
            ⊎_elim (λ o. let z = raised o.1 in let y' = o.0 in omega arith) (λ (o : v < y.floor). let z = floor_le in omega arith) u,
          )
      settled positions'' keys'' A'' B'' (Ok (Done y)) p u =
          let l = still_allowed in
          let j = p.0 in
          ((omega arith, λ allowance k o. to_settle allowance k o ∙ p.1 allowance k (omega arith)), tt)
      settled positions'' keys'' A'' B'' (Err y) p u =
          let l = still_allowed in
          let j = p.0 in
          ((omega arith, λ allowance k o. to_settle allowance k o ∙ p.1 allowance k (omega arith)), tt)

      pub then_settles : (positions'' keys'' A'' B'' : List ℕ) (r : Result Turn Stopped)
          → ((i : ℕ) → Chooses i numbers ends ws positions' t
          → Goes (λ k. settle (walk k t) t v (chosen_at ws i numbers positions' ends)) i numbers ends ws t (searched_state start tally weight) A B' positions'' keys'' A'' B'' r)
          × Settles (weighted ws (runs_at 0 numbers positions' ends)) t v r
          → Goes (λ k. round (walk k t) t w.floor cs) m numbers ends ws t w A B positions'' keys'' A'' B'' r × Raises w.floor r
      then_settles positions'' keys'' A'' B'' r p = settled positions'' keys'' A'' B'' r (p.0 m chooses_there) p.1
