-- Past an answer at the floor: the runs that hold it are moved on by one, and the rows hold the runs from the next bin on. Also the front of the row at the
-- floor, and what is left after a front is taken out. Assumes nothing.
use Prim.Native.Nat.{ℕ, suc, ◌+◌, ◌*◌, ◌^◌, ◌≤◌, ◌<◌}
use borrow.Author.Tests.{lt-ltb, le-ltb, eq-eqb, ne_eqb, eqb-true}
use lib.Count.{ones}
use lib.Dec.{ltb, eqb}
use lib.ListN.{length, drop, length-drop, get_or}
use lib.Seq.{drop-drop}
use mathlib.Core.Bool.{true, false}
use mathlib.Core.List.{List, map, Memᴰ}
use mathlib.Core.Logic.{⊎_elim, ◌≢◌}
use mathlib.Core.Path.{◌≡◌, refl, sym, ap, ◌∙◌, subst}
use Rattle.walk_state.proofs.Choosing.{weighted_order}
use Rattle.model.proofs.Weighted.{weighted_ascending, weighted_mem}
use native.Mathlib.Omega.{arith}
use Rattle.model.specs.Runs.{Run, last_bin, past_bin, total, mask, names, most_runs, mask_bits, weighted_run, weighted}
use Rattle.model.specs.Walk.{head, head_of, moved_on, weight_in_play}
use Rattle.model.proofs.Count.{total_eq}
use Rattle.model.specs.Rows.{Rise, Ordered}
use Rattle.model.proofs.From.{from_past_head, from_other_head, rise_from, head_least}
use Rattle.model.proofs.Masks.{Ascending, ascending, label_below, mask_only}
use Rattle.model.proofs.Ordered.{ordered_drop}
use Rattle.model.proofs.Tests.{both, eq_or_ne}
use Rattle.model.proofs.Walking.{past_last, map_same, map_mem}
use Rattle.walk_keys.proofs.Row.{below_le}
use Rattle.walk_keys.specs.Row.{sum_of, below_count, label_sum, Labels, key_weight}
use Rattle.walk_write.specs.Writes.{counts_of}
use Rattle.walk_settle.specs.Turns.{Stands, AtFloor, Passes}
use Rattle.walk_write.specs.declared.State.{State}
use Rattle.walk_write.specs.declared.Turn.TheVariants.{On, Done}
use Rattle.walk_write.proofs.Rows.{row_labels, row_sum, front_names, rest_same, row_in_play}
use Rattle.walk_state.proofs.Moving.{runs_at_length, runs_at_labels}
use Rattle.walk_state.specs.Moves.{step_named, StepReady}
use Rattle.walk_state.specs.State.{runs_at, keyed, not_named, Holds, Lacks, InPlay}

-- what holds of the runs that the rows hold
module _ (numbers ends positions keys : List ℕ) (start : ℕ) (few : length ends ≤ most_runs)
    (h : Holds numbers ends positions keys start (runs_at 0 numbers positions ends)) where
  abbrev rs : List Run
  rs = runs_at 0 numbers positions ends

  pub labels : Ascending 0 rs
  labels = ascending (runs_at_labels 0 numbers positions ends)

  pub number : length rs ≡ length ends
  number = runs_at_length 0 numbers positions ends h.inside.lengths

  pub small : (r : Run) → Memᴰ r rs → r.label < most_runs
  small r m = let n = number in let l = label_below rs (runs_at_labels 0 numbers positions ends) r m in omega arith

  pub front_asks : (start ≤ length keys) × Labels (drop start keys) × (label_sum (drop start keys) < 2 ^ mask_bits)
  front_asks = (h.starts, row_labels rs labels small (drop start keys) h.order, row_sum rs labels small (drop start keys) h.order)

  -- the runs of the row weigh what is in play
  pub row_weight_in_play : (ws : List ℕ) → sum_of (key_weight ws) (drop start keys) ≡ weight_in_play (weighted ws rs)
  unfolding weighted_run
  row_weight_in_play ws =
      row_in_play (weighted ws rs) (weighted_ascending ws labels)
      (λ q m. let p = weighted_mem ws rs q m in let l = small p.0 p.1 in let e = ap (λ (x : Run). x.label) p.2 in omega arith)
      (drop start keys) (weighted_order ws h.order) ws
      (λ q m. let p = weighted_mem ws rs q m in ap (λ (x : Run). x.weight) p.2 ∙ ap (λ (x : Run). get_or ws x.label 1) (sym p.2))

  -- a front taken out
  pub taken_out : (u : ℕ) → u ≤ past_bin → (n named : ℕ) → n ≡ below_count (u * 256) (drop start keys) → named ≡ mask (λ r. ltb (head r) u) rs
      → Lacks numbers ends positions keys (start + n) rs named
  taken_out u b n named e f =
      let k = number in
      let d = length-drop start keys in
      let l = below_le (u * 256) (drop start keys) in
      let s = h.starts in
      let w : drop (start + n) keys ≡ drop (below_count (u * 256) (drop start keys)) (drop start keys) =
      sym (drop-drop n start keys) ∙ ap (λ x. drop x (drop start keys)) e in
      record {
        inside = h.inside;
        size = h.size;
        starts = omega arith;
        runs_are_law = refl;
        ordered = subst (λ x. Ordered 0 x) (sym w) (ordered_drop (below_count (u * 256) (drop start keys)) (drop start keys) h.order.ordered);
        same = λ g.
            ap (sum_of g) w
            ∙ (rest_same rs labels small (drop start keys) h.order u b g ∙ ap (λ x. total (not_named x (keyed g)) rs) (sym f));
        only = subst (λ x. named < 2 ^ x) number (subst (λ x. x < 2 ^ length rs) (sym f) (mask_only (λ r. ltb (head r) u) rs (runs_at_labels 0 numbers positions ends)));
      }

-- ---- at the floor

-- where every head is at least v, those not above v are v
at_floor : (v : ℕ) (h : ℕ) → v ≤ h → ltb h (v + 1) ≡ eqb h v
at_floor v h l =
    ⊎_elim
    (λ (e : h ≡ v). lt-ltb h (v + 1) (omega arith) ∙ sym (eq-eqb h v e))
    (λ (n : h ≢ v). le-ltb h (v + 1) (omega arith) ∙ sym (ne_eqb h v n))
    (eq_or_ne h v)

pub heads_from : (v : ℕ) (rs : List Run) → v ≤ past_bin → ((r : Run) → Memᴰ r rs → Rise v r.bins) → (r : Run) → Memᴰ r rs → v ≤ head r
unfolding head
heads_from v rs b h r m = head_least (h r m) b

pub floor_mask : (v : ℕ) (rs : List Run) → ((r : Run) → Memᴰ r rs → v ≤ head r)
    → mask (λ r. ltb (head r) (v + 1)) rs ≡ mask (λ r. eqb (head r) v) rs
unfolding mask
floor_mask v rs h = total_eq _ _ rs (λ r m. ap (λ x. Rattle.model.specs.Runs.one x * 2 ^ r.label) (at_floor v (head r) (h r m)))

-- ---- past an answer

step_is : (v named : ℕ) (r : Run) → names named r ≡ eqb (head r) v → step_named named r ≡ moved_on v r
unfolding step_named moved_on
step_is v named r e =
    ⊎_elim
    (λ (q : eqb (head r) v ≡ true). rw (e ∙ q, q, step_named, moved_on))
    (λ (q : eqb (head r) v ≡ false). rw (e ∙ q, q, step_named, moved_on))
    (both (eqb (head r) v))

moved_rises : (v : ℕ) (r : Run) → v < past_bin → Rise v r.bins → Rise (suc v) (moved_on v r).bins
unfolding moved_on head
moved_rises v r b h =
    ⊎_elim
    (λ (q : head_of r.bins ≡ v). rw (eq-eqb (head_of r.bins) v q, moved_on) (subst (λ x. Rise (suc v) x) (sym (from_past_head h q b)) (rise_from (suc v) r.bins h)))
    (λ (q : head_of r.bins ≢ v). rw (ne_eqb (head_of r.bins) v q, moved_on) (subst (λ x. Rise (suc v) x) (from_other_head h q) (rise_from (suc v) r.bins h)))
    (eq_or_ne (head_of r.bins) v)

module _ (numbers ends ws positions keys : List ℕ) (t : ℕ) (w : State) (n named : ℕ) (s : Stands numbers ends ws positions keys t w)
    (a : AtFloor numbers ends positions keys w n named) where
  abbrev runs' : List Run
  runs' = runs_at 0 numbers positions ends

  heads : (r : Run) → Memᴰ r runs' → w.floor ≤ head r
  heads = heads_from w.floor runs' (let b = s.bin in omega arith) s.rising

  names_equal : (r : Run) → Memᴰ r runs' → names named r ≡ eqb (head r) w.floor
  names_equal r m =
      ap (λ x. names x r) (a.names_them ∙ sym (floor_mask w.floor runs' heads))
      ∙ (front_names runs' (labels numbers ends positions keys w.start s.few s.holds) (small numbers ends positions keys w.start s.few s.holds)
      (drop w.start keys) s.holds.order (w.floor + 1) r m
      ∙ at_floor w.floor (head r) (heads r m))

  pub step_ready : StepReady numbers ends positions keys (w.start + n) named × (n ≡ ones named) × InPlay numbers ends ws positions w.weight
  step_ready =
      let b = s.bin in (
        record {
          few = s.few;
          lacks =
              taken_out numbers ends positions keys w.start s.few s.holds (w.floor + 1) (omega arith) n named a.counts
              (a.names_them ∙ sym (floor_mask w.floor runs' heads));
          heads = λ r m q. let e = eqb-true (head r) w.floor (sym (names_equal r m) ∙ q) in omega arith;
        },
        a.ones_are,
        s.in_play,
      )

  pub passed_on : (positions' keys' : List ℕ) (start weight : ℕ) → w.floor ≢ last_bin
      → Holds numbers ends positions' keys' start (map (step_named named) runs') × InPlay numbers ends ws positions' weight
      → Passes numbers ends ws positions t w positions' keys'
      (On (record { floor = w.floor + 1; start = start; answers = w.answers; parts = w.parts; bytes = w.bytes; tally = w.tally; weight = weight }))
  unfolding counts_of
  passed_on positions' keys' start weight q (h, l) =
      let b = s.bin in
      let o = past_last in
      let e : w.floor + 1 ≡ suc w.floor = omega arith in
      let i : runs_at 0 numbers positions' ends ≡ map (moved_on w.floor) runs' =
      h.runs_are_law ∙ map_same (step_named named) (moved_on w.floor) runs' (λ r k. step_is w.floor named r (names_equal r k)) in
      let j : map (step_named named) runs' ≡ runs_at 0 numbers positions' ends = sym h.runs_are_law in (
        record {
          few = s.few;
          some = s.some;
          holds = subst (λ x. Holds numbers ends positions' keys' start x) j h;
          rising = λ r k.
              let p = map_mem (moved_on w.floor) runs' r (subst (λ x. Memᴰ r x) i k) in
              subst (λ x. Rise (w.floor + 1) x.bins) (sym p.2) (subst (λ x. Rise x (moved_on w.floor p.0).bins) (sym e) (moved_rises w.floor p.0 b (s.rising p.0 p.1)));
          in_play = l;
          bin = omega arith;
          allowed = s.allowed;
        },
        omega arith,
        e,
        i,
        (λ allowance. refl),
        refl,
        λ B f. record { written = f.written; parts = f.parts },
      )

  pub passed_last : w.floor ≡ last_bin → (positions' keys' : List ℕ) → Passes numbers ends ws positions t w positions' keys' (Done w)
  passed_last q positions' keys' = (q, refl)
