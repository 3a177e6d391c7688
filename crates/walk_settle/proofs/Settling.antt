-- After the searches: what the question comes to where the floor is no answer, where a buffer is full, and where it is an answer. Assumes nothing.
use Prim.Native.Nat.{ℕ, suc, ◌+◌, ◌*◌, ◌^◌, ◌≤◌, ◌<◌}
use lib.Count.{ones}
use lib.Dec.{ltb, eqb}
use lib.ListN.{length, drop, take}
use mathlib.Core.List.{List, [], ◌∷◌, map, Memᴰ}
use mathlib.Core.Logic.{⊎_elim, inl, inr, ◌≢◌}
use mathlib.Core.Path.{◌≡◌, refl, sym, ap, ◌∙◌, subst}
use native.Mathlib.Omega.{arith}
use Rattle.model.specs.Certificate.{answer}
use Rattle.model.specs.Runs.{Run, last_bin, weighted_run, weighted, mask, names}
use Rattle.model.specs.Walk.{wrote, head, moved_on, settle, walk}
use Rattle.model.specs.Rows.{Rise, equal}
use Rattle.model.proofs.Count.{weight_eq}
use Rattle.model.proofs.Masks.{mask_only, ones_mask, names_mask}
use Rattle.model.proofs.Tests.{lt_or_le, eq_or_ne}
use Rattle.model.proofs.Weighted.{weighted_mem}
use Rattle.walk_keys.specs.Row.{below_count, label_sum}
use Rattle.walk_write.specs.Writes.{counts_of, goes_on, ends_with, Fitted, Answers}
use Rattle.walk_settle.specs.Turns.{Stands, Chooses, Goes, Settles, AtFloor, Passes}
use Rattle.walk_write.specs.declared.State.{State}
use Rattle.walk_write.specs.declared.Turn.{Turn}
use Rattle.walk_write.specs.declared.Turn.TheVariants.{On, Done}
use Rattle.std.specs.Prelude.{Result, Ok, Err}
use Rattle.refusal.specs.declared.Reason.{Reason}
use Rattle.walk_write.specs.declared.Stopped.{Stopped}
use Rattle.walk_settle.proofs.Choosing.{chooses_moved, chosen_moved}
use Rattle.walk_settle.proofs.Passing.{labels, number, small, heads_from, floor_mask}
use Rattle.walk_write.proofs.Rows.{front_mask, front_count}
use Rattle.walk_progress.specs.Progress.{onward}
use Rattle.walk_progress.proofs.Rounds.{settle_passes, settle_answers, settle_ends}
use Rattle.walk_state.specs.State.{runs_at, chosen_at, Holds, InPlay}
use Rattle.walk_tally.specs.Tally.{undoubled}
use Rattle.walk_state.proofs.Choosing.{idle_equal, idle_mask, moved_keeps}
use Rattle.walk_state.proofs.Moving.{runs_at_labels}
use Rattle.weights.specs.Named.{named_weight, Weighs}
use Rattle.weights.proofs.Named.{named_weight_law}

-- a state with the same floor, start, tally and weight stands where the other does
pub stands_same : (numbers ends ws positions keys : List ℕ) (t : ℕ) (w x : State) → x.floor ≡ w.floor → x.start ≡ w.start → x.tally ≡ w.tally
    → x.weight ≡ w.weight → Stands numbers ends ws positions keys t w → Stands numbers ends ws positions keys t x
stands_same numbers ends ws positions keys t w x e f l g s =
    record {
      few = s.few;
      some = s.some;
      holds = subst (λ z. Holds numbers ends positions keys z (runs_at 0 numbers positions ends)) (sym f) s.holds;
      rising = λ r m. subst (λ z. Rise z r.bins) (sym e) (s.rising r m);
      in_play = subst (λ z. InPlay numbers ends ws positions z) (sym g) s.in_play;
      bin = let b = s.bin in omega arith;
      allowed = subst (λ z. undoubled z < 4294967296) (sym l) s.allowed;
    }

module _ (numbers ends ws positions keys : List ℕ) (t : ℕ) (w : State) (n named : ℕ) (s : Stands numbers ends ws positions keys t w)
    (counts : n ≡ below_count ((w.floor + 1) * 256) (drop w.start keys)) (sums : named ≡ label_sum (take n (drop w.start keys))) where
  abbrev rs : List Run
  rs = runs_at 0 numbers positions ends

  heads : (r : Run) → Memᴰ r rs → w.floor ≤ head r
  heads = heads_from w.floor rs (let b = s.bin in omega arith) s.rising

  -- the mask of the front, and how many it names
  front_is : named ≡ mask (λ r. ltb (head r) (w.floor + 1)) rs
  front_is =
      let b = s.bin in
      sums
      ∙ (ap (λ x. label_sum (take x (drop w.start keys))) counts
      ∙ front_mask rs (labels numbers ends positions keys w.start s.few s.holds) (small numbers ends positions keys w.start s.few s.holds)
      (drop w.start keys) s.holds.order (w.floor + 1) (omega arith))

  number_is : n ≡ ones named
  number_is =
      let b = s.bin in
      counts
      ∙ (front_count rs (labels numbers ends positions keys w.start s.few s.holds) (small numbers ends positions keys w.start s.few s.holds)
      (drop w.start keys) s.holds.order (w.floor + 1) (omega arith)
      ∙ sym (ap ones front_is ∙ ones_mask (λ r. ltb (head r) (w.floor + 1)) rs (labels numbers ends positions keys w.start s.few s.holds)))

  named_is : named ≡ mask (λ r. eqb (head r) w.floor) rs
  named_is = front_is ∙ floor_mask w.floor rs heads

  only_these : named < 2 ^ length rs
  only_these = subst (λ x. x < 2 ^ length rs) (sym named_is) (mask_only (λ r. eqb (head r) w.floor) rs (runs_at_labels 0 numbers positions ends))

  runs_are_law : length rs ≡ length ends
  runs_are_law = number numbers ends positions keys w.start s.few s.holds

  pub weighs_here : (n ≡ ones named) × Weighs named ws
  weighs_here =
      let f = s.few in (
        number_is,
        record {
          few = ⊎_elim (λ (q : 0 < length ws). let e = s.in_play.row q in omega arith) (λ (q : length ws ≤ 0). omega arith) (lt_or_le 0 (length ws));
          within = λ q. subst (λ x. named < 2 ^ x) (runs_are_law ∙ sym (s.in_play.row q)) only_these;
        },
      )

  -- what they weigh is what the runs at the floor do
  weight_is : named_weight ws named ≡ equal w.floor (weighted ws rs)
  unfolding equal names weighted_run head
  weight_is =
      let k = runs_are_law in
      let f = s.few in
      sym (named_weight_law ws named rs (runs_at_labels 0 numbers positions ends) (omega arith) only_these)
      ∙ weight_eq _ _ (weighted ws rs)
      (λ q m.
      let p = weighted_mem ws rs q m in
      ap (names named) p.2
      ∙ (ap (λ x. names x p.0) named_is
      ∙ (names_mask (λ r. eqb (head r) w.floor) rs (labels numbers ends positions keys w.start s.few s.holds) p.0 p.1
      ∙ ap (λ (x : Run). eqb (head x) w.floor) (sym p.2))))

  -- what is ensured of a turn: the walk over any choice of runs goes so
  module _ (A B : List ℕ) (held : ℕ) (weight : held ≡ named_weight ws named) where
    abbrev Ensured : List ℕ → List ℕ → List ℕ → List ℕ → Result Turn Stopped → Type 0
    Ensured positions' keys' A' B' r =
        ((m : ℕ) → Chooses m numbers ends ws positions t
        → Goes (λ k. settle (walk k t) t w.floor (chosen_at ws m numbers positions ends)) m numbers ends ws t w A B positions' keys' A' B' r)
        × Settles (weighted ws rs) t w.floor r

    -- the chosen runs at the floor are all that are there
    module _ (m : ℕ) (c : Chooses m numbers ends ws positions t) where
      abbrev cs : List Run
      cs = chosen_at ws m numbers positions ends

      equal_is : held ≡ equal w.floor cs
      equal_is = weight ∙ (weight_is ∙ sym (idle_equal m rs c.idle ws w.floor s.bin))

      mask_is : named ≡ mask (λ r. eqb (head r) w.floor) cs
      mask_is = named_is ∙ sym (idle_mask m rs c.idle ws w.floor s.bin)

      is_answer : t ≤ held → t ≤ equal w.floor cs
      is_answer h = let e = equal_is in omega arith

      passes_it : held < t → (k : ℕ) → settle (walk k t) t w.floor cs ≡ walk k t w.floor cs
      passes_it h k = settle_passes (walk k t) t w.floor cs (let e = equal_is in omega arith)

      -- an answer at the last bin, and before it
      ends_there : t ≤ held → w.floor ≡ last_bin → (k : ℕ) → settle (walk k t) t w.floor cs ≡ wrote (answer w.floor named) ∷ []
      ends_there h e k = settle_ends (walk k t) t w.floor cs (is_answer h) e ∙ ap (λ x. wrote (answer w.floor x) ∷ []) (sym mask_is)

      goes_there : t ≤ held → w.floor ≢ last_bin → (k : ℕ)
          → settle (walk k t) t w.floor cs ≡ wrote (answer w.floor named) ∷ walk k t (suc w.floor) (map (moved_on w.floor) cs)
      goes_there h e k =
          settle_answers (walk k t) t w.floor cs (is_answer h) e
          ∙ ap (λ x. wrote (answer w.floor x) ∷ walk k t (suc w.floor) (map (moved_on w.floor) cs)) (sym mask_is)

    pub no_answer : Fitted B w → held < t → Ensured positions keys A B (Ok (On w))
    no_answer f h =
        let e = weight ∙ weight_is in
        ((λ m c. (s, c, f, omega arith, λ allowance k l. ap (goes_on allowance w A B) (passes_it m c h k))), inl (refl, omega arith))

    pub answer_stops : (x : Reason) (A' B' : List ℕ) → t ≤ held → Answers w named A B A' B' (Err x) → Ensured positions keys A' B' (Err (record { reason = x; at = w }))
    answer_stops x A' B' h a = (
      (λ m c. (
        omega arith,
        λ allowance k l.
            ⊎_elim
            (λ (e : w.floor ≡ last_bin). ap (goes_on allowance w A B) (ends_there m c h e k) ∙ a allowance [])
            (λ (e : w.floor ≢ last_bin).
            ap (goes_on allowance w A B) (goes_there m c h e k) ∙ a allowance (walk k t (suc w.floor) (map (moved_on w.floor) (chosen_at ws m numbers positions ends))))
            (eq_or_ne w.floor last_bin),
      )),
      tt,
    )

    -- the state after an answer, and the front of the row there
    pub stands_after : (x : State) (A' B' : List ℕ) → Answers w named A B A' B' (Ok x)
        → Stands numbers ends ws positions keys t x × AtFloor numbers ends positions keys x n named
    stands_after x A' B' a = (
      stands_same numbers ends ws positions keys t w x a.1 a.2 a.3 a.4 s,
      record {
        counts = counts ∙ (λ i. below_count ((sym a.1 i + 1) * 256) (drop (sym a.2 i) keys));
        ones_are = number_is;
        names_them = named_is ∙ ap (λ y. mask (λ r. eqb (head r) y) rs) (sym a.1);
      },
    )

    answer_ends : (x x' : State) (A' B' positions' keys' : List ℕ) → t ≤ held → Answers w named A B A' B' (Ok x)
        → Passes numbers ends ws positions t x positions' keys' (Done x') → Ensured positions' keys' A' B' (Ok (Done x'))
    unfolding goes_on ends_with
    answer_ends x x' A' B' positions' keys' h a p =
        let e = ap (λ (y : State). undoubled y.tally) p.1 in
        let l = ap undoubled a.3 in (
          (λ m c. (
            omega arith,
            λ allowance k o.
                ap (goes_on allowance w A B) (ends_there m c h (sym a.1 ∙ p.0) k)
                ∙ (a.5 allowance []
                ∙ (Rattle.walk_progress.proofs.Progress.onward_end allowance (counts_of allowance x) A' B' ∙ ap (λ y. ends_with 0 allowance y A' B') (sym p.1))),
          )),
          tt,
        )

    answer_goes : (x x' : State) (A' B' positions' keys' : List ℕ) → t ≤ held → Answers w named A B A' B' (Ok x)
        → Passes numbers ends ws positions t x positions' keys' (On x') → Ensured positions' keys' A' B' (Ok (On x'))
    unfolding goes_on
    answer_goes x x' A' B' positions' keys' h a p =
        let f : x.floor ≡ w.floor = a.1 in
        let l = ap undoubled a.3 in
        let g : x'.floor ≡ suc x.floor = p.2 in
        let j = ap undoubled p.5 in
        let y : w.floor ≢ last_bin = (let q = p.1 in omega arith) in (
          (λ m c. (
            p.0,
            chooses_moved numbers ends ws positions m t c (moved_on x.floor) (moved_keeps x.floor) positions' p.3,
            p.6 B' a.0,
            omega arith,
            λ allowance k o.
                let moved = chosen_moved numbers ends ws positions m t c (moved_on x.floor) (moved_keeps x.floor) positions' p.3 in
                ap (goes_on allowance w A B) (goes_there m c h y k)
                ∙ (a.5 allowance (walk k t (suc w.floor) (map (moved_on w.floor) (chosen_at ws m numbers positions ends)))
                ∙ ((λ i. onward allowance (sym (p.4 allowance) i) A' B' (walk k t (suc (sym f i)) (map (moved_on (sym f i)) (chosen_at ws m numbers positions ends))))
                ∙ (λ i. onward allowance (counts_of allowance x') A' B' (walk k t (sym g i) (sym moved i))))),
          )),
          inr (omega arith),
        )

    pub answer_passes : (x : State) (A' B' positions' keys' : List ℕ) → t ≤ held → Answers w named A B A' B' (Ok x) → (r : Turn)
        → Passes numbers ends ws positions t x positions' keys' r → Ensured positions' keys' A' B' (Ok r)
    answer_passes x A' B' positions' keys' h a (On x') p = answer_goes x x' A' B' positions' keys' h a p
    answer_passes x A' B' positions' keys' h a (Done x') p = answer_ends x x' A' B' positions' keys' h a p
