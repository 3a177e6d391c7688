-- What the row of keys says of the runs: the head up to which they weigh enough, and which runs have a head below a bin. The runs may be all or those that a mask
-- chooses: their labels rise. Assumes nothing.
use Prim.Native.Nat.{ℕ, suc, ◌+◌, ◌*◌, ◌/◌, ◌%◌, ◌^◌, ◌≤◌, ◌<◌}
use borrow.Author.Tests.{lt-ltb, le-ltb, le-leb, lt-leb}
use lib.Dec.{ltb, leb}
use lib.ListN.{length, get_or, take, drop}
use lib.Seq.{take-length}
use mathlib.Core.Bool.{Bool, true, false}
use mathlib.Core.List.{List, [], ◌∷◌, Memᴰ}
use mathlib.Core.Logic.{⊎_elim}
use mathlib.Core.Path.{◌≡◌, refl, sym, ap, ◌∙◌}
use native.Mathlib.Nat.{zero-mul, one-mul}
use native.Mathlib.Omega.{arith}
use Rattle.model.specs.Plain.{count}
use Rattle.model.specs.Runs.{Run, past_bin, total, one, weight_of, weight_of_all, mask, names, most_runs, mask_bits}
use Rattle.model.specs.Walk.{head, enough_head, weight_in_play}
use Rattle.model.proofs.Count.{total_eq, total_zero}
use Rattle.model.proofs.Heads.{Heads, at_most, at_most_past, enough_first}
use Rattle.model.proofs.Masks.{Ascending, mask_under, names_mask}
use Rattle.model.proofs.Tests.{lt_or_le, true_false}
use Rattle.walk_keys.proofs.Reaching.{row_weight, reached_most, reached_enough, reached_few}
use Rattle.walk_keys.proofs.Row.{below_nil, below_pass, member_sum, front_sum, rest_sum, below_sum}
use Rattle.walk_keys.specs.Row.{sum_of, below_count, label_sum, Labels, key_weight, reached_head, HaveWeights}
use Rattle.walk_state.specs.State.{key_of, keyed, InOrder, not_named}
use Rattle.walk_state.proofs.Moving.{keyed_some, keyed_none}

-- ---- one run

key_head : (r : Run) → r.label < 256 → key_of r / 256 ≡ head r
unfolding key_of
key_head r h = omega arith

key_label : (r : Run) → r.label < 256 → key_of r % 256 ≡ r.label
unfolding key_of
key_label r h = omega arith

key_below : (r : Run) (u : ℕ) → r.label < 256 → ltb (key_of r) (u * 256) ≡ ltb (head r) u
unfolding key_of
key_below r u h =
    ⊎_elim
    (λ (q : head r < u). lt-ltb (head r * 256 + r.label) (u * 256) (omega arith) ∙ sym (lt-ltb (head r) u q))
    (λ (q : u ≤ head r). le-ltb (head r * 256 + r.label) (u * 256) (omega arith) ∙ sym (le-ltb (head r) u q))
    (lt_or_le (head r) u)

one_true : one true ≡ 1
unfolding one
one_true = refl

one_false : one false ≡ 0
unfolding one
one_false = refl

picked_true : (b : Bool) (x y : ℕ) → b ≡ true → elim b as (λ z. ℕ) [ true ↦ x | false ↦ y ] ≡ x
picked_true true x y e = refl
picked_true false x y e = true_false e refl

picked_false : (b : Bool) (x y : ℕ) → b ≡ false → elim b as (λ z. ℕ) [ true ↦ x | false ↦ y ] ≡ y
picked_false true x y e = true_false refl e
picked_false false x y e = refl

not_named_zero : (named : ℕ) (c : Run → ℕ) (r : Run) → names named r ≡ true → not_named named c r ≡ 0
unfolding not_named
not_named_zero named c r e = rw (e, not_named)

not_named_is : (named : ℕ) (c : Run → ℕ) (r : Run) → names named r ≡ false → not_named named c r ≡ c r
unfolding not_named
not_named_is named c r e = rw (e, not_named)

module _ (rs : List Run) (labels : Ascending 0 rs) (small : (r : Run) → Memᴰ r rs → r.label < most_runs) (row : List ℕ) (order : InOrder rs row) where
  -- a test that the key of no run passes is passed by no key
  none_pass : (p : ℕ → Bool) → ((r : Run) → Memᴰ r rs → head r < past_bin → p (key_of r) ≡ false) → (k : ℕ) → Memᴰ k row → p k ≡ true → ⊥
  none_pass p h k m q =
      let a = member_sum (λ j. one (p j)) row m in
      let e = order.same (λ j. one (p j)) in
      let z = total_zero (keyed (λ j. one (p j))) rs
      (λ r n.
      ⊎_elim
      (λ (x : head r < past_bin). keyed_some (λ j. one (p j)) r x ∙ (ap one (h r n x) ∙ one_false))
      (λ (x : past_bin ≤ head r). keyed_none (λ j. one (p j)) r x)
      (lt_or_le (head r) past_bin)) in
      let w = ap one q ∙ one_true in
      omega arith

  pub row_labels : Labels row
  row_labels =
      record {
        small = λ k m.
            ⊎_elim
            (λ (q : k % 256 < mask_bits). q)
            (λ (q : mask_bits ≤ k % 256).
            absurd
            (none_pass (λ j. leb mask_bits (j % 256))
            (λ r n x. let s = small r n in let e = key_label r (omega arith) in lt-leb mask_bits (key_of r % 256) (omega arith)) k m (le-leb mask_bits (k % 256) q)))
            (lt_or_le (k % 256) mask_bits);
      }

  -- every key's head is a bin
  pub row_bins : (k : ℕ) → Memᴰ k row → k / 256 < past_bin
  row_bins k m =
      ⊎_elim
      (λ (q : k / 256 < past_bin). q)
      (λ (q : past_bin ≤ k / 256).
      absurd
      (none_pass (λ j. leb past_bin (j / 256))
      (λ r n x. let s = small r n in let e = key_head r (omega arith) in lt-leb past_bin (key_of r / 256) (omega arith)) k m (le-leb past_bin (k / 256) q)))
      (lt_or_le (k / 256) past_bin)

  -- the keys whose head is below u
  keyed_below : (u : ℕ) → u ≤ past_bin → (r : Run) → Memᴰ r rs
      → keyed (λ k. elim (ltb k (u * 256)) as (λ x. ℕ) [ true ↦ 2 ^ (k % 256) | false ↦ 0 ]) r ≡ one (ltb (head r) u) * 2 ^ r.label
  keyed_below u h r m =
      let s = small r m in
      let t = one_true in
      let f = one_false in
      ⊎_elim
      (λ (q : head r < u).
      let e : key_of r % 256 ≡ r.label = key_label r (omega arith) in
      keyed_some (λ k. elim (ltb k (u * 256)) as (λ x. ℕ) [ true ↦ 2 ^ (k % 256) | false ↦ 0 ]) r (omega arith)
      ∙ (picked_true (ltb (key_of r) (u * 256)) (2 ^ (key_of r % 256)) 0 (key_below r u (omega arith) ∙ lt-ltb (head r) u q)
      ∙ (ap (λ x. 2 ^ x) e ∙ (let w = ap one (lt-ltb (head r) u q) ∙ t in omega (arith, ap (λ x. x * 2 ^ r.label) w)))))
      (λ (q : u ≤ head r).
      let w = ap one (le-ltb (head r) u q) ∙ f in
      (⊎_elim
      (λ (x : head r < past_bin).
      keyed_some (λ k. elim (ltb k (u * 256)) as (λ y. ℕ) [ true ↦ 2 ^ (k % 256) | false ↦ 0 ]) r x
      ∙ picked_false (ltb (key_of r) (u * 256)) (2 ^ (key_of r % 256)) 0 (key_below r u (omega arith) ∙ le-ltb (head r) u q))
      (λ (x : past_bin ≤ head r). keyed_none (λ k. elim (ltb k (u * 256)) as (λ y. ℕ) [ true ↦ 2 ^ (k % 256) | false ↦ 0 ]) r x)
      (lt_or_le (head r) past_bin))
      ∙ (omega (arith, ap (λ x. x * 2 ^ r.label) w)))
      (lt_or_le (head r) u)

  pub front_mask : (u : ℕ) → u ≤ past_bin → label_sum (take (below_count (u * 256) row) row) ≡ mask (λ r. ltb (head r) u) rs
  unfolding label_sum mask
  front_mask u h =
      front_sum (λ k. 2 ^ (k % 256)) (u * 256) row order.ordered
      ∙ (order.same (λ k. elim (ltb k (u * 256)) as (λ x. ℕ) [ true ↦ 2 ^ (k % 256) | false ↦ 0 ])
      ∙ total_eq _ (λ r. one (ltb (head r) u) * 2 ^ r.label) rs (keyed_below u h))

  pub front_count : (u : ℕ) → u ≤ past_bin → below_count (u * 256) row ≡ count (λ r. ltb (head r) u) rs
  unfolding count
  front_count u h =
      below_sum (u * 256) row order.ordered
      ∙ (order.same (λ k. one (ltb k (u * 256)))
      ∙ total_eq (keyed (λ k. one (ltb k (u * 256)))) (λ r. one (ltb (head r) u)) rs
      (λ r m.
      let s = small r m in
      ⊎_elim
      (λ (x : head r < past_bin). keyed_some (λ k. one (ltb k (u * 256))) r x ∙ ap one (key_below r u (omega arith)))
      (λ (x : past_bin ≤ head r).
      keyed_none (λ k. one (ltb k (u * 256))) r x ∙ sym (ap one (le-ltb (head r) u (omega arith)) ∙ one_false))
      (lt_or_le (head r) past_bin)))

  -- which runs the front names, and the row without it
  pub front_names : (u : ℕ) (r : Run) → Memᴰ r rs → names (mask (λ q. ltb (head q) u) rs) r ≡ ltb (head r) u
  front_names u r m = names_mask (λ q. ltb (head q) u) rs labels r m

  pub rest_same : (u : ℕ) → u ≤ past_bin → (g : ℕ → ℕ)
      → sum_of g (drop (below_count (u * 256) row) row) ≡ total (not_named (mask (λ q. ltb (head q) u) rs) (keyed g)) rs
  rest_same u h g =
      rest_sum g (u * 256) row order.ordered
      ∙ (order.same (λ k. elim (ltb k (u * 256)) as (λ x. ℕ) [ true ↦ 0 | false ↦ g k ])
      ∙ total_eq _ (not_named (mask (λ q. ltb (head q) u) rs) (keyed g)) rs each)
    where
      each : (r : Run) → Memᴰ r rs
          → keyed (λ k. elim (ltb k (u * 256)) as (λ x. ℕ) [ true ↦ 0 | false ↦ g k ]) r ≡ not_named (mask (λ q. ltb (head q) u) rs) (keyed g) r
      each r m =
          let s = small r m in
          ⊎_elim
          (λ (q : head r < u).
          keyed_some (λ k. elim (ltb k (u * 256)) as (λ x. ℕ) [ true ↦ 0 | false ↦ g k ]) r (omega arith)
          ∙ (picked_true (ltb (key_of r) (u * 256)) 0 (g (key_of r)) (key_below r u (omega arith) ∙ lt-ltb (head r) u q)
          ∙ sym (not_named_zero (mask (λ y. ltb (head y) u) rs) (keyed g) r (front_names u r m ∙ lt-ltb (head r) u q))))
          (λ (q : u ≤ head r).
          (⊎_elim
          (λ (x : head r < past_bin).
          keyed_some (λ k. elim (ltb k (u * 256)) as (λ y. ℕ) [ true ↦ 0 | false ↦ g k ]) r x
          ∙ (picked_false (ltb (key_of r) (u * 256)) 0 (g (key_of r)) (key_below r u (omega arith) ∙ le-ltb (head r) u q) ∙ sym (keyed_some g r x)))
          (λ (x : past_bin ≤ head r).
          keyed_none (λ k. elim (ltb k (u * 256)) as (λ y. ℕ) [ true ↦ 0 | false ↦ g k ]) r x ∙ sym (keyed_none g r x))
          (lt_or_le (head r) past_bin))
          ∙ sym (not_named_is (mask (λ y. ltb (head y) u) rs) (keyed g) r (front_names u r m ∙ le-ltb (head r) u q)))
          (lt_or_le (head r) u)

  -- the mask of the runs that have a head
  pub row_mask : label_sum row ≡ mask (λ r. ltb (head r) past_bin) rs
  unfolding label_sum mask
  row_mask =
      order.same (λ k. 2 ^ (k % 256))
      ∙ total_eq (keyed (λ k. 2 ^ (k % 256))) (λ r. one (ltb (head r) past_bin) * 2 ^ r.label) rs
      (λ r m.
      let s = small r m in
      ⊎_elim
      (λ (x : head r < past_bin).
      let w = ap one (lt-ltb (head r) past_bin x) ∙ one_true in
      keyed_some (λ k. 2 ^ (k % 256)) r x
      ∙ (ap (λ y. 2 ^ y) (key_label r (omega arith)) ∙ omega (arith, ap (λ y. y * 2 ^ r.label) w)))
      (λ (x : past_bin ≤ head r).
      let w = ap one (le-ltb (head r) past_bin x) ∙ one_false in
      keyed_none (λ k. 2 ^ (k % 256)) r x ∙ omega (arith, ap (λ y. y * 2 ^ r.label) w))
      (lt_or_le (head r) past_bin))

  pub row_sum : label_sum row < 2 ^ mask_bits
  row_sum = let a = mask_under (λ r. ltb (head r) past_bin) rs labels most_runs small in let e = row_mask in omega arith

  -- where there is a weight for each run, each key's run has one
  pub row_weights : (ws : List ℕ) (n : ℕ) → (0 < length ws → length ws ≡ n) → ((r : Run) → Memᴰ r rs → r.label < n) → HaveWeights ws row
  row_weights ws n e within =
      record {
        each = λ p k m.
            ⊎_elim
            (λ (q : k % 256 < length ws). q)
            (λ (q : length ws ≤ k % 256).
            absurd
            (none_pass (λ j. leb (length ws) (j % 256))
            (λ r o x. let s = small r o in let b = within r o in let i = e p in let l = key_label r (omega arith) in lt-leb (length ws) (key_of r % 256) (omega arith))
            k m (le-leb (length ws) (k % 256) q)))
            (lt_or_le (k % 256) (length ws));
      }

  -- The head up to which the keys' runs weigh enough, where the runs' weights are those of a row.
  module _ (ws : List ℕ) (weighs : (r : Run) → Memᴰ r rs → r.weight ≡ get_or ws r.label 1) where
    keyed_weight : (h : ℕ) → h < past_bin → (r : Run) → Memᴰ r rs
        → keyed (λ k. one (leb (k / 256) h) * key_weight ws k) r ≡ one (leb (head r) h) * r.weight
    unfolding key_weight
    keyed_weight h b r m =
        let s = small r m in
        ⊎_elim
        (λ (x : head r < past_bin).
        keyed_some (λ k. one (leb (k / 256) h) * key_weight ws k) r x
        ∙ ((λ i. one (leb (key_head r (omega arith) i) h) * get_or ws (key_label r (omega arith) i) 1) ∙ ap (λ y. one (leb (head r) h) * y) (sym (weighs r m))))
        (λ (x : past_bin ≤ head r).
        keyed_none (λ k. one (leb (k / 256) h) * key_weight ws k) r x
        ∙ sym (ap (λ y. y * r.weight) (ap one (lt-leb (head r) h (omega arith)) ∙ one_false) ∙ zero-mul r.weight))
        (lt_or_le (head r) past_bin)

    -- the runs of the row are those in play
    pub row_in_play : sum_of (key_weight ws) row ≡ weight_in_play rs
    unfolding weight_of key_weight
    row_in_play = order.same (key_weight ws) ∙ total_eq _ _ rs each
      where
        each : (r : Run) → Memᴰ r rs → keyed (key_weight ws) r ≡ one (ltb (head r) past_bin) * r.weight
        each r m =
            let s = small r m in
            ⊎_elim
            (λ (x : head r < past_bin).
            keyed_some (key_weight ws) r x
            ∙ (ap (λ l. get_or ws l 1) (key_label r (omega arith))
            ∙ (sym (weighs r m) ∙ sym (ap (λ y. y * r.weight) (ap one (lt-ltb (head r) past_bin x) ∙ one_true) ∙ one-mul r.weight))))
            (λ (x : past_bin ≤ head r).
            keyed_none (key_weight ws) r x ∙ sym (ap (λ y. y * r.weight) (ap one (le-ltb (head r) past_bin x) ∙ one_false) ∙ zero-mul r.weight))
            (lt_or_le (head r) past_bin)

    row_weight_law : (h : ℕ) → h < past_bin → row_weight ws h row ≡ at_most h rs
    unfolding row_weight at_most weight_of
    row_weight_law h b = order.same (λ k. one (leb (k / 256) h) * key_weight ws k) ∙ total_eq _ _ rs (keyed_weight h b)

    pub reached_is : (t : ℕ) → 0 < t → t ≤ weight_of_all rs → Heads rs → reached_head ws t row ≡ enough_head t rs
    reached_is t p l heads =
        let v = reached_head ws t row in
        let most = reached_most ws t row row_bins in
        enough_first t v rs heads p l
        (⊎_elim
        (λ (q : v < past_bin).
        ⊎_elim
        (λ (e : v ≡ past_bin). absurd (omega arith))
        (λ (e : t ≤ row_weight ws v row). let w = row_weight_law v q in omega arith)
        (reached_enough ws t row order.ordered row_bins))
        (λ (q : past_bin ≤ v). let e : v ≡ past_bin = omega arith in rw e (omega (arith, at_most_past rs heads)))
        (lt_or_le v past_bin))
        (λ h q. let w = row_weight_law h (omega arith) in let f = reached_few ws t p row order.ordered h q in omega arith)

-- all keys are below the limit
all_below : (l : ℕ) (s : List ℕ) → ((k : ℕ) → Memᴰ k s → k < l) → below_count l s ≡ length s
all_below l [] h = below_nil l
all_below l (k ∷ s) h = below_pass l k s (h k (Memᴰ.head refl)) ∙ ap suc (all_below l s (λ j m. h j (Memᴰ.tail m)))

pub whole_front : (l n : ℕ) (s : List ℕ) → ((k : ℕ) → Memᴰ k s → k < l) → n ≡ below_count l s → label_sum (take n s) ≡ label_sum s
whole_front l n s h e = ap label_sum (ap (λ x. take x s) (e ∙ all_below l s h) ∙ take-length s)
