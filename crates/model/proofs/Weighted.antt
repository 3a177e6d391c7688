-- The runs with the weights of a row: their labels and bins are as before, so that what goes by these is too. Assumes nothing.
use Prim.Native.Nat.{ℕ, suc, ◌+◌, ◌*◌, ◌^◌, ◌≤◌, ◌<◌}
use lib.Dec.{ltb, eqb}
use lib.ListN.{length, length-map, get_or, drop, drop_of_length-le}
use lib.Seq.{drop-cons}
use mathlib.Core.Bool.{Bool, true, false}
use mathlib.Core.List.{List, [], ◌∷◌, ◌++◌, map, Memᴰ}
use mathlib.Core.Logic.{⊎_elim}
use mathlib.Core.Path.{◌≡◌, refl, sym, ap, ap₂, ◌∙◌}
use native.Mathlib.Omega.{arith}
use Rattle.model.specs.Refusals.{sum_of_weights}
use Rattle.model.specs.Runs.{Run, weighted_run, weighted, total, one, weight_of, weight_of_all, mask, names, chosen}
use Rattle.model.specs.Walk.{head, search_in, searches, searched, moved_on}
use Rattle.model.proofs.Chosen.{chosen_map, chosen_all_weight}
use Rattle.model.proofs.Count.{total_map}
use Rattle.model.proofs.Masks.{Labelled, labelled_nil, labelled_cons, label_first, label_rest, Ascending, ascending_nil, ascending_cons}
use Rattle.model.proofs.Plain.{Plain}
use Rattle.model.proofs.Tests.{both}
use Rattle.model.proofs.Walking.{Rising, map_same, map_map, map_mem}

module _ (ws : List ℕ) where
  pub weighted_run_law : (r : Run) → ((weighted_run ws r).label ≡ r.label) × ((weighted_run ws r).bins ≡ r.bins) × (head (weighted_run ws r) ≡ head r)
  unfolding weighted_run head
  weighted_run_law r = (refl, refl, refl)

  pub weighted_labelled : {a : ℕ} {rs : List Run} → Labelled a rs → Labelled a (weighted ws rs)
  unfolding weighted weighted_run
  weighted_labelled labelled_nil = labelled_nil
  weighted_labelled (labelled_cons e l) = labelled_cons e (weighted_labelled l)

  pub weighted_ascending : {a : ℕ} {rs : List Run} → Ascending a rs → Ascending a (weighted ws rs)
  unfolding weighted weighted_run
  weighted_ascending ascending_nil = ascending_nil
  weighted_ascending (ascending_cons e l) = ascending_cons e (weighted_ascending l)

  pub weighted_length : (rs : List Run) → length (weighted ws rs) ≡ length rs
  unfolding weighted
  weighted_length rs = length-map rs (weighted_run ws)

  -- a run with its weight is one of the runs
  pub weighted_mem : (rs : List Run) (q : Run) → Memᴰ q (weighted ws rs) → (r : Run) × Memᴰ r rs × (q ≡ weighted_run ws r)
  unfolding weighted
  weighted_mem rs q m = map_mem (weighted_run ws) rs q m

  pub weighted_rising : {rs : List Run} → Rising rs → Rising (weighted ws rs)
  unfolding weighted_run
  weighted_rising {rs} g = record { each = λ q m. let t = weighted_mem rs q m in rw t.2 (g.each t.0 t.1) }

  -- the sum of the weights, where there is one for each run
  weighted_sum_from : (a : ℕ) (rs : List Run) → Labelled a rs → a + length rs ≡ length ws → weight_of_all (weighted ws rs) ≡ sum_of_weights (drop a ws)
  unfolding weight_of_all weighted weighted_run total sum_of_weights
  weighted_sum_from a [] l e = let n : length ws ≤ a = omega arith in rw (drop_of_length-le ws n)
  weighted_sum_from a (r ∷ rs) l e =
      let i = weighted_sum_from (suc a) rs (label_rest l) (omega arith) in
      rw (drop-cons ws a 1 (omega arith), label_first l) (omega arith)

  pub weighted_sum : (rs : List Run) → Labelled 0 rs → length rs ≡ length ws → weight_of_all (weighted ws rs) ≡ sum_of_weights ws
  weighted_sum rs l e = weighted_sum_from 0 rs l (omega arith)

  -- what goes by labels and bins alone
  pub weighted_mask : (p : Run → Bool) (rs : List Run) → mask p (weighted ws rs) ≡ mask (λ r. p (weighted_run ws r)) rs
  unfolding mask weighted weighted_run
  weighted_mask p rs = total_map _ (weighted_run ws) rs

  pub weighted_chosen : (m : ℕ) (rs : List Run) → chosen m (weighted ws rs) ≡ weighted ws (chosen m rs)
  unfolding weighted weighted_run
  weighted_chosen m rs = sym (chosen_map m (weighted_run ws) rs (λ r. refl))

  -- what the chosen weigh is what those that the mask names do
  pub weights_chosen : (m : ℕ) (rs : List Run) → weight_of_all (weighted ws (chosen m rs)) ≡ weight_of (names m) (weighted ws rs)
  weights_chosen m rs = ap weight_of_all (sym (weighted_chosen m rs)) ∙ chosen_all_weight m (weighted ws rs)

  search_weighted : (v : ℕ) (r : Run) → search_in v (weighted_run ws r) ≡ search_in v r
  unfolding search_in weighted_run head
  search_weighted v r = refl

  pub weighted_searches : (v : ℕ) (rs : List Run) → searches v (weighted ws rs) ≡ searches v rs
  unfolding searches weighted
  weighted_searches v [] = refl
  weighted_searches v (r ∷ rs) = ap₂ ◌++◌ (search_weighted v r) (weighted_searches v rs)

  -- a move that sees no weight may come before the weights or after them
  pub weighted_moved : (f : Run → Run) → ((r : Run) → f (weighted_run ws r) ≡ weighted_run ws (f r)) → (rs : List Run)
      → map f (weighted ws rs) ≡ weighted ws (map f rs)
  unfolding weighted
  weighted_moved f h rs = map_map f (weighted_run ws) rs ∙ (map_same _ _ rs (λ r m. h r) ∙ sym (map_map (weighted_run ws) f rs))

  pub searched_run : (v : ℕ) (r : Run) → searched v (weighted_run ws r) ≡ weighted_run ws (searched v r)
  unfolding searched weighted_run head
  searched_run v r =
      ⊎_elim
      (λ (e : ltb (head r) v ≡ true). rw (e, searched))
      (λ (e : ltb (head r) v ≡ false). rw (e, searched))
      (both (ltb (head r) v))

  pub moved_run : (v : ℕ) (r : Run) → moved_on v (weighted_run ws r) ≡ weighted_run ws (moved_on v r)
  unfolding moved_on weighted_run head
  moved_run v r =
      ⊎_elim
      (λ (e : eqb (head r) v ≡ true). rw (e, moved_on))
      (λ (e : eqb (head r) v ≡ false). rw (e, moved_on))
      (both (eqb (head r) v))

  pub weighted_searched : (v : ℕ) (rs : List Run) → map (searched v) (weighted ws rs) ≡ weighted ws (map (searched v) rs)
  weighted_searched v rs = weighted_moved (searched v) (searched_run v) rs

  pub weighted_steps : (v : ℕ) (rs : List Run) → map (moved_on v) (weighted ws rs) ≡ weighted ws (map (moved_on v) rs)
  weighted_steps v rs = weighted_moved (moved_on v) (moved_run v) rs

-- where no weights are given, runs that weigh 1 are as they are
plain_run : (r : Run) → r.weight ≡ 1 → weighted_run [] r ≡ r
unfolding weighted_run
plain_run r e = λ i. record { label = r.label; weight = sym e i; bins = r.bins }

pub weighted_none : (rs : List Run) → Plain rs → weighted [] rs ≡ rs
unfolding weighted
weighted_none [] g = refl
weighted_none (r ∷ rs) g =
    ap₂ ◌∷◌ (plain_run r (g.each r (Memᴰ.head refl))) (weighted_none rs (record { each = λ s m. g.each s (Memᴰ.tail m) }))
