-- Allowances and buffers that are always enough for a call with many questions: for each question as much as is always enough for one. Assumes nothing.
use Prim.Native.Nat.{ℕ, zero, suc, ◌+◌, ◌-◌, ◌*◌, ◌≤◌, ◌<◌}
use lib.ListN.{length, get_or}
use mathlib.Core.List.{List, [], ◌∷◌}
use mathlib.Core.Logic.{◌⊎◌, inl, inr, ⊎_elim, ◌≢◌}
use mathlib.Core.Path.{◌≡◌, refl, sym, ap, ◌∙◌, subst}
use native.Mathlib.Nat.{le_trans}
use native.Mathlib.Omega.{arith}
use Rattle.model.specs.Certificate.{Part, answers_of, encode}
use Rattle.model.specs.Compared.{whole_walk, parts_of, bound_in, bound_of}
use Rattle.model.specs.Demands.{Fits}
use Rattle.model.specs.Many.{ManyCheck, all_passed, many_checks, left_after, walks, events_of, ending, many_outcome, answered_many, walks_of, query_many}
use Rattle.model.specs.ManyDemands.{call_refused_by, runs_of, sum_to}
use Rattle.model.specs.Refusals.{Room, Ended, cut}
use Rattle.model.specs.Runs.{Run, past_bin, most_numbers, runs, chosen, total}
use Rattle.model.proofs.Allowance.{run_probes, lists_bound}
use Rattle.model.proofs.Chosen.{chosen_total_le}
use Rattle.model.proofs.Cutting.{cut_whole, cut_fitted}
use Rattle.model.proofs.Enough.{listed_numbers, walk_small, walk_room}
use Rattle.model.proofs.FirstChecks.{chosen_passed, chosen_fit, lists_passed}
use Rattle.model.proofs.Many.{unbegun, sum_le, zero_or, walks_on, walks_stop, Ending, finished, stopped, walks_end}
use Rattle.model.proofs.ManyChecks.{many_passed}
use Rattle.model.proofs.ManyDemands.{question_fit, many_unspent}

-- the same for each of some questions
pub sum_each : (n k : ℕ) (f : ℕ → ℕ) → ((q : ℕ) → q < n → f q ≤ k) → sum_to n f ≤ n * k
unfolding sum_to
sum_each zero k f h = omega arith
sum_each (suc n) k f h =
    let i = sum_each n k (λ q. f (suc q)) (λ q l. h (suc q) (omega arith)) in
    let j = h 0 (omega arith) in
    omega arith

-- ---- the buffers

-- a walk of each question finds room for n answers and 34 × n + 19 bytes
abbrev Small : List Run → ℕ → List ℕ → List ℕ → Type 0
Small rs n ms ts = (q : ℕ) → q < length ms
    → (length (answers_of (parts_of (whole_walk (get_or ts q 0) (chosen (get_or ms q 0) rs)))) ≤ n)
    × (length (encode (parts_of (whole_walk (get_or ts q 0) (chosen (get_or ms q 0) rs)))) ≤ 34 * n + 19)

walks_roomy : (room : Room) (rs : List Run) (n : ℕ) (ms ts : List ℕ) → Small rs n ms ts → length ms ≡ length ts → length ms * n ≤ room.answers
    → length ms * (34 * n + 19) ≤ room.bytes → (q : ℕ) → q < length (walks room rs ms ts)
    → ((get_or (walks room rs ms ts) q unbegun).refused ≡ 0) ⊎ ((get_or (walks room rs ms ts) q unbegun).refused ≡ 7)
unfolding walks
walks_roomy room rs n [] ts s l a b q h = absurd (omega arith)
walks_roomy room rs n (m ∷ ms) [] s l a b q h = absurd (omega arith)
walks_roomy room rs n (m ∷ ms) (t ∷ ts) s l a b zero h =
    let k = s 0 (omega arith) in
    walk_room room (whole_walk t (chosen m rs)) (omega (arith, k.0)) (omega (arith, k.1))
walks_roomy room rs n (m ∷ ms) (t ∷ ts) s l a b (suc q) h =
    let e = cut room (whole_walk t (chosen m rs)) in
    let k = s 0 (omega arith) in
    zero_or e.refused
    (λ z.
    let w = ap parts_of (cut_whole room (whole_walk t (chosen m rs)) z) in
    let f = cut_fitted room (whole_walk t (chosen m rs)) in
    let x = ap (λ p. length (answers_of p)) w in
    let y = ap (λ p. length (encode p)) w in
    let u = f.answers_left in
    let v = f.bytes_left in
    let g = walks_on room rs m t ms ts z in
    subst (λ ws. ((get_or ws (suc q) unbegun).refused ≡ 0) ⊎ ((get_or ws (suc q) unbegun).refused ≡ 7)) (sym g)
    (walks_roomy (left_after room e.events) rs n ms ts (λ i o. s (suc i) (omega arith)) (omega arith) (omega (arith, k.0)) (omega (arith, k.1)) q
    (omega (arith, ap length g))))
    (λ j z. absurd (omega (arith, ap length (walks_stop room rs m t ms ts j z))))

module _ (numbers ends masks thresholds : List ℕ) (allowance : ℕ) (answers certificate results : List ℕ) (fits : Fits past_bin numbers)
    (checked : many_checks numbers ends masks thresholds results ≡ all_passed) where
  -- An allowance of 44040192 for each question is always enough: refusal 7 never occurs.
  pub many_always_enough : length masks * (2 * most_numbers * 21) ≤ allowance
      → call_refused_by (query_many numbers ends masks thresholds allowance answers certificate results).outcome ≢ 7
  unfolding runs_of
  many_always_enough l =
      let p = many_passed numbers ends masks thresholds results checked in
      many_unspent numbers ends masks thresholds allowance answers certificate results fits checked (λ q r. bound_in (length r.bins) r)
      (λ q h r m. run_probes (question_fit numbers ends masks thresholds allowance answers certificate results fits checked q h) r m)
      (le_trans (sum_each (length masks) (2 * most_numbers * 21) _
      (λ q h. le_trans (chosen_total_le (get_or masks q 0) (λ r. bound_in (length r.bins) r) (runs numbers ends)) (lists_bound numbers ends (lists_passed numbers ends p.lists)))) l)

  -- With n places for answers and 34 × n + 19 bytes for each question, n being the count of all numbers, a call is accepted or refused as 7: refusals 5 and 6
  -- never occur.
  roomy_end : length masks * length numbers ≤ length answers → length masks * (34 * length numbers + 19) ≤ length certificate
      → (d : ManyCheck) → Ending 0 (walks_of numbers ends masks thresholds allowance answers certificate) (length masks) d
      → (call_refused_by (many_outcome d (events_of (walks_of numbers ends masks thresholds allowance answers certificate))) ≡ 0)
      ⊎ (call_refused_by (many_outcome d (events_of (walks_of numbers ends masks thresholds allowance answers certificate))) ≡ 7)
  unfolding call_refused_by many_outcome walks_of
  roomy_end a b d (finished l f) = inl refl
  roomy_end a b d (stopped j k x i l m f g) =
      let p = many_passed numbers ends masks thresholds results checked in
      let n = listed_numbers numbers ends (lists_passed numbers ends p.lists) in
      ⊎_elim (λ e. absurd (omega (arith, g))) (λ e. inr (sym g ∙ e))
      (walks_roomy _ (runs numbers ends) (length numbers) masks thresholds
      (λ q h.
      walk_small (chosen_fit numbers ends (get_or masks q 0) (get_or thresholds q 0) fits (p.each q h)) (length numbers)
      (le_trans (chosen_total_le (get_or masks q 0) (λ r. length r.bins) (runs numbers ends)) n))
      p.rows a b j (omega arith))

  pub many_room_enough : length masks * length numbers ≤ length answers → length masks * (34 * length numbers + 19) ≤ length certificate
      → (call_refused_by (query_many numbers ends masks thresholds allowance answers certificate results).outcome ≡ 0)
      ⊎ (call_refused_by (query_many numbers ends masks thresholds allowance answers certificate results).outcome ≡ 7)
  unfolding query_many answered_many walks_of
  many_room_enough a b =
      let p = many_passed numbers ends masks thresholds results checked in
      rw (checked, query_many) (roomy_end a b _ (walks_end 0 _ (runs numbers ends) masks thresholds p.rows))
