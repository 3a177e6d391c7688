-- Buffers and allowances that are always enough for the call that asks what one run found alone: those of a question over all runs. It walks over fewer runs,
-- and its answers are bins of run 0. Assumes nothing.
use Prim.Native.Nat.{ℕ, ◌+◌, ◌-◌, ◌*◌, ◌≤◌}
use lib.ListN.{length}
use mathlib.Core.List.{List, [], ◌∷◌}
use mathlib.Core.Logic.{◌⊎◌, ◌≢◌}
use mathlib.Core.Path.{◌≡◌, sym, subst}
use native.Mathlib.Nat.{le_trans}
use native.Mathlib.Omega.{arith}
use Rattle.model.specs.Alone.{new_bins, other_runs, alone_checks, alone_in, walk_without_answers, ended_after, query_alone}
use Rattle.model.specs.Compared.{whole_walk, whole_certificate, bound_of, bound_in}
use Rattle.model.specs.Demands.{Fits, refused_by}
use Rattle.model.specs.Refusals.{passed, Ended, cut_walk, refused, answered_with, checked_first}
use Rattle.model.specs.Runs.{Run, past_bin, most_numbers, runs, total}
use Rattle.model.proofs.Allowance.{run_probes, numbers_bound, lists_bound}
use Rattle.model.proofs.Alone.{alone_passed, alone_fit, without_fewer, never_full}
use Rattle.model.proofs.AloneDemands.{all_fit, spent_walked}
use Rattle.model.proofs.Demands.{cut_unspent}
use Rattle.model.proofs.Enough.{walk_small, walk_room, ended_roomy, AtDoor, passed_or_door, door_or_spent, threshold_not_spent, unspent_by, listed_numbers}
use Rattle.model.proofs.Truth.{Fit}

-- a sum over the other runs is at most that over all of them
others_total : (g : Run → ℕ) (rs : List Run) → total g (other_runs rs) ≤ total g rs
unfolding other_runs total
others_total g [] = omega arith
others_total g (r ∷ rs) = omega arith

-- there are at most as many answers as bins of run 0, and these are at most those of all runs
alone_few : (t : ℕ) (rs : List Run) → length (alone_in t rs) ≤ length (new_bins rs)
unfolding alone_in
alone_few t rs = without_fewer _ (new_bins rs)

new_few : (rs : List Run) → length (new_bins rs) ≤ total (λ r. length r.bins) rs
unfolding new_bins total
new_few [] = omega arith
new_few (r ∷ rs) = omega arith

-- ---- its walk, over runs that fit

module _ {rs : List Run} {t : ℕ} (g : Fit rs t) (allowance bytes : ℕ) where
  -- With 34 × n + 19 bytes, where the runs have at most n numbers, it is ended by 7 or by nothing.
  walk_roomy : (n : ℕ) → total (λ r. length r.bins) rs ≤ n → 34 * n + 19 ≤ bytes
      → ((walk_without_answers t rs allowance bytes).refused ≡ 0) ⊎ ((walk_without_answers t rs allowance bytes).refused ≡ 7)
  unfolding walk_without_answers cut_walk whole_certificate
  walk_roomy n l b = walk_room _ (whole_walk t rs) (omega arith) (le_trans (walk_small g n l).1 b)

  -- With 2 × n × digits n probes for each run of n bins it is not ended by 7.
  walk_unspent : total (λ r. bound_in (length r.bins) r) rs ≤ allowance → (walk_without_answers t rs allowance bytes).refused ≢ 7
  unfolding walk_without_answers cut_walk
  walk_unspent = cut_unspent rs t _ g (λ r. bound_in (length r.bins) r) (run_probes g)

-- ---- the call

module _ (numbers ends : List ℕ) (t allowance : ℕ) (answers certificate : List ℕ) where
  abbrev walked : Ended
  walked = walk_without_answers t (other_runs (runs numbers ends)) allowance (length certificate)

  -- It passes its first checks or is refused by 1 to 4.
  pub alone_passed_or_refused : (alone_checks numbers ends t ≡ passed) ⊎ (AtDoor (refused_by (query_alone numbers ends t allowance answers certificate).outcome))
  unfolding query_alone alone_checks
  alone_passed_or_refused = passed_or_door (length ends - 1) numbers ends t _ answers certificate

  module _ (fits : Fits past_bin numbers) where
    -- With room for as many answers as run 0 has bins, and 34 × n + 19 bytes for n bins of the other runs, a call that passes the first checks is accepted or
    -- refused as 7: refusals 5 and 6 never occur.
    pub alone_room_enough : length (new_bins (runs numbers ends)) ≤ length answers
        → 34 * total (λ r. length r.bins) (other_runs (runs numbers ends)) + 19 ≤ length certificate → alone_checks numbers ends t ≡ passed → (n p a b d h : ℕ)
        → (query_alone numbers ends t allowance answers certificate).outcome ≡ refused n p a b d h → n ≡ 7
    unfolding query_alone checked_first answered_with ended_after
    alone_room_enough places bytes e n p a b d h o =
        let w = walk_roomy (alone_fit numbers ends t fits e) allowance _ (total (λ r. length r.bins) (other_runs (runs numbers ends))) (omega arith) bytes in
        let f = all_fit (alone_in t (runs numbers ends)) (length answers) walked.events walked.refused (le_trans (alone_few t (runs numbers ends)) places) in
        ended_roomy _ walked.events _ n p a b d h (subst (λ x. (x ≡ 0) ⊎ (x ≡ 7)) (sym f) w) (rw e at o)

    -- So it is with the room of a question over all runs, and of any such call that is refused the number is 1, 2, 3, 4 or 7.
    module _ (places : length numbers ≤ length answers) (bytes : 34 * length numbers + 19 ≤ length certificate) where
      pub alone_room_of_all : alone_checks numbers ends t ≡ passed → (n p a b d h : ℕ)
          → (query_alone numbers ends t allowance answers certificate).outcome ≡ refused n p a b d h → n ≡ 7
      alone_room_of_all e =
          let l = listed_numbers numbers ends (alone_passed numbers ends t e).lists in
          let o = others_total (λ r. length r.bins) (runs numbers ends) in
          let n = new_few (runs numbers ends) in
          alone_room_enough (omega arith) (omega arith) e

      pub alone_refused_numbers : (n p a b d h : ℕ) → (query_alone numbers ends t allowance answers certificate).outcome ≡ refused n p a b d h
          → (AtDoor n) ⊎ (n ≡ 7)
      alone_refused_numbers = door_or_spent _ alone_passed_or_refused alone_room_of_all

    -- With 2 × n × digits n for each of the other runs, of n bins, refusal 7 never occurs, whatever the input.
    alone_enough_by : (alone_checks numbers ends t ≡ passed → total (λ r. bound_in (length r.bins) r) (other_runs (runs numbers ends)) ≤ allowance)
        → refused_by (query_alone numbers ends t allowance answers certificate).outcome ≢ 7
    unfolding query_alone alone_checks answered_with
    alone_enough_by l =
        unspent_by _ _ answers certificate (threshold_not_spent (length ends - 1) numbers ends t)
        (λ i e.
        walk_unspent (alone_fit numbers ends t fits i) allowance (length certificate) (l i)
        (spent_walked _ (length answers) _ walked.events walked.refused (never_full t _ allowance (length certificate)) e))

    pub alone_allowance_enough : total (λ r. bound_in (length r.bins) r) (other_runs (runs numbers ends)) ≤ allowance
        → refused_by (query_alone numbers ends t allowance answers certificate).outcome ≢ 7
    alone_allowance_enough l = alone_enough_by (λ e. l)

    -- And so is 2 × n × digits n, where n is the count of all numbers.
    pub alone_numbers_enough : bound_of (length numbers) (length numbers) ≤ allowance
        → refused_by (query_alone numbers ends t allowance answers certificate).outcome ≢ 7
    alone_numbers_enough l =
        alone_enough_by
        (λ e.
        le_trans (others_total _ (runs numbers ends))
        (le_trans (numbers_bound (length numbers) (runs numbers ends) (listed_numbers numbers ends (alone_passed numbers ends t e).lists)) l))

    -- And so is 44040192, whatever the count of numbers.
    pub alone_always_enough : 2 * most_numbers * 21 ≤ allowance → refused_by (query_alone numbers ends t allowance answers certificate).outcome ≢ 7
    alone_always_enough l =
        alone_enough_by (λ e. le_trans (others_total _ (runs numbers ends)) (le_trans (lists_bound numbers ends (alone_passed numbers ends t e).lists) l))
