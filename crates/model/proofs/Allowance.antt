-- Allowances that are always enough. A search moves its run on by at least one number, so in a run of n bins a walk makes at most n searches and
-- 2 × n × digits n probes. An allowance of the sum of these over the runs is never spent; nor is 2 × n × digits n for n numbers in all, nor 44040192 for
-- any input. Assumes nothing.
use Prim.Native.Nat.{ℕ, ◌*◌, ◌≤◌}
use lib.ListN.{length}
use mathlib.Core.List.{List, [], ◌∷◌, Memᴰ}
use mathlib.Core.Logic.{◌≢◌}
use mathlib.Core.Path.{◌≡◌}
use native.Mathlib.Nat.{le_trans, mul-le-mul, mul-le-mul_left, mul-le-mul_right}
use native.Mathlib.Omega.{arith}
use Rattle.model.specs.Compared.{whole_walk, probes_in, digits, bound_of, bound_in}
use Rattle.model.specs.Demands.{Fits, refused_by}
use Rattle.model.specs.Refusals.{Check, passed, first_checks, weighted_checks, answered_with, answered_by, query, query_weighted}
use Rattle.model.specs.Runs.{Run, past_bin, most_numbers, runs, weighted, total}
use Rattle.model.proofs.Demands.{whole_bound, never_spent}
use Rattle.model.proofs.Digits.{digits_mono, digits_least}
use Rattle.model.proofs.Enough.{NotSpent, threshold_not_spent, weighted_not_spent, unspent_by, listed_numbers, weighted_numbers}
use Rattle.model.proofs.FirstChecks.{Listed, first_passed, weighted_passed, fit, weighted_fit}
use Rattle.model.proofs.Truth.{Fit}

-- In a run of n bins the whole walk makes at most 2 × n × digits n probes.
pub run_probes : {rs : List Run} {t : ℕ} → Fit rs t → (r : Run) → Memᴰ r rs → probes_in r.label (whole_walk t rs) ≤ bound_in (length r.bins) r
run_probes g r m = whole_bound g (length r.bins) r m (omega arith)

-- Where the runs have at most n numbers in all, the sum over the runs is at most 2 × digits n for each number.
sum_bound : (n : ℕ) (rs : List Run) → total (λ r. length r.bins) rs ≤ n
    → total (λ r. bound_in (length r.bins) r) rs ≤ total (λ r. length r.bins) rs * (2 * digits n)
unfolding total bound_in bound_of
sum_bound n [] h = omega arith
sum_bound n (r ∷ rs) h =
    let k = sum_bound n rs (omega arith) in
    let l : length r.bins ≤ n = omega arith in
    let d = mul-le-mul_left (length r.bins) (digits_mono l) in
    omega arith

-- For runs of at most n numbers in all the sum over the runs is at most 2 × n × digits n.
pub numbers_bound : (n : ℕ) (rs : List Run) → total (λ r. length r.bins) rs ≤ n → total (λ r. bound_in (length r.bins) r) rs ≤ bound_of n n
unfolding bound_of
numbers_bound n rs l =
    let k = sum_bound n rs l in
    let i = mul-le-mul_right (2 * digits n) l in
    omega arith

-- And that is at most 2 × 1048576 × 21, where there are at most 1048576 numbers.
most_bound : (n : ℕ) → n ≤ most_numbers → bound_of n n ≤ 2 * most_numbers * 21
unfolding bound_of
most_bound n l = mul-le-mul (mul-le-mul_left 2 l) (digits_least n 21 (omega arith))

pub lists_bound : (numbers ends : List ℕ) → Listed numbers ends → total (λ r. bound_in (length r.bins) r) (runs numbers ends) ≤ 2 * most_numbers * 21
lists_bound numbers ends p =
    le_trans (numbers_bound (length numbers) (runs numbers ends) (listed_numbers numbers ends p)) (most_bound (length numbers) p.few_numbers)

-- A question over runs that its first checks make fit, with an allowance of 2 × n × digits n for each run of n bins: refusal 7 never occurs, whatever the input.
allowance_enough_by : (c : Check) (rs : List Run) (t allowance : ℕ) (answers certificate : List ℕ) → NotSpent c → (c ≡ passed → Fit rs t)
    → (c ≡ passed → total (λ r. bound_in (length r.bins) r) rs ≤ allowance) → refused_by (answered_by c rs t allowance answers certificate).outcome ≢ 7
unfolding answered_by answered_with
allowance_enough_by c rs t allowance answers certificate d fits l =
    unspent_by c _ answers certificate d
    (λ i. never_spent (fits i) (λ r. bound_in (length r.bins) r) (run_probes (fits i)) _ allowance (length answers) (length certificate) (l i))

module _ (numbers ends : List ℕ) (t allowance : ℕ) (answers certificate : List ℕ) (fits : Fits past_bin numbers) where
  enough_by : (first_checks numbers ends t ≡ passed → total (λ r. bound_in (length r.bins) r) (runs numbers ends) ≤ allowance)
      → refused_by (query numbers ends t allowance answers certificate).outcome ≢ 7
  unfolding query first_checks
  enough_by =
      allowance_enough_by _ (runs numbers ends) t allowance answers certificate (threshold_not_spent (length ends) numbers ends t) (fit numbers ends t fits)

  pub allowance_enough : total (λ r. bound_in (length r.bins) r) (runs numbers ends) ≤ allowance
      → refused_by (query numbers ends t allowance answers certificate).outcome ≢ 7
  allowance_enough l = enough_by (λ e. l)

  -- And so is 2 × n × digits n, where n is the count of all numbers.
  pub numbers_enough : bound_of (length numbers) (length numbers) ≤ allowance
      → refused_by (query numbers ends t allowance answers certificate).outcome ≢ 7
  numbers_enough l =
      enough_by (λ e. le_trans (numbers_bound (length numbers) (runs numbers ends) (listed_numbers numbers ends (first_passed numbers ends t e).lists)) l)

  -- And so is 44040192, whatever the count of numbers.
  pub always_enough : 2 * most_numbers * 21 ≤ allowance → refused_by (query numbers ends t allowance answers certificate).outcome ≢ 7
  always_enough l = enough_by (λ e. le_trans (lists_bound numbers ends (first_passed numbers ends t e).lists) l)

-- And so it is with weights.
module _ (numbers ends weights : List ℕ) (wanted allowance : ℕ) (answers certificate : List ℕ) (fits : Fits past_bin numbers) where
  weighted_enough_by : (weighted_checks numbers ends weights wanted ≡ passed → bound_of (length numbers) (length numbers) ≤ allowance)
      → refused_by (query_weighted numbers ends weights wanted allowance answers certificate).outcome ≢ 7
  unfolding query_weighted
  weighted_enough_by l =
      allowance_enough_by _ (weighted weights (runs numbers ends)) wanted allowance answers certificate (weighted_not_spent numbers ends weights wanted)
      (weighted_fit numbers ends weights wanted fits)
      (λ e.
      let n = weighted_numbers numbers ends weights (weighted_passed numbers ends weights wanted e).lists in
      le_trans (numbers_bound (length numbers) (weighted weights (runs numbers ends)) n) (l e))

  pub weighted_numbers_enough : bound_of (length numbers) (length numbers) ≤ allowance
      → refused_by (query_weighted numbers ends weights wanted allowance answers certificate).outcome ≢ 7
  weighted_numbers_enough l = weighted_enough_by (λ e. l)

  pub weighted_always_enough : 2 * most_numbers * 21 ≤ allowance → refused_by (query_weighted numbers ends weights wanted allowance answers certificate).outcome ≢ 7
  weighted_always_enough l = weighted_enough_by (λ e. le_trans (most_bound (length numbers) (weighted_passed numbers ends weights wanted e).lists.few_numbers) l)

-- The largest allowance there is, 4294967295, is enough for every input.
pub largest_enough : (numbers ends : List ℕ) (t : ℕ) (answers certificate : List ℕ) → Fits past_bin numbers
    → refused_by (query numbers ends t 4294967295 answers certificate).outcome ≢ 7
largest_enough numbers ends t answers certificate h = always_enough numbers ends t 4294967295 answers certificate h (omega arith)
