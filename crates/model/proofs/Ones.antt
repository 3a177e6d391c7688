-- Where every run is given the weight 1, a question and a check with weights are those without, whatever the input. Assumes nothing.
use Prim.Native.Nat.{ℕ, zero, suc}
use borrow.Author.Tests.{eq-eqb}
use lib.Dec.{eqb}
use lib.ListN.{length, get_or, replicate, length-replicate}
use mathlib.Core.Bool.{not}
use mathlib.Core.List.Memᴰ
use mathlib.Core.List.{List, [], ◌∷◌}
use mathlib.Core.Option.{none}
use mathlib.Core.Path.{◌≡◌, refl, sym, ap, ap₂, ◌∙◌}
use native.Mathlib.Omega.{arith}
use Rattle.model.specs.Refusals.{◌then◌, refuse_if, refuse_at, count_check, misweighed, weights_check, threshold_check, sum_of_weights, list_checks, first_checks, weighted_checks, passed, answered_by, query, query_weighted, judged, check, check_weighted}
use Rattle.model.specs.Runs.{Run, runs, weighted_run, weighted}
use Rattle.model.proofs.Plain.{Plain, all_plain}

ones_each : (n i : ℕ) → ◌≡◌ {A = ℕ} (get_or (replicate n 1) i 1) 1
ones_each zero i = refl
ones_each (suc n) zero = refl
ones_each (suc n) (suc i) = ones_each n i

ones_sum : (n : ℕ) → sum_of_weights (replicate n 1) ≡ n
unfolding sum_of_weights
ones_sum zero = refl
ones_sum (suc n) = let i = ones_sum n in omega arith

ones_weighed : (i n : ℕ) → misweighed i (replicate n 1) ≡ none
unfolding misweighed
ones_weighed i zero = refl
ones_weighed i (suc n) = ones_weighed (suc i) n

ones_pass : (k : ℕ) → weights_check k (replicate k 1) ≡ passed
unfolding weights_check refuse_if refuse_at ◌then◌
ones_pass k = rw (eq-eqb (length (replicate k 1)) k (length-replicate {A = ℕ} k 1), ones_weighed 0 k)

ones_run : (n : ℕ) (r : Run) → r.weight ≡ 1 → weighted_run (replicate n 1) r ≡ r
unfolding weighted_run
ones_run n r e = λ i. record { label = r.label; weight = (ones_each n r.label ∙ sym e) i; bins = r.bins }

ones_weighted : (n : ℕ) (rs : List Run) → Plain rs → weighted (replicate n 1) rs ≡ rs
unfolding weighted
ones_weighted n [] g = refl
ones_weighted n (r ∷ rs) g =
    ap₂ ◌∷◌ (ones_run n r (g.each r (Memᴰ.head refl))) (ones_weighted n rs (record { each = λ s m. g.each s (Memᴰ.tail m) }))

module _ (numbers ends : List ℕ) (t : ℕ) where
  ones_checked : weighted_checks numbers ends (replicate (length ends) 1) t ≡ first_checks numbers ends t
  unfolding weighted_checks first_checks ◌then◌
  ones_checked =
      ap (λ c. count_check ends then c then threshold_check (sum_of_weights (replicate (length ends) 1)) t t then list_checks numbers ends) (ones_pass (length ends))
      ∙ ap (λ n. count_check ends then threshold_check n t t then list_checks numbers ends) (ones_sum (length ends))

  ones_runs : weighted (replicate (length ends) 1) (runs numbers ends) ≡ runs numbers ends
  ones_runs = ones_weighted (length ends) (runs numbers ends) (all_plain numbers ends)

  pub query_ones : (allowance : ℕ) (answers certificate : List ℕ)
      → query_weighted numbers ends (replicate (length ends) 1) t allowance answers certificate ≡ query numbers ends t allowance answers certificate
  unfolding query query_weighted
  query_ones allowance answers certificate = λ i. answered_by (ones_checked i) (ones_runs i) t allowance answers certificate

  pub check_ones : (certificate : List ℕ) → check_weighted numbers ends (replicate (length ends) 1) t certificate ≡ check numbers ends t certificate
  unfolding check check_weighted
  check_ones certificate = λ i. judged (ones_checked i) (ones_runs i) t certificate
