-- The bound on probes, from the ends of the runs alone, and its refusals. A 0 at the start of a run cannot be seen from its ends and is counted with its
-- numbers. Definitions only.
use Rattle.std.specs.Prelude.{ℕ, suc, ◌+◌, ◌-◌, ◌*◌, Result, Ok, Err, Bool, true, List, [], ◌∷◌, ltb, eqb, length}
use Rattle.model.specs.Compared.{bound_of}
use Rattle.model.specs.Refusals.{Check, passed, refusal, ◌then◌, refuse_if, refuse_at, falls_from, last_end, count_check, mask_check}
use Rattle.model.specs.Runs.{bit, one, most_numbers}
use Rattle.refusal.specs.Number.{number_of}
use Rattle.refusal.specs.declared.Refusal.{Refusal}

-- the sum over those of the runs with these ends that pass a test, the first of them being run i and starting at a
unfoldable pub sum_from : (ℕ → Bool) → ℕ → ℕ → ℕ → List ℕ → ℕ
sum_from p d i a [] = 0
sum_from p d i a (e ∷ ends) = one (p i) * bound_of d (e - a) + sum_from p d (suc i) e ends

-- every run, and those that a mask names
abbrev pub every : ℕ → Bool
every i = true

abbrev pub named : ℕ → ℕ → Bool
named m i = eqb (bit m i) 1

-- 3 at the index of the first end below the one before; else 3 at place k, if the last end is above most_numbers.
unfoldable pub order_checks : List ℕ → Check
order_checks ends = refuse_at 3 (falls_from 0 0 ends) then refuse_if (ltb most_numbers (last_end 0 ends)) 3 (length ends)

-- The first checks on the ends, k in number: 1 at place k, if k is 0 or above most_runs; then 3. With a mask that chooses runs, 13 between the two, at
-- place 0.
unfoldable pub end_checks : List ℕ → Check
end_checks ends = count_check ends then order_checks ends

unfoldable pub chosen_end_checks : List ℕ → ℕ → Check
chosen_end_checks ends m = count_check ends then mask_check (length ends) m 0 then order_checks ends

-- What a call returns: the sum, or the refusal's number and place.
pub data Bound : Type 0 where
  Sum : ℕ → Bound
  Refused : (number place : ℕ) → Bound

-- as the code has it
abbrev pub bound_is : Result ℕ Refusal → Bound
bound_is (Ok sum) = Sum sum
bound_is (Err r) = Refused (number_of r.reason) r.place

-- the sum where the checks are passed
unfoldable pub bound_by : Check → ℕ → Bound
bound_by passed sum = Sum sum
bound_by (refusal n p) sum = Refused n p

-- over all runs
unfoldable pub probe_bound : List ℕ → ℕ → Bound
probe_bound ends d = bound_by (end_checks ends) (sum_from every d 0 0 ends)

-- and over those that a mask chooses
unfoldable pub probe_bound_chosen : List ℕ → ℕ → ℕ → Bound
probe_bound_chosen ends m d = bound_by (chosen_end_checks ends m) (sum_from (named m) d 0 0 ends)
