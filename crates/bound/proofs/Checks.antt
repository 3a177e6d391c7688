-- The checks before the ends' order, and the loop over the ends. The loop's invariant: what the checks, the last end and the sum come to from the start is
-- what they come to from here. One turn keeps it, and each way out gives the definition's answer. Assumes nothing.
use Prim.Native.Nat.{ℕ, ◌+◌, ◌-◌, ◌*◌, ◌^◌, ◌≤◌, ◌<◌}
use borrow.Author.Tests.{lt-ltb, le-ltb}
use lib.ListN.{length, get_or, drop, drop_of_length-le}
use lib.Seq.{drop-cons}
use mathlib.Core.Bool.{Bool}
use mathlib.Core.List.{List}
use mathlib.Core.Option.{none, some}
use mathlib.Core.Path.{◌≡◌, refl, ◌∙◌}
use native.Mathlib.Numerals.{add-one}
use native.Mathlib.Omega.{arith}
use Rattle.first_checks.proofs.Order.{checks_in_order}
use Rattle.model.specs.Compared.{bound_of}
use Rattle.bound.specs.Bound.{sum_from, order_checks, Sum, Refused, bound_by}
use Rattle.model.specs.Refusals.{passed, refusal, ◌then◌, refuse_if, refuse_at, falls_from, last_end}
use Rattle.model.specs.Runs.{one, most_numbers}

pub by_passed : (sum : ℕ) → bound_by passed sum ≡ Sum sum
unfolding bound_by
by_passed sum = refl

pub by_refusal : (n p sum : ℕ) → bound_by (refusal n p) sum ≡ Refused n p
unfolding bound_by
by_refusal n p sum = refl

pub ruleset bounds = (checks_in_order, by_passed, by_refusal)

-- The state at end i: `before` is the end before it and `sum` the sum over the runs passed.
pub record Summed (p : ℕ → Bool) (ends : List ℕ) (d sum before i : ℕ) : Type 0 where
  pub within : i ≤ length ends
  pub falls : falls_from 0 0 ends ≡ falls_from before i (drop i ends)
  pub last : last_end 0 ends ≡ last_end before (drop i ends)
  pub rest : sum_from p d 0 0 ends ≡ sum + sum_from p d i before (drop i ends)
  pub small : sum ≤ i * 2 ^ 38

pub start : (p : ℕ → Bool) (ends : List ℕ) (d : ℕ) → Summed p ends d 0 0 0
start p ends d = record { within = omega arith; falls = refl; last = refl; rest = omega arith; small = omega arith }

pub next : (p : ℕ → Bool) (ends : List ℕ) (d sum before i : ℕ) → Summed p ends d sum before i → i < length ends → before ≤ get_or ends i 0
    → one (p i) * bound_of d (get_or ends i 0 - before) < 2 ^ 38
    → Summed p ends d (sum + one (p i) * bound_of d (get_or ends i 0 - before)) (get_or ends i 0) (i + 1)
unfolding falls_from last_end sum_from
next p ends d sum before i s h l b =
    let c = drop-cons ends i 0 h in
    let r = rw c at s.rest in
    let m = s.small in
    rw add-one record {
      within = h;
      falls = s.falls ∙ rw (c, le-ltb (get_or ends i 0) before l, falls_from);
      last = s.last ∙ rw c;
      rest = omega arith;
      small = omega arith;
    }

module _ (p : ℕ → Bool) (ends : List ℕ) (d sum before i : ℕ) (s : Summed p ends d sum before i) where
  -- end i is below the one before
  pub fall_refused : i < length ends → get_or ends i 0 < before → bound_by (order_checks ends) (sum_from p d 0 0 ends) ≡ Refused 3 i
  unfolding bound_by order_checks ◌then◌ refuse_at falls_from
  fall_refused h b =
      let f : falls_from 0 0 ends ≡ some i = s.falls ∙ rw (drop-cons ends i 0 h, lt-ltb (get_or ends i 0) before b, falls_from) in
      rw f

  -- every end has been passed
  module _ (done : length ends ≤ i) where
    none_fell : falls_from 0 0 ends ≡ none
    unfolding falls_from
    none_fell = s.falls ∙ rw (drop_of_length-le ends done)

    last_is : last_end 0 ends ≡ before
    unfolding last_end
    last_is = s.last ∙ rw (drop_of_length-le ends done)

    sum_is : sum_from p d 0 0 ends ≡ sum
    unfolding sum_from
    sum_is = let r = rw (drop_of_length-le ends done) at s.rest in omega arith

    pub last_refused : most_numbers < before → bound_by (order_checks ends) (sum_from p d 0 0 ends) ≡ Refused 3 (length ends)
    unfolding bound_by order_checks ◌then◌ refuse_if refuse_at
    last_refused h = rw (none_fell, last_is, lt-ltb most_numbers before h)

    pub sum_returned : before ≤ most_numbers → bound_by (order_checks ends) (sum_from p d 0 0 ends) ≡ Sum sum
    unfolding bound_by order_checks ◌then◌ refuse_if refuse_at
    sum_returned h = rw (none_fell, last_is, le-ltb most_numbers before h, sum_is)
