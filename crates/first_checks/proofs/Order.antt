-- Checks in order, and what has been checked once a check is passed. Assumes nothing.
use Prim.Native.Nat.{ℕ, ◌≤◌}
use lib.ListN.{length}
use mathlib.Core.List.{List}
use mathlib.Core.Path.{◌≡◌, refl, sym}
use Rattle.model.proofs.FirstChecks.{count_passed, weights_passed}
use Rattle.model.specs.Refusals.{Check, passed, refusal, ◌then◌, count_check, weights_check}
use Rattle.model.specs.Runs.{most_runs}

pub then_passed : (c : Check) → (passed then c) ≡ c
unfolding ◌then◌
then_passed c = refl

pub then_refusal : (n p : ℕ) (c : Check) → (refusal n p then c) ≡ refusal n p
unfolding ◌then◌
then_refusal n p c = refl

pub then_then : (a b c : Check) → ((a then b) then c) ≡ (a then b then c)
unfolding ◌then◌
then_then passed b c = refl
then_then (refusal n p) b c = refl

pub count_small : (ends : List ℕ) → passed ≡ count_check ends → length ends ≤ most_runs
count_small ends e = (count_passed ends (sym e)).1

pub weights_small : (k : ℕ) (weights : List ℕ) → passed ≡ weights_check k weights → length weights ≡ k
weights_small k weights e = (weights_passed k weights (sym e)).0

pub ruleset checks_in_order = (then_passed, then_refusal, then_then)
