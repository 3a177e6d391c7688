-- What the checks return is the model's verdict, and demand 2 holds of it; and what the first checks give. Assumes nothing.
use Prim.Native.Nat.{ℕ, ◌-◌, ◌^◌, ◌≤◌, ◌<◌}
use lib.ListN.{length}
use lib.Pow.{pow_pos, pow_mono}
use mathlib.Core.List.{List, []}
use mathlib.Core.Path.{◌≡◌, sym, ap, ◌∙◌, subst}
use native.Mathlib.Omega.{arith}
use Rattle.check_part.proofs.Testing.{all_chosen}
use Rattle.check_part.specs.Tested.{chosen_runs}
use Rattle.model.proofs.Chosen.{chosen_all}
use Rattle.model.proofs.FirstChecks.{then_second, first_passed, chosen_passed, all_chosen_checks, weighted_passed, weighted_weighs, all_length, all_labelled, every_run}
use Rattle.model.proofs.Plain.{all_plain}
use Rattle.model.proofs.Weighted.{weighted_labelled, weighted_length, weighted_none}
use Rattle.model.specs.Demands.{Accepts}
use Rattle.model.specs.Refusals.{Check, passed, refusal, first_checks, chosen_checks, weighted_checks, Verdict, invalid, check_from, judged}
use Rattle.model.specs.Runs.{Run, first_bin, runs, weighted, weight_of_all, chosen, most_runs, mask_bits}
use Rattle.weights.proofs.Named.{named_none}
use Rattle.weights.specs.Named.{Weighs}
use Rattle.checker.specs.Checkable.{Checkable}
use Rattle.checker.specs.Verdicts.{AcceptedBy}

-- ---- the verdict, by what the first checks give

pub judged_refused : (c : Check) (rs : List Run) (t : ℕ) (certificate : List ℕ) (n p : ℕ) → refusal n p ≡ c → invalid n p 0 0 ≡ judged c rs t certificate
unfolding judged
judged_refused c rs t certificate n p e = rw (← e, judged)

judged_passed : (c : Check) (rs : List Run) (t : ℕ) (certificate : List ℕ) → c ≡ passed
    → check_from (length certificate) rs t first_bin 0 certificate ≡ judged c rs t certificate
unfolding judged
judged_passed c rs t certificate e = rw (e, judged)

-- Where the model's verdict is as demand 2 has it, so is a verdict that equals it.
module _ (c : Check) (rs : List Run) (t : ℕ) (certificate : List ℕ) (h : c ≡ passed → Accepts rs t certificate (judged c rs t certificate)) (v : Verdict) where
  with_demand : v ≡ judged c rs t certificate → (v ≡ judged c rs t certificate) × AcceptedBy c rs t certificate v
  with_demand e = (e, record { for_every = λ q. subst (λ x. Accepts rs t certificate x) (sym e) (h q) })

  pub judged_by : c ≡ passed → (ss : List Run) → ss ≡ rs → v ≡ check_from (length certificate) ss t first_bin 0 certificate
      → (v ≡ judged c rs t certificate) × AcceptedBy c rs t certificate v
  judged_by e ss i q =
      with_demand (q ∙ (ap (λ x. check_from (length certificate) x t first_bin 0 certificate) i ∙ judged_passed c rs t certificate e))

-- ---- the runs that it judges by

-- where no weights are given, those that the mask chooses
pub unweighted : (numbers ends : List ℕ) (m : ℕ) → chosen_runs numbers ends [] m ≡ chosen m (runs numbers ends)
unweighted numbers ends m = ap (chosen m) (weighted_none (runs numbers ends) (all_plain numbers ends))

pub every_unweighted : (numbers ends : List ℕ) → chosen_runs numbers ends [] (2 ^ length ends - 1) ≡ runs numbers ends
every_unweighted numbers ends = unweighted numbers ends (2 ^ length ends - 1) ∙ every_run numbers ends

-- and all runs with their weights
pub every_weighted : (numbers ends weights : List ℕ) → chosen_runs numbers ends weights (2 ^ length ends - 1) ≡ weighted weights (runs numbers ends)
every_weighted numbers ends weights =
    let rs = weighted weights (runs numbers ends) in
    let n = weighted_length weights (runs numbers ends) ∙ all_length numbers ends in
    ap (λ x. chosen (2 ^ x - 1) rs) (sym n) ∙ chosen_all rs (weighted_labelled weights (all_labelled numbers ends))

-- ---- what the first checks give

pub few_runs : (numbers ends : List ℕ) (t : ℕ) → first_checks numbers ends t ≡ passed → length ends ≤ most_runs
few_runs numbers ends t e = (first_passed numbers ends t e).few_runs

pub few_weighted : (numbers ends weights : List ℕ) (wanted : ℕ) → weighted_checks numbers ends weights wanted ≡ passed → length ends ≤ most_runs
few_weighted numbers ends weights wanted e = (weighted_passed numbers ends weights wanted e).few_runs

none_weigh : (m : ℕ) → Weighs m []
none_weigh m = record { few = omega arith; within = λ h. absurd (omega arith) }

pub chosen_checkable : (numbers ends : List ℕ) (m t : ℕ) → chosen_checks numbers ends m t ≡ passed → Checkable numbers ends [] m t
unfolding chosen_checks
chosen_checkable numbers ends m t e =
    let p = chosen_passed numbers ends m t e in
    let k : length ends ≤ mask_bits = p.few_runs in
    let b = pow_mono k in
    let o = p.only in
    let n = named_none m (omega arith) in
    let h = p.met in
    record {
      few = p.few_runs;
      lists = then_second _ _ (then_second _ _ (then_second _ _ e));
      within = o;
      row = none_weigh m;
      some = p.threshold;
      met = omega arith;
    }

pub all_checkable : (numbers ends : List ℕ) (t : ℕ) → first_checks numbers ends t ≡ passed → Checkable numbers ends [] (2 ^ length ends - 1) t
all_checkable numbers ends t e = chosen_checkable numbers ends (2 ^ length ends - 1) t (all_chosen_checks numbers ends t e)

pub weighted_checkable : (numbers ends weights : List ℕ) (wanted : ℕ) → weighted_checks numbers ends weights wanted ≡ passed
    → Checkable numbers ends weights (2 ^ length ends - 1) wanted
unfolding weighted_checks
weighted_checkable numbers ends weights wanted e =
    let p = weighted_passed numbers ends weights wanted e in
    let q = pow_pos (length ends) in
    let w : 2 ^ length ends - 1 < 2 ^ length ends = omega arith in
    let k = p.few_runs in
    let l = p.row in
    let h = p.met in
    let s = weighted_weighs numbers ends weights l in
    let a = all_chosen numbers ends weights (2 ^ length ends - 1) k w in
    let i = ap weight_of_all (every_weighted numbers ends weights) in
    record {
      few = k;
      lists = then_second _ _ (then_second _ _ (then_second _ _ e));
      within = w;
      row = record { few = omega arith; within = λ z. subst (λ x. 2 ^ length ends - 1 < 2 ^ x) (sym l) w };
      some = p.threshold;
      met = omega arith;
    }
