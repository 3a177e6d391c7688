-- A bound that a call returns is an allowance that is enough: with it no question whose true certificate has so many parts ends as spent, and with the sum of
-- such bounds no call of many questions does. Assumes nothing.
use Prim.Native.Nat.{ℕ, ◌≤◌, ◌<◌}
use lib.ListN.{length, get_or}
use mathlib.Core.List.{List}
use mathlib.Core.Logic.{◌≢◌}
use mathlib.Core.Path.{◌≡◌, sym, ◌∙◌, subst}
use native.Mathlib.Nat.{le_trans}
use native.Mathlib.Omega.{arith}
use Rattle.bound.specs.Bound.{Bound, Sum, probe_bound, probe_bound_chosen}
use Rattle.bound.proofs.Runs.{bound_passed, weighted_bound_passed, chosen_bound_passed}
use Rattle.model.proofs.Alone.{others_chosen, alone_chosen_checks}
use Rattle.model.proofs.AloneDemands.{alone_demand3}
use Rattle.model.proofs.Demands.{demand3, weighted_demand3}
use Rattle.model.proofs.Many.{sum_le}
use Rattle.model.proofs.ManyChecks.{many_passed}
use Rattle.model.proofs.ManyDemands.{many_demand3}
use Rattle.model.specs.Alone.{other_runs, other_mask, alone_checks, query_alone}
use Rattle.model.specs.Certificate.{Part, TrueCertificate}
use Rattle.model.specs.Compared.{bound}
use Rattle.model.specs.Demands.{Fits, refused_by}
use Rattle.model.specs.Many.{all_passed, many_checks, query_many}
use Rattle.model.specs.ManyDemands.{call_refused_by, runs_of, sum_to}
use Rattle.model.specs.Refusals.{passed, first_checks, weighted_checks, query, query_weighted}
use Rattle.model.specs.Runs.{past_bin, runs, weighted}

-- what a call returns is not below b where it is a sum that is not
not_below : (b s : ℕ) {r : Bound} → r ≡ Sum s → (sum : ℕ) × (r ≡ Sum sum) × (b ≤ sum) → b ≤ s
not_below b s e (sum, f, l) = let i : sum ≡ s = same (sym f ∙ e) in omega arith
  where
    same : {m n : ℕ} → Sum m ≡ Sum n → m ≡ n
    same h = cc

pub bound_enough : (numbers ends : List ℕ) (t allowance : ℕ) (answers certificate : List ℕ) → Fits past_bin numbers → first_checks numbers ends t ≡ passed
    → (ps : List Part) → TrueCertificate (runs numbers ends) t ps → (s : ℕ) → probe_bound ends (length ps) ≡ Sum s → s ≤ allowance
    → refused_by (query numbers ends t allowance answers certificate).outcome ≢ 7
bound_enough numbers ends t allowance answers certificate h e ps c s r l =
    ((demand3 numbers ends t allowance answers certificate h).for_every e ps c).enough
    (le_trans (not_below (bound (length ps) (runs numbers ends)) s r (bound_passed (length ps) t numbers ends e)) l)

pub weighted_bound_enough : (numbers ends weights : List ℕ) (wanted allowance : ℕ) (answers certificate : List ℕ) → Fits past_bin numbers
    → weighted_checks numbers ends weights wanted ≡ passed → (ps : List Part) → TrueCertificate (weighted weights (runs numbers ends)) wanted ps
    → (s : ℕ) → probe_bound ends (length ps) ≡ Sum s → s ≤ allowance → refused_by (query_weighted numbers ends weights wanted allowance answers certificate).outcome ≢ 7
weighted_bound_enough numbers ends weights wanted allowance answers certificate h e ps c s r l =
    ((weighted_demand3 numbers ends weights wanted allowance answers certificate h).for_every e ps c).enough
    (le_trans
    (not_below (bound (length ps) (weighted weights (runs numbers ends))) s r (weighted_bound_passed (length ps) wanted numbers ends weights e)) l)

pub many_bound_enough : (numbers ends masks thresholds : List ℕ) (allowance : ℕ) (answers certificate results : List ℕ) → Fits past_bin numbers
    → many_checks numbers ends masks thresholds results ≡ all_passed → (ps : ℕ → List Part)
    → ((q : ℕ) → q < length masks → TrueCertificate (runs_of numbers ends masks q) (get_or thresholds q 0) (ps q)) → (s : ℕ → ℕ)
    → ((q : ℕ) → q < length masks → probe_bound_chosen ends (get_or masks q 0) (length (ps q)) ≡ Sum (s q)) → sum_to (length masks) s ≤ allowance
    → call_refused_by (query_many numbers ends masks thresholds allowance answers certificate results).outcome ≢ 7
unfolding runs_of
many_bound_enough numbers ends masks thresholds allowance answers certificate results h e ps c s r l =
    let p = many_passed numbers ends masks thresholds results e in
    ((many_demand3 numbers ends masks thresholds allowance answers certificate results h).for_every e ps c).enough
    (le_trans
    (sum_le (length masks) (λ q. bound (length (ps q)) (runs_of numbers ends masks q)) s
    (λ q k.
    not_below (bound (length (ps q)) (runs_of numbers ends masks q)) (s q) (r q k)
    (chosen_bound_passed (length (ps q)) (get_or masks q 0) (get_or thresholds q 0) numbers ends (p.each q k))))
    l)

-- The bound of the call that asks what one run found alone is that of the mask of the other runs.
pub alone_bound_enough : (numbers ends : List ℕ) (t allowance : ℕ) (answers certificate : List ℕ) → Fits past_bin numbers → alone_checks numbers ends t ≡ passed
    → (ps : List Part) → TrueCertificate (other_runs (runs numbers ends)) t ps → (s : ℕ) → probe_bound_chosen ends (other_mask (length ends)) (length ps) ≡ Sum s
    → s ≤ allowance → refused_by (query_alone numbers ends t allowance answers certificate).outcome ≢ 7
alone_bound_enough numbers ends t allowance answers certificate h e ps c s r l =
    ((alone_demand3 numbers ends t allowance answers certificate h).for_every e ps c).enough
    (le_trans
    (subst (λ rs. bound (length ps) rs ≤ s) (others_chosen numbers ends)
    (not_below (bound (length ps) _) s r (chosen_bound_passed (length ps) (other_mask (length ends)) t numbers ends (alone_chosen_checks numbers ends t e))))
    l)
