-- Lists and rows of numbers in order, runs weighed by their heads, and searches cut short: terms in which the code's contracts speak. Definitions only.
use Rattle.std.specs.Prelude.{ℕ, suc, ◌≤◌, ◌<◌, List, [], ◌∷◌, eqb}
use Rattle.model.specs.Compared.{halvings_of}
use Rattle.model.specs.Refusals.{cut}
use Rattle.model.specs.Runs.{Run, past_bin, weight_of}
use Rattle.model.specs.Walk.{Event, head}

-- bins that rise, the first of them not below a
pub data Rise : ℕ → List ℕ → Type 0 where
  rise_nil : {a : ℕ} → Rise a []
  rise_cons : {a x : ℕ} {s : List ℕ} → a ≤ x → x < past_bin → Rise (suc x) s → Rise a (x ∷ s)

-- numbers in rising order, the first of them not below a; equal ones may follow one another
pub data Ordered : ℕ → List ℕ → Type 0 where
  ordered_nil : {a : ℕ} → Ordered a []
  ordered_cons : {a x : ℕ} {s : List ℕ} → a ≤ x → Ordered x s → Ordered a (x ∷ s)

-- what the runs whose heads equal v weigh
unfoldable pub equal : ℕ → List Run → ℕ
equal v rs = weight_of (λ r. eqb (head r) v) rs

-- the halving probes of searches that have n probes left
unfoldable pub halvings_within : ℕ → List Event → ℕ
halvings_within n es = halvings_of (cut (record { probes = n; answers = 0; bytes = 0 }) es).events
