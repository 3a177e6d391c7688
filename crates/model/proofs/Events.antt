-- What a walk does: its parts and costs over an append, and those of searches. Assumes nothing.
use Prim.Native.Nat.{ℕ, zero, suc, ◌+◌, ◌*◌}
use lib.Dec.{ltb}
use lib.ListN.{replicate}
use mathlib.Core.Bool.{true, false}
use mathlib.Core.List.{List, [], ◌∷◌, ◌++◌}
use mathlib.Core.Logic.{⊎_elim}
use mathlib.Core.Path.{◌≡◌, refl, ap, ◌∙◌}
use native.Mathlib.Omega.{arith}
use Rattle.model.specs.Certificate.{Part}
use Rattle.model.specs.Compared.{parts_of, cost, doubling_probe, halving_probe, probe, doublings_of, halvings_of, probes_of}
use Rattle.model.specs.Runs.{Run, total}
use Rattle.model.specs.Walk.{Event, sought, doubled, halved, wrote, head, seek, search_in, searches}
use Rattle.model.proofs.Tests.{both}

pub cost_append : (c : Event → ℕ) (ds bs : List Event) → cost c (ds ++ bs) ≡ cost c ds + cost c bs
unfolding cost
cost_append c [] bs = omega arith
cost_append c (e ∷ ds) bs = let i = cost_append c ds bs in omega arith

pub cost_add : (c d : Event → ℕ) (es : List Event) → cost (λ e. c e + d e) es ≡ cost c es + cost d es
unfolding cost
cost_add c d [] = refl
cost_add c d (e ∷ es) = let i = cost_add c d es in omega arith

-- every probe is of one kind
pub both_kinds : (es : List Event) → probes_of es ≡ doublings_of es + halvings_of es
unfolding probes_of probe doublings_of halvings_of
both_kinds es = cost_add doubling_probe halving_probe es

pub cost_replicate : (c : Event → ℕ) (n : ℕ) (e : Event) → cost c (replicate n e) ≡ n * c e
unfolding cost
cost_replicate c zero e = omega arith
cost_replicate c (suc n) e = let i = cost_replicate c n e in omega arith

pub parts_append : (ds bs : List Event) → parts_of (ds ++ bs) ≡ parts_of ds ++ parts_of bs
unfolding parts_of
parts_append [] bs = refl
parts_append (sought i ∷ ds) bs = parts_append ds bs
parts_append (doubled i ∷ ds) bs = parts_append ds bs
parts_append (halved i ∷ ds) bs = parts_append ds bs
parts_append (wrote p ∷ ds) bs = ap (λ l. p ∷ l) (parts_append ds bs)

pub parts_wrote : (p : Part) (es : List Event) → parts_of (wrote p ∷ es) ≡ p ∷ parts_of es
unfolding parts_of
parts_wrote p es = refl

pub parts_nil : parts_of [] ≡ []
unfolding parts_of
parts_nil = refl

no_parts_doubled : (n l : ℕ) → parts_of (replicate n (doubled l)) ≡ []
unfolding parts_of
no_parts_doubled zero l = refl
no_parts_doubled (suc n) l = no_parts_doubled n l

no_parts_halved : (n l : ℕ) → parts_of (replicate n (halved l)) ≡ []
unfolding parts_of
no_parts_halved zero l = refl
no_parts_halved (suc n) l = no_parts_halved n l

no_parts_search : (v : ℕ) (r : Run) → parts_of (search_in v r) ≡ []
unfolding search_in parts_of
no_parts_search v r =
    ⊎_elim
    (λ (e : ltb (head r) v ≡ true).
    rw (e, search_in)
    (parts_append (replicate (seek v r.bins).doublings (doubled r.label)) (replicate (seek v r.bins).halvings (halved r.label))
    ∙ rw (no_parts_doubled (seek v r.bins).doublings r.label, no_parts_halved (seek v r.bins).halvings r.label)))
    (λ (e : ltb (head r) v ≡ false). rw (e, search_in))
    (both (ltb (head r) v))

no_parts_searches : (v : ℕ) (rs : List Run) (es : List Event) → parts_of (searches v rs ++ es) ≡ parts_of es
unfolding searches
no_parts_searches v [] es = refl
no_parts_searches v (r ∷ rs) es =
    rw (mathlib.Core.List.append_assoc (search_in v r) (searches v rs) es, parts_append (search_in v r) (searches v rs ++ es), no_parts_search v r)
    (no_parts_searches v rs es)

-- a part, then searches
pub parts_round : (p : Part) (v : ℕ) (rs : List Run) (es : List Event) → parts_of (wrote p ∷ (searches v rs ++ es)) ≡ p ∷ parts_of es
parts_round p v rs es = parts_wrote p (searches v rs ++ es) ∙ ap (λ l. p ∷ l) (no_parts_searches v rs es)

pub cost_searches : (c : Event → ℕ) (v : ℕ) (rs : List Run) → cost c (searches v rs) ≡ total (λ r. cost c (search_in v r)) rs
unfolding searches total cost
cost_searches c v [] = refl
cost_searches c v (r ∷ rs) = cost_append c (search_in v r) (searches v rs) ∙ ap (λ x. cost c (search_in v r) + x) (cost_searches c v rs)
