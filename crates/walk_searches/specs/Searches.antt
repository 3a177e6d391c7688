-- All runs searched, with a tally of probes. Definitions only.
use Rattle.std.specs.Prelude.{ℕ, ◌+◌, ◌<◌, List, map, ◌≡◌, Result, Ok, Err}
use Rattle.model.specs.Compared.{halvings_of, probes_of}
use Rattle.model.specs.Rows.{halvings_within}
use Rattle.model.specs.Runs.{Run}
use Rattle.model.specs.Walk.{Event, searches, searched}
use Rattle.walk_state.specs.State.{Holds, InPlay}
use Rattle.walk_state.specs.Moves.{PlacedAt}
use Rattle.walk_search.specs.declared.Spent.{Spent}
use Rattle.walk_seek.specs.declared.Left.{Left}
use Rattle.walk_tally.specs.Tally.{left_in, halved_in}
use Rattle.walk_searches.specs.declared.Moved.{Moved}

-- the tally after some searches
abbrev pub Tallied : List Event → ℕ → ℕ → Type 0
Tallied es tally after = (left_in after + probes_of es ≡ left_in tally) × (halved_in after ≡ halved_in tally + halvings_of es)

-- and where the probes ran out in them: all that were left are made
abbrev pub Exhausted : List Event → ℕ → ℕ → Type 0
Exhausted es tally after =
    (left_in tally < probes_of es) × (left_in after ≡ 0) × (halved_in after ≡ halved_in tally + halvings_within (left_in tally) es)

-- all runs searched whose head is below v, and the weight then in play
abbrev pub SearchedRuns : List ℕ → List ℕ → List ℕ → List Run → ℕ → ℕ → List ℕ → List ℕ → Result Moved Spent → Type 0
SearchedRuns numbers ends weights rs v tally positions' keys' (Ok r) =
    Tallied (searches v rs) tally r.tally × Holds numbers ends positions' keys' r.start (map (searched v) rs) × InPlay numbers ends weights positions' r.weight
SearchedRuns numbers ends weights rs v tally positions' keys' (Err e) = Exhausted (searches v rs) tally e.0

-- the same, where keys are not put back
abbrev pub SearchedEach : List ℕ → List ℕ → List ℕ → List Run → ℕ → ℕ → List ℕ → Result Left Spent → Type 0
SearchedEach numbers ends weights rs v tally positions' (Ok r) =
    Tallied (searches v rs) tally r.tally × PlacedAt numbers ends (map (searched v) rs) positions' × InPlay numbers ends weights positions' r.weight
SearchedEach numbers ends weights rs v tally positions' (Err e) = Exhausted (searches v rs) tally e.0
