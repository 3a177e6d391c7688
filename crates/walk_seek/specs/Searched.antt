-- One run searched, with a tally of probes. Definitions only.
use Rattle.std.specs.Prelude.{ℕ, ◌+◌, ◌≤◌, List, ◌≡◌, get_or, set, Result, Ok, Err}
use Rattle.model.specs.Runs.{slice}
use Rattle.model.specs.Walk.{seek}
use Rattle.walk_search.specs.Limited.{Seeks}
use Rattle.walk_state.specs.State.{InPlay}
use Rattle.walk_search.specs.declared.Spent.{Spent}
use Rattle.walk_tally.specs.Tally.{left_in, halved_in}
use Rattle.walk_seek.specs.declared.Left.{Left}

-- One run searched, with the tally before it and after it, and the weight then in play. Where the probes run out all that were left are made, the doubling probes
-- first.
abbrev pub SearchedRun : List ℕ → List ℕ → List ℕ → List ℕ → ℕ → ℕ → ℕ → List ℕ → Result Left Spent → Type 0
SearchedRun numbers ends weights positions run v tally positions' (Ok r) =
    let p = get_or positions run 0 in
    let e = get_or ends run 0 in
    let f = seek v (slice numbers p e) in
    (left_in r.tally + (f.doublings + f.halvings) ≡ left_in tally) × (halved_in r.tally ≡ halved_in tally + f.halvings)
    × (positions' ≡ set positions run (p + f.place)) × (p + f.place ≤ e) × InPlay numbers ends weights positions' r.weight
SearchedRun numbers ends weights positions run v tally positions' (Err e) =
    Seeks tally (seek v (slice numbers (get_or positions run 0) (get_or ends run 0))) (Err e)
