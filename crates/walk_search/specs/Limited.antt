-- A search with a tally of probes: the defined one where those left are enough, and otherwise as many probes of it as are left. Definitions only.
use Rattle.std.specs.Prelude.{ℕ, ◌+◌, ◌-◌, ◌<◌, ◌≡◌, Result, Ok, Err}
use Rattle.model.specs.Walk as model
use Rattle.walk_tally.specs.Tally.{left_in, halved_in}
use Rattle.walk_search.specs.declared.Bracket.{Bracket}
use Rattle.walk_search.specs.declared.Found.{Found}
use Rattle.walk_search.specs.declared.Spent.{Spent}

-- a doubling, each probe of which is a doubling probe
abbrev pub Doubles : ℕ → model.Bracket → Result Bracket Spent → Type 0
Doubles tally b (Ok r) =
    (r.lo ≡ b.lo) × (r.hi ≡ b.hi) × (left_in r.tally + b.probes ≡ left_in tally) × (halved_in r.tally ≡ halved_in tally)
Doubles tally b (Err e) = (left_in tally < b.probes) × (left_in e.0 ≡ 0) × (halved_in e.0 ≡ halved_in tally)

-- a halving, each probe of which is a halving probe
abbrev pub Halves : ℕ → model.Halving → Result Found Spent → Type 0
Halves tally h (Ok r) = (r.place ≡ h.place) × (left_in r.tally + h.probes ≡ left_in tally) × (halved_in r.tally ≡ halved_in tally + h.probes)
Halves tally h (Err e) = (left_in tally < h.probes) × (left_in e.0 ≡ 0) × (halved_in e.0 ≡ halved_in tally + left_in tally)

-- a search: where the probes run out, the doubling probes are made first
abbrev pub Seeks : ℕ → model.Search → Result Found Spent → Type 0
Seeks tally f (Ok r) =
    (r.place ≡ f.place) × (left_in r.tally + (f.doublings + f.halvings) ≡ left_in tally) × (halved_in r.tally ≡ halved_in tally + f.halvings)
Seeks tally f (Err e) =
    (left_in tally < f.doublings + f.halvings) × (left_in e.0 ≡ 0) × (halved_in e.0 ≡ halved_in tally + (left_in tally - f.doublings))
