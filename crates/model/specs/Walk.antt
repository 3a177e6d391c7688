-- docs/SPECIFICATION.md, 'The walk': heads, the search, a round and the walk, as the list of what is done. Definitions only.
use Rattle.std.specs.Prelude.{ℕ, zero, suc, ◌+◌, ◌-◌, ◌*◌, ◌/◌, min, Bool, true, false, List, [], ◌∷◌, ◌++◌, map, length, get_or, drop, replicate, ltb, leb, eqb}
use Rattle.model.specs.Certificate.{Part, answer, gap}
use Rattle.model.specs.Runs.{Run, last_bin, past_bin, weight_of, mask}

-- What a walk does, in order: it begins a search in a run, makes a probe in a run by doubling or by halving, writes a part.
pub data Event : Type 0 where
  sought : (label : ℕ) → Event
  doubled : (label : ℕ) → Event
  halved : (label : ℕ) → Event
  wrote : Part → Event

-- The number at the position is the run's head; a run past its last number has none, which is told here by the number after the last bin.
unfoldable pub head_of : List ℕ → ℕ
head_of [] = past_bin
head_of (x ∷ s) = x

unfoldable pub head : Run → ℕ
head r = head_of r.bins

-- The weight still in play, the customer's term: what the runs that have a head weigh.
abbrev pub weight_in_play : List Run → ℕ
weight_in_play rs = weight_of (λ r. ltb (head r) past_bin) rs

-- The least head such that the runs whose heads do not exceed it weigh at least t. (Where every run weighs 1 this is the t-th smallest head, equal heads each
-- counted.)
unfoldable pub least_head : (ℕ → Bool) → List Run → ℕ
least_head p [] = past_bin
least_head p (r ∷ rs) = elim (p (head r)) [ true ↦ min (head r) (least_head p rs) | false ↦ least_head p rs ]

unfoldable pub enough_head : ℕ → List Run → ℕ
enough_head t rs = least_head (λ h. leb t (weight_of (λ r. leb (head r) h) rs)) rs

-- A search for v, places counted from the run's position: the numbers s begin with the head, which is below v. It probes places 1, 2, 4 and so on
-- by doubling, and stops at the first number that is at least v or at the first place not below n, which is not probed. lo is the last
-- place known to be below v, hi the place that stopped it, or n if that is smaller.
pub record Bracket : Type 0 where
  pub probes : ℕ
  pub lo : ℕ
  pub hi : ℕ

unfoldable pub doubling : ℕ → ℕ → List ℕ → ℕ → ℕ → Bracket
doubling zero v s lo place = record { probes = 0; lo = lo; hi = length s }
doubling (suc fuel) v s lo place =
    elim (ltb place (length s)) [
      | false ↦ record { probes = 0; lo = lo; hi = length s }
      | true ↦
          elim (ltb (get_or s place 0) v) [
            | false ↦ record { probes = 1; lo = lo; hi = place }
            | true ↦ let b = doubling fuel v s place (2 * place) in record { probes = suc b.probes; lo = b.lo; hi = b.hi }
          ]
    ]

-- While hi − lo is more than 1, it probes lo plus half of hi − lo, rounded down; a number below v makes that place lo, otherwise it becomes hi.
-- The new position is hi.
pub record Halving : Type 0 where
  pub probes : ℕ
  pub place : ℕ

unfoldable pub halving : ℕ → ℕ → List ℕ → ℕ → ℕ → Halving
halving zero v s lo hi = record { probes = 0; place = hi }
halving (suc fuel) v s lo hi =
    elim (ltb 1 (hi - lo)) [
      | false ↦ record { probes = 0; place = hi }
      | true ↦
          let m = lo + (hi - lo) / 2 in
          elim (ltb (get_or s m 0) v) [
            | true ↦ let h = halving fuel v s m hi in record { probes = suc h.probes; place = h.place }
            | false ↦ let h = halving fuel v s lo m in record { probes = suc h.probes; place = h.place }
          ]
    ]

-- Either part of a search ends within as many steps as there are numbers.
pub record Search : Type 0 where
  pub doublings : ℕ
  pub halvings : ℕ
  pub place : ℕ

unfoldable pub seek : ℕ → List ℕ → Search
seek v s =
    let b = doubling (length s) v s 0 1 in
    let h = halving (length s) v s b.lo b.hi in
    record { doublings = b.probes; halvings = h.probes; place = h.place }

-- Step 4: search, in rising run number, each run whose head is below v.
unfoldable pub search_in : ℕ → Run → List Event
search_in v r =
    elim (ltb (head r) v) [
      | false ↦ []
      | true ↦
          let f = seek v r.bins in
          sought r.label ∷ (replicate f.doublings (doubled r.label) ++ replicate f.halvings (halved r.label))
    ]

unfoldable pub searches : ℕ → List Run → List Event
searches v [] = []
searches v (r ∷ rs) = search_in v r ++ searches v rs

unfoldable pub searched : ℕ → Run → Run
searched v r =
    elim (ltb (head r) v) [
      | false ↦ r
      | true ↦ record { label = r.label; weight = r.weight; bins = drop (seek v r.bins).place r.bins }
    ]

-- Step 5, if the runs whose heads now equal v weigh at least t: write the answer v, naming all those runs. Move each of them on by one, without a probe, and set
-- the floor to v + 1. If v is 4294967295, end there with no further gap. Step 6, if they weigh less: set the floor to v.
unfoldable pub moved_on : ℕ → Run → Run
moved_on v r =
    elim (eqb (head r) v) [
      | false ↦ r
      | true ↦ record { label = r.label; weight = r.weight; bins = drop 1 r.bins }
    ]

unfoldable pub settle : (ℕ → List Run → List Event) → ℕ → ℕ → List Run → List Event
settle next t v rs =
    elim (leb t (weight_of (λ r. eqb (head r) v) rs)) [
      | true ↦
          wrote (answer v (mask (λ r. eqb (head r) v) rs)) ∷
          elim (eqb v last_bin) [ true ↦ [] | false ↦ next (suc v) (map (moved_on v) rs) ]
      | false ↦ next v rs
    ]

-- One round, with the rounds after it. Step 1: if the weight still in play is less than t, write a gap from the floor to 4294967295, naming the runs without
-- a head, and end. Step 2: otherwise let v be the least head such that the runs whose heads are at most v weigh enough. Step 3: if the floor is below v, write a
-- gap from the floor to v − 1. It names every run whose head is at least v and every run without a head.
unfoldable pub round : (ℕ → List Run → List Event) → ℕ → ℕ → List Run → List Event
round next t floor rs =
    elim (ltb (weight_in_play rs) t) [
      | true ↦ wrote (gap floor last_bin (mask (λ r. leb past_bin (head r)) rs)) ∷ []
      | false ↦
          let v = enough_head t rs in
          elim (ltb floor v) [ true ↦ wrote (gap floor (v - 1) (mask (λ r. leb v (head r)) rs)) ∷ [] | false ↦ [] ] ++
          (searches v rs ++ settle next t v (map (searched v) rs))
    ]

-- So many rounds from a floor on, or fewer where the walk ends.
unfoldable pub walk : ℕ → ℕ → ℕ → List Run → List Event
walk zero t floor rs = []
walk (suc n) t floor rs = round (walk n t) t floor rs
