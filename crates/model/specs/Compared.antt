-- docs/SPECIFICATION.md, 'The promises': the whole walk, its certificate, each run's probes, binary digits, the bound. Definitions only.
use Rattle.std.specs.Prelude.{ℕ, zero, suc, ◌+◌, ◌*◌, ◌^◌, true, false, List, [], ◌∷◌, length, ltb, eqb}
use Rattle.model.specs.Certificate.{Part}
use Rattle.model.specs.Runs.{Run, first_bin, past_bin, total, one}
use Rattle.model.specs.Walk.{Event, sought, doubled, halved, wrote, walk}

-- The whole walk is the walk with an allowance and buffers that never run out. A floor starts at the first bin and no round leaves it where it
-- was, so there are no more rounds than bins.
unfoldable pub whole_walk : ℕ → List Run → List Event
whole_walk t rs = walk past_bin t first_bin rs

-- The parts that a walk writes; the whole certificate is what the whole walk writes.
unfoldable pub parts_of : List Event → List Part
parts_of [] = []
parts_of (sought i ∷ es) = parts_of es
parts_of (doubled i ∷ es) = parts_of es
parts_of (halved i ∷ es) = parts_of es
parts_of (wrote p ∷ es) = p ∷ parts_of es

unfoldable pub whole_certificate : ℕ → List Run → List Part
whole_certificate t rs = parts_of (whole_walk t rs)

-- a sum over what a walk does
unfoldable pub cost : (Event → ℕ) → List Event → ℕ
cost c [] = 0
cost c (e ∷ es) = c e + cost c es

-- A probe is made by doubling or by halving. (1 for a probe of the one kind, of the other, and of either.)
unfoldable pub doubling_probe : Event → ℕ
doubling_probe (sought i) = 0
doubling_probe (doubled i) = 1
doubling_probe (halved i) = 0
doubling_probe (wrote p) = 0

unfoldable pub halving_probe : Event → ℕ
halving_probe (sought i) = 0
halving_probe (doubled i) = 0
halving_probe (halved i) = 1
halving_probe (wrote p) = 0

unfoldable pub probe : Event → ℕ
probe e = doubling_probe e + halving_probe e

unfoldable pub doublings_of : List Event → ℕ
doublings_of es = cost doubling_probe es

unfoldable pub halvings_of : List Event → ℕ
halvings_of es = cost halving_probe es

unfoldable pub probes_of : List Event → ℕ
probes_of es = cost probe es

-- A run's probes are those of the searches in that run, each counted once. (Here: of what is counted, what is done in run i.)
unfoldable pub in_run : ℕ → (Event → ℕ) → Event → ℕ
in_run i c (sought j) = one (eqb i j) * c (sought j)
in_run i c (doubled j) = one (eqb i j) * c (doubled j)
in_run i c (halved j) = one (eqb i j) * c (halved j)
in_run i c (wrote p) = 0

unfoldable pub doublings_in : ℕ → List Event → ℕ
doublings_in i es = cost (in_run i doubling_probe) es

unfoldable pub halvings_in : ℕ → List Event → ℕ
halvings_in i es = cost (in_run i halving_probe) es

unfoldable pub probes_in : ℕ → List Event → ℕ
probes_in i es = cost (in_run i probe) es

-- The binary digits of n are the least b for which n is below 2 to the power b. (n is below 2 to the power n.)
unfoldable pub digits_from : ℕ → ℕ → ℕ → ℕ
digits_from zero b n = b
digits_from (suc fuel) b n = elim (ltb n (2 ^ b)) [ true ↦ b | false ↦ digits_from fuel (suc b) n ]

unfoldable pub digits : ℕ → ℕ
digits n = digits_from n 0 n

-- 2 × d × b for a list of n bins, for one run, and the sum of these bounds over all lists
unfoldable pub bound_of : ℕ → ℕ → ℕ
bound_of d n = 2 * d * digits n

unfoldable pub bound_in : ℕ → Run → ℕ
bound_in d r = bound_of d (length r.bins)

unfoldable pub bound : ℕ → List Run → ℕ
bound d rs = total (bound_in d) rs
