-- docs/SPECIFICATION.md, 'The lists' and 'Weights': numbers and ends as runs, what runs weigh, and masks over them. Definitions only.
use Rattle.std.specs.Prelude.{ℕ, suc, ◌+◌, ◌-◌, ◌*◌, ◌/◌, ◌%◌, ◌^◌, Bool, true, false, List, [], ◌∷◌, map, get_or, take, drop, ltb, eqb}
use Rattle.std.proofs.Math.Option.{Option, none, some}

-- A bin is a whole number from 1 to 4294967295: the first, the last, and the number after the last. 0 is no bin: it is the unmapped mark, which simulators
-- write for a hit that they could not map.
unfoldable pub first_bin : ℕ
first_bin = 1

unfoldable pub last_bin : ℕ
last_bin = 4294967295

unfoldable pub past_bin : ℕ
past_bin = 4294967296

-- There are at most 64 runs, and at most 1,048,576 numbers in all of them.
abbrev pub most_runs : ℕ
most_runs = 64

abbrev pub most_numbers : ℕ
most_numbers = 1048576

-- A run is one rising list. The label is its number; the weight is what it counts for; the bins are its numbers after any zeros at its start and, where a walk
-- has moved on, those from the run's position on.
pub record Run : Type 0 where
  pub label : ℕ
  pub weight : ℕ
  pub bins : List ℕ

-- the numbers from a place on and before another
abbrev pub slice : List ℕ → ℕ → ℕ → List ℕ
slice numbers start end = take (end - start) (drop start numbers)

-- the numbers of a list from v on: those at its start that are below v are passed over
unfoldable pub from : ℕ → List ℕ → List ℕ
from v [] = []
from v (x ∷ s) = elim (ltb x v) [ true ↦ from v s | false ↦ x ∷ s ]

-- how many are passed over; Barbay and Kenyon's insertion rank less one
unfoldable pub rank : ℕ → List ℕ → ℕ
rank v [] = 0
rank v (x ∷ s) = elim (ltb x v) [ true ↦ suc (rank v s) | false ↦ 0 ]

-- Run 0 starts at place 0, and run i starts at the end of run i − 1. Any number of zeros at the start of a run is passed over. Where no weights are given, a run
-- weighs 1. (Here: the runs from label i on, the first of them from place a on.)
unfoldable pub runs_from : ℕ → ℕ → List ℕ → List ℕ → List Run
runs_from i a numbers [] = []
runs_from i a numbers (e ∷ ends) =
    record { label = i; weight = 1; bins = from first_bin (slice numbers a e) } ∷ runs_from (suc i) e numbers ends

unfoldable pub runs : List ℕ → List ℕ → List Run
runs numbers ends = runs_from 0 0 numbers ends

-- Inside a run each number is greater than the one before. Where one is not: the place of the first such, x being at place i.
unfoldable pub unrisen_after : ℕ → ℕ → List ℕ → Option ℕ
unrisen_after i x [] = none
unrisen_after i x (y ∷ s) = elim (ltb x y) [ true ↦ unrisen_after (suc i) y s | false ↦ some (suc i) ]

unfoldable pub unrisen : ℕ → List ℕ → Option ℕ
unrisen i [] = none
unrisen i (x ∷ s) = unrisen_after i x s

-- Of a run as it is lent, its first number being at place i, the rising check starts at the first number that is not 0.
unfoldable pub unrisen_run : ℕ → List ℕ → Option ℕ
unrisen_run i s = unrisen (i + rank first_bin s) (from first_bin s)

-- a run holds a bin
unfoldable pub holds : ℕ → List ℕ → Bool
holds x [] = false
holds x (y ∷ s) = elim (eqb x y) [ true ↦ true | false ↦ holds x s ]

-- A weight is a number from 1 to 255. The runs with the weights of a row, one for each run; 1 where the row has none.
abbrev pub most_weight : ℕ
most_weight = 255

unfoldable pub weighted_run : List ℕ → Run → Run
weighted_run weights r = record { label = r.label; weight = get_or weights r.label 1; bins = r.bins }

unfoldable pub weighted : List ℕ → List Run → List Run
weighted weights rs = map (weighted_run weights) rs

-- a sum over the runs
unfoldable pub total : (Run → ℕ) → List Run → ℕ
total g [] = 0
total g (r ∷ rs) = g r + total g rs

unfoldable pub one : Bool → ℕ
one true = 1
one false = 0

-- what the runs that pass a test weigh together, and what all of them do
unfoldable pub weight_of : (Run → Bool) → List Run → ℕ
weight_of p rs = total (λ r. one (p r) * r.weight) rs

unfoldable pub weight_of_all : List Run → ℕ
weight_of_all rs = total (λ r. r.weight) rs

-- A mask is a 64-bit number in which bit i speaks of run i, bit 0 being the lowest.
abbrev pub mask_bits : ℕ
mask_bits = 64

-- the mask that names the runs that pass a test
unfoldable pub mask : (Run → Bool) → List Run → ℕ
mask p rs = total (λ r. one (p r) * 2 ^ r.label) rs

-- and the one that names all of these runs
unfoldable pub mask_of_all : List Run → ℕ
mask_of_all rs = mask (λ r. true) rs

unfoldable pub bit : ℕ → ℕ → ℕ
bit m i = m / 2 ^ i % 2

unfoldable pub names : ℕ → Run → Bool
names m r = eqb (bit m r.label) 1

-- the runs that a mask chooses: those that it names, each with its label
unfoldable pub chosen : ℕ → List Run → List Run
chosen m [] = []
chosen m (r ∷ rs) = elim (names m r) [ true ↦ r ∷ chosen m rs | false ↦ chosen m rs ]
