-- The state of a walk as the code holds it: a row of positions, and a row of keys in rising order, one for each run that has a head. Definitions only.
use Rattle.std.specs.Prelude.{ℕ, suc, ◌+◌, ◌-◌, ◌*◌, ◌^◌, ◌≤◌, ◌<◌, true, false, ◌≡◌, ltb, length, get_or, drop}
use mathlib.Core.List.{List, [], ◌∷◌, Memᴰ}
use Rattle.model.specs.Rows.{Ordered}
use Rattle.model.specs.Runs.{Run, slice, past_bin, weighted, total, weight_of, names, chosen}
use Rattle.model.specs.Walk.{head, weight_in_play}
use Rattle.walk_keys.specs.Row.{insert_key, sum_of}

-- the runs from label i on, each at its position
unfoldable pub runs_at : ℕ → List ℕ → List ℕ → List ℕ → List Run
runs_at i numbers [] ends = []
runs_at i numbers (p ∷ positions) [] = []
runs_at i numbers (p ∷ positions) (e ∷ ends) =
    record { label = i; weight = 1; bins = slice numbers p e } ∷ runs_at (suc i) numbers positions ends

-- the run where there is none
abbrev pub no_run : Run
no_run = record { label = 0; weight = 1; bins = [] }

-- a run's key, and what a sum over keys adds for it: nothing where the run has no head
unfoldable pub key_of : Run → ℕ
key_of r = head r * 256 + r.label

unfoldable pub keyed : (ℕ → ℕ) → Run → ℕ
keyed g r = elim (ltb (head r) past_bin) [ true ↦ g (key_of r) | false ↦ 0 ]

-- the row of keys with the key of a run that has this head put in
unfoldable pub put_head : ℕ → ℕ → List ℕ → List ℕ
put_head h i row = elim (ltb h past_bin) [ true ↦ insert_key (h * 256 + i) row | false ↦ row ]

-- The row is a rearrangement of the keys of the runs that have a head, in rising order: every sum over it is the sum over those runs.
pub record InOrder (rs : List Run) (row : List ℕ) : Type 0 where
  pub ordered : Ordered 0 row
  pub same : (g : ℕ → ℕ) → sum_of g row ≡ total (keyed g) rs

-- every position lies in its run, and every run in the numbers
pub record Inside (numbers positions ends : List ℕ) : Type 0 where
  pub lengths : length positions ≡ length ends
  pub before : (i : ℕ) → i < length ends → get_or positions i 0 ≤ get_or ends i 0
  pub within : (i : ℕ) → i < length ends → get_or ends i 0 ≤ length numbers

-- a sum over the runs that a mask does not name
unfoldable pub not_named : ℕ → (Run → ℕ) → Run → ℕ
not_named rest c r = elim (names rest r) [ true ↦ 0 | false ↦ c r ]

-- the rows of positions and keys hold these runs
pub record Holds (numbers ends positions keys : List ℕ) (start : ℕ) (rs : List Run) : Type 0 where
  pub inside : Inside numbers positions ends
  pub size : length keys ≡ length ends
  pub starts : start ≤ length keys
  pub runs_are_law : runs_at 0 numbers positions ends ≡ rs
  pub order : InOrder rs (drop start keys)

-- the same, where the keys of the runs that a mask names have been taken out of the row
pub record Lacks (numbers ends positions keys : List ℕ) (start : ℕ) (rs : List Run) (named : ℕ) : Type 0 where
  pub inside : Inside numbers positions ends
  pub size : length keys ≡ length ends
  pub starts : start ≤ length keys
  pub runs_are_law : runs_at 0 numbers positions ends ≡ rs
  pub ordered : Ordered 0 (drop start keys)
  pub same : (g : ℕ → ℕ) → sum_of g (drop start keys) ≡ total (not_named named (keyed g)) rs
  pub only : named < 2 ^ length ends

-- no run has a number left but those that a mask chooses
pub record Idle (chosen : ℕ) (rs : List Run) : Type 0 where
  pub each : (r : Run) → Memᴰ r rs → names chosen r ≡ false → r.bins ≡ []

-- the runs that a mask chooses, each at its position and with its weight
abbrev pub chosen_at : List ℕ → ℕ → List ℕ → List ℕ → List ℕ → List Run
chosen_at weights m numbers positions ends = weighted weights (chosen m (runs_at 0 numbers positions ends))

-- a weight is the one still in play, with the runs at these positions; there is a weight for each run, or none and each weighs 1
pub record InPlay (numbers ends weights positions : List ℕ) (weight : ℕ) : Type 0 where
  pub row : 0 < length weights → length weights ≡ length ends
  pub sum : weight ≡ weight_in_play (weighted weights (runs_at 0 numbers positions ends))

-- what a run that was moved to a place no longer adds to it: its weight, where it has no number left there
unfoldable pub lost_at : List ℕ → ℕ → ℕ → ℕ → ℕ
lost_at weights run place end = elim (ltb place end) [ true ↦ 0 | false ↦ get_or weights run 1 ]

-- the weight in play if each run that a mask names had a head
unfoldable pub weight_if_heads : ℕ → List Run → ℕ
weight_if_heads named rs = weight_of (λ r. elim (names named r) [ true ↦ true | false ↦ ltb (head r) past_bin ]) rs
