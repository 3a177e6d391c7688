-- docs/SPECIFICATION.md, 'Weights': where every run weighs 1, what is said of weights is what is said of numbers of runs where none are given. Definitions only.
use Rattle.std.specs.Prelude.{ℕ, suc, ◌+◌, ◌-◌, ◌≤◌, ◌<◌, Bool, not, ◌↔◌, ◌≡◌, leb, length, get_or}
use mathlib.Core.List.{List, [], ◌∷◌, Memᴰ}
use Rattle.std.specs.Int.Count.{ones}
use Rattle.model.specs.Certificate.{NamesOnly}
use Rattle.model.specs.Rows.{Ordered}
use Rattle.model.specs.Runs.{Run, past_bin, total, one, weight_of, weight_of_all, names}
use Rattle.model.specs.Walk.{head, enough_head}

-- the number of runs that pass a test
unfoldable pub count : (Run → Bool) → List Run → ℕ
count p rs = total (λ r. one (p r)) rs

-- how many numbers are not above h
unfoldable pub not_above : ℕ → List ℕ → ℕ
not_above h [] = 0
not_above h (x ∷ s) = one (leb x h) + not_above h s

-- What runs weigh is how many they are. A gap names at least k − t + 1 runs exactly where the runs that it does not name weigh less than t, and an answer names
-- at least t runs exactly where they weigh as much. The least head such that the runs whose heads do not exceed it weigh enough is the t-th smallest: in any list
-- of the heads in rising order it stands at place t − 1.
pub record Counted (rs : List Run) : Type 0 where
  pub weigh : (p : Run → Bool) → weight_of p rs ≡ count p rs
  pub all : weight_of_all rs ≡ length rs
  pub gap : (t m : ℕ) → 0 < t → t ≤ length rs → NamesOnly m rs → (weight_of (λ r. not (names m r)) rs < t) ↔ (length rs - t + 1 ≤ ones m)
  pub answer : (t m : ℕ) → NamesOnly m rs → (t ≤ weight_of (names m) rs) ↔ (t ≤ ones m)
  pub tth : ((r : Run) → Memᴰ r rs → head r ≤ past_bin) → (t : ℕ) (hs : List ℕ) → t < length rs → Ordered 0 hs → length hs ≡ length rs
      → ((h : ℕ) → not_above h hs ≡ count (λ r. leb (head r) h) rs) → get_or hs t 0 ≡ enough_head (suc t) rs
