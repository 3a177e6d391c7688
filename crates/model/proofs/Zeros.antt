-- Zeros at the start of a run, however many, are passed over, and the rising check starts after them. Assumes nothing.
use Prim.Native.Nat.{ℕ, zero, suc, ◌+◌, ◌≤◌, ◌<◌}
use lib.ListN.{length, get_or, replicate}
use mathlib.Core.List.{List, [], ◌∷◌, ◌++◌}
use mathlib.Core.Path.{◌≡◌, refl, ap, ◌∙◌}
use native.Mathlib.Omega.{arith}
use Rattle.model.specs.Runs.{first_bin, from, rank, unrisen_after, unrisen, unrisen_run}
use Rattle.model.proofs.From.{from_pass, from_stop, rank_pass, rank_stop, rank_on}
use Rattle.model.proofs.Ordered.{place_high}

pub first_is : first_bin ≡ 1
unfolding first_bin
first_is = refl

-- A bin stands after all of them, and a 0 at the place up to which there are zeros is one of them.
pub bin_after : (s : List ℕ) (i : ℕ) → 1 ≤ get_or s i 0 → rank first_bin s ≤ i
bin_after s i h = let f = first_is in place_high first_bin s i (omega arith)

pub zero_among : (s : List ℕ) (i : ℕ) → i ≤ rank first_bin s → i < length s → get_or s i 0 < 1 → i < rank first_bin s
zero_among s i h l b = let f = first_is in rank_on first_bin s i h l (omega arith)

-- A number that is no bin is not compared, and counts in the places of those after it. The rising check starts at the first bin.
pub zero_unchecked : (i x : ℕ) (s : List ℕ) → x < first_bin → unrisen_run i (x ∷ s) ≡ unrisen_run (suc i) s
unfolding unrisen_run
zero_unchecked i x s h =
    let e : i + rank first_bin (x ∷ s) ≡ suc i + rank first_bin s = (let r = rank_pass first_bin x s h in omega arith) in
    λ d. unrisen (e d) (from_pass first_bin x s h d)

pub bin_checked : (i x : ℕ) (s : List ℕ) → first_bin ≤ x → unrisen_run i (x ∷ s) ≡ unrisen_after i x s
unfolding unrisen_run unrisen
bin_checked i x s h =
    let e : i + rank first_bin (x ∷ s) ≡ i = (let r = rank_stop first_bin x s h in omega arith) in
    λ d. unrisen (e d) (from_stop first_bin x s h d)

-- However many zeros there are, they are passed over, and the run is that without them.
pub zeros_passed : (z : ℕ) (s : List ℕ) → from first_bin (replicate z 0 ++ s) ≡ from first_bin s
zeros_passed zero s = refl
zeros_passed (suc z) s = let f = first_is in from_pass first_bin 0 (replicate z 0 ++ s) (omega arith) ∙ zeros_passed z s

-- They are not compared, and each of them counts in the place of a number that does not rise.
pub zeros_unchecked : (z i : ℕ) (s : List ℕ) → unrisen_run i (replicate z 0 ++ s) ≡ unrisen_run (i + z) s
zeros_unchecked zero i s = let e : i ≡ i + 0 = omega arith in ap (λ j. unrisen_run j s) e
zeros_unchecked (suc z) i s =
    let f = first_is in
    let e : suc i + z ≡ i + suc z = omega arith in
    zero_unchecked i 0 (replicate z 0 ++ s) (omega arith) ∙ (zeros_unchecked z (suc i) s ∙ ap (λ j. unrisen_run j s) e)

-- No other number is passed over, and the rising check starts at the first of them.
pub others_kept : (x : ℕ) (s : List ℕ) → 0 < x → from first_bin (x ∷ s) ≡ x ∷ s
others_kept x s h = let f = first_is in from_stop first_bin x s (omega arith)

pub others_checked : (i x : ℕ) (s : List ℕ) → 0 < x → unrisen_run i (x ∷ s) ≡ unrisen_after i x s
others_checked i x s h = let f = first_is in bin_checked i x s (omega arith)
