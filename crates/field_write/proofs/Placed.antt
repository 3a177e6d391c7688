-- Bytes placed in a buffer: what a row of stores leaves; the length stays; bytes placed after bytes. Assumes nothing.
use Prim.Native.Nat.{ℕ, suc, ◌+◌, ◌≤◌}
use lib.ListN.{length, set, length-append}
use lib.Seq.{sets, sets-eq, length-sets}
use mathlib.Core.List.{List, [], ◌∷◌, ◌++◌}
use mathlib.Core.Path.{◌≡◌}
use native.Mathlib.Nat.{add-zero}
use native.Mathlib.Omega.{arith}
use Rattle.field_write.specs.Stored.{placed}

pub placed_sets : (vs l : List ℕ) (at : ℕ) → at + length vs ≤ length l → sets l at vs ≡ placed l at vs
unfolding placed
placed_sets = sets-eq

pub placed_length : (vs l : List ℕ) (at : ℕ) → at + length vs ≤ length l → length (placed l at vs) ≡ length l
placed_length vs l at h = rw (← placed_sets vs l at h) (length-sets l at vs)

sets_append : (xs ys l : List ℕ) (at : ℕ) → sets (sets l at xs) (at + length xs) ys ≡ sets l at (xs ++ ys)
sets_append [] ys l at = rw add-zero
sets_append (x ∷ xs) ys l at =
    let e : at + suc (length xs) ≡ suc at + length xs = omega arith in rw e (sets_append xs ys (set l at x) (suc at))

-- bytes placed right after bytes that were placed
pub placed_then : (l : List ℕ) {l₁ l₂ : List ℕ} (xs ys : List ℕ) (at next : ℕ) → l₁ ≡ placed l at xs → l₂ ≡ placed l₁ next ys
    → at + length xs ≡ next → next + length ys ≤ length l → l₂ ≡ placed l at (xs ++ ys)
placed_then l {l₁} {l₂} xs ys at next p q e h =
    let n = length-append xs ys in
    let i : at + length xs ≤ length l = omega arith in
    let m = placed_length xs l at i in
    rw (q, p)
    (rw (← placed_sets ys (placed l at xs) next (omega arith), ← placed_sets xs l at i, ← placed_sets (xs ++ ys) l at (omega arith), ← e)
    (sets_append xs ys l at))
