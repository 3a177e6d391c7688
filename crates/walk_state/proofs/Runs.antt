-- Where one run stands, by the rows of positions and ends. Assumes nothing.
use Prim.Native.Nat.{ℕ, ◌≤◌, ◌<◌}
use lib.ListN.{length, get_or}
use mathlib.Core.List.{List}
use mathlib.Core.Path.{◌≡◌, ap, ◌∙◌}
use native.Mathlib.Omega.{arith}
use Rattle.walk_state.specs.State.{Inside}

-- ---- one run

-- where a run that can be moved stands
pub record Stands (numbers ends positions : List ℕ) (run p e : ℕ) : Type 0 where
  pub place : p ≡ get_or positions run 0
  pub end : e ≡ get_or ends run 0
  pub order : p ≤ e
  pub inside : e ≤ length numbers

pub stands : (numbers ends positions : List ℕ) (run i p e : ℕ) → run < length ends → Inside numbers positions ends → i ≡ run → p ≡ get_or positions i 0
    → e ≡ get_or ends i 0 → Stands numbers ends positions run p e
stands numbers ends positions run i p e index inside f g h =
    let a : p ≡ get_or positions run 0 = g ∙ ap (λ x. get_or positions x 0) f in
    let b : e ≡ get_or ends run 0 = h ∙ ap (λ x. get_or ends x 0) f in
    let o = inside.before run index in
    let w = inside.within run index in
    record { place = a; end = b; order = omega arith; inside = omega arith }
