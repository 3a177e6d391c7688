-- One turn of each loop, as a law about the definition that the loop computes. Assumes nothing.
use Prim.Native.Nat.{ℕ, suc, ◌+◌, ◌-◌, ◌≤◌, ◌<◌}
use borrow.Author.Tests.{lt-ltb, le-ltb}
use lib.ListN.{length, get_or, take, drop, drop_of_length-le}
use lib.Seq.{drop-cons}
use mathlib.Core.List.{List}
use mathlib.Core.Option.{none, some}
use mathlib.Core.Path.{◌≡◌, sym, ap, ◌∙◌}
use native.Mathlib.Numerals.{add-one}
use native.Mathlib.Omega.{arith}
use Rattle.model.specs.Refusals.{falls_from, last_end, unrisen_in}
use Rattle.model.specs.Runs.{slice, unrisen_run}
use Rattle.model.proofs.FirstChecks.{not_fallen, end_last, not_unrisen}

-- ---- the ends

pub falls_at : (b i : ℕ) (ends : List ℕ) → i < length ends → get_or ends i 0 < b → falls_from b i (drop i ends) ≡ some i
unfolding falls_from
falls_at b i ends l h = rw (drop-cons ends i 0 l) (rw (lt-ltb (get_or ends i 0) b h, falls_from))

pub falls_on : (b i : ℕ) (ends : List ℕ) → i < length ends → b ≤ get_or ends i 0
    → falls_from b i (drop i ends) ≡ falls_from (get_or ends i 0) (i + 1) (drop (i + 1) ends)
unfolding falls_from
falls_on b i ends l h = rw (drop-cons ends i 0 l, add-one i) (rw (le-ltb (get_or ends i 0) b h, falls_from))

pub falls_end : (b i : ℕ) (ends : List ℕ) → length ends ≤ i → falls_from b i (drop i ends) ≡ none
unfolding falls_from
falls_end b i ends h = rw (drop_of_length-le ends h)

-- the runs from label i on, the first of them from place a on, where the ends are in order and the last is the length
pub record Ordered (numbers ends : List ℕ) (a i : ℕ) : Type 0 where
  pub rise : falls_from a i (drop i ends) ≡ none
  pub last : last_end a (drop i ends) ≡ length numbers

pub next_end : (numbers ends : List ℕ) (a i : ℕ) → i < length ends → Ordered numbers ends a i → (a ≤ get_or ends i 0) × (get_or ends i 0 ≤ length numbers)
unfolding last_end
next_end numbers ends a i l o =
    let r = rw (drop-cons ends i 0 l) at o.rise in
    let k = (not_fallen a i (get_or ends i 0) (drop (suc i) ends) r).0 in
    let s = falls_on a i ends l k in
    let j = end_last (get_or ends i 0) (i + 1) (drop (i + 1) ends) (sym s ∙ o.rise) in
    let e = rw (drop-cons ends i 0 l) at o.last in
    (k, omega (arith, ap (λ x. last_end (get_or ends i 0) (drop x ends)) (add-one i)))

pub next_ordered : (numbers ends : List ℕ) (a i : ℕ) → i < length ends → Ordered numbers ends a i → Ordered numbers ends (get_or ends i 0) (i + 1)
unfolding last_end
next_ordered numbers ends a i l o =
    let n = next_end numbers ends a i l o in
    record {
      rise = sym (falls_on a i ends l n.0) ∙ o.rise;
      last = rw (add-one i) (rw (drop-cons ends i 0 l) at o.last);
    }

-- where no number is out of order in the runs from i on: in run i none is, nor in the others
pub next_risen : (numbers ends : List ℕ) (a i : ℕ) → i < length ends → unrisen_in a numbers (drop i ends) ≡ none
    → (unrisen_run a (slice numbers a (get_or ends i 0)) ≡ none) × (unrisen_in (get_or ends i 0) numbers (drop (i + 1) ends) ≡ none)
next_risen numbers ends a i l e =
    rw (add-one i) (not_unrisen a (get_or ends i 0) numbers (drop (suc i) ends) (rw (drop-cons ends i 0 l) at e))

-- ---- the runs, one after another

pub runs_at : (numbers ends : List ℕ) (a i p : ℕ) → i < length ends → unrisen_run a (take (get_or ends i 0 - a) (drop a numbers)) ≡ some p
    → unrisen_in a numbers (drop i ends) ≡ some p
unfolding unrisen_in
runs_at numbers ends a i p l e = rw (drop-cons ends i 0 l) (rw (e, unrisen_in))

pub runs_on : (numbers ends : List ℕ) (a i : ℕ) → i < length ends → unrisen_run a (take (get_or ends i 0 - a) (drop a numbers)) ≡ none
    → unrisen_in a numbers (drop i ends) ≡ unrisen_in (get_or ends i 0) numbers (drop (i + 1) ends)
unfolding unrisen_in
runs_on numbers ends a i l e = rw (drop-cons ends i 0 l, add-one i) (rw (e, unrisen_in))

pub runs_end : (numbers ends : List ℕ) (a i : ℕ) → length ends ≤ i → unrisen_in a numbers (drop i ends) ≡ none
unfolding unrisen_in
runs_end numbers ends a i h = rw (drop_of_length-le ends h)
