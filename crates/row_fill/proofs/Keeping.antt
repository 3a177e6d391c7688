-- Numbers written into a row, one after another: what is written and what is still due; the next one written, nothing more due, and one more due in a full
-- row. Assumes nothing.
use Prim.Native.Nat.{ℕ, suc, ◌+◌, ◌-◌, ◌≤◌, ◌<◌}
use lib.ListN.{length, take, drop, set, length-append, length-drop, length-set, take-append-drop}
use lib.Seq.{length-take-le, take-length, take_all, drop-length, take-append_seam, drop-append_seam, take-append-le, take-suc-set, drop-set-lt, drop-drop, append_snoc}
use mathlib.Core.List.{List, [], ◌∷◌, ◌++◌, append_assoc, append-nil}
use mathlib.Core.Path.{◌≡◌, refl, sym, ap, ap₂, subst, ◌∙◌}
use native.Mathlib.Omega.{arith}
use Rattle.model.specs.Refusals.{over}
use Rattle.row_fill.specs.Keeps.{Keeps}
use Rattle.std.specs.Prelude.{Result, Ok, Err}
use Rattle.refusal.specs.declared.Reason.{Reason}
use Rattle.refusal.specs.declared.Reason.TheVariants.{AnswersFull}

-- Of what was found, so many are written at the row's front; the rest is due, and the row is as it was from there on.
pub record Keeping (found row now : List ℕ) (count : ℕ) (rest : List ℕ) : Type 0 where
  pub split : found ≡ take count now ++ rest
  pub after : drop count now ≡ drop count row
  pub same : length now ≡ length row
  pub within : count ≤ length row

pub keeping_start : (row : List ℕ) (count : ℕ) (rest : List ℕ) → count ≤ length row → Keeping (take count row ++ rest) row row count rest
keeping_start row count rest h = record { split = refl; after = refl; same = refl; within = h }

-- what is the same from a place on is so from a later one on
later : (l m : List ℕ) (a b : ℕ) → a ≤ b → drop a l ≡ drop a m → drop b l ≡ drop b m
later l m a b h e =
    let i : a + (b - a) ≡ b = omega arith in
    rw (← i, ← (drop-drop (b - a) a l), ← (drop-drop (b - a) a m), e)

module _ {found row now : List ℕ} {count : ℕ} where
  pub keeping_end : Keeping found row now count [] → Keeps found row now (Ok count)
  unfolding over
  keeping_end k =
      let s = k.same in
      let w = k.within in
      let e : found ≡ take count now = k.split ∙ append-nil (take count now) in
      let n : length found ≡ count = ap length e ∙ length-take-le count now (omega arith) in
      let h : length found ≤ length row = omega arith in
      (sym n, h, sym (take-append-drop count now) ∙ (ap₂ (λ a b. a ++ b) (sym e) (k.after ∙ ap (λ i. drop i row) (sym n))))

  pub keeping_full : {x : ℕ} {rest : List ℕ} → Keeping found row now count (x ∷ rest) → count ≡ length row → Keeps found row now (Err AnswersFull)
  keeping_full {x} {rest} k e =
      let s = k.same in
      let t : take count now ≡ now = ap (λ i. take i now) (e ∙ sym s) ∙ take-length now in
      let f : found ≡ now ++ x ∷ rest = k.split ∙ ap (λ l. l ++ x ∷ rest) t in
      let n = ap length f ∙ length-append now (x ∷ rest) in
      let h : length row < length found = omega arith in
      (refl, h, sym (ap₂ (λ i l. take i l) (sym s) f ∙ take-append_seam now (x ∷ rest)))

  pub keeping_put : {x : ℕ} {rest : List ℕ} → Keeping found row now count (x ∷ rest) → count < length row → Keeping found row (set now count x) (suc count) rest
  keeping_put {x} {rest} k h =
      let s = k.same in
      let i : count < length now = omega arith in
      record {
        split = k.split ∙ sym (ap (λ l. l ++ rest) (take-suc-set now count x i) ∙ append_snoc (take count now) x rest);
        after = drop-set-lt (suc count) now count x (omega arith) ∙ later now row count (suc count) (omega arith) k.after;
        same = length-set now count x ∙ s;
        within = h;
      }

  -- some more are written after these: all of them, or one more of them was due in a full row
  pub keeping_on : (xs rest next : List ℕ) {n : ℕ} → Keeping found row now count (xs ++ rest) → Keeps (take count now ++ xs) now next (Ok n)
      → Keeping found row next n rest
  unfolding over
  keeping_on xs rest next {n} k g =
      let s = k.same in
      let w = k.within in
      let m = take count now ++ xs in
      let l = length-append (take count now) xs in
      let t = length-take-le count now (omega arith) in
      let e : next ≡ m ++ drop n now = g.2 ∙ ap (λ i. m ++ drop i now) (sym g.0) in
      let a : take n next ≡ m = ap₂ (λ i j. take i j) g.0 e ∙ take-append_seam m (drop n now) in
      let b : drop n next ≡ drop n now = ap₂ (λ i j. drop i j) g.0 e ∙ drop-append_seam m (drop n now) in
      let c = length-append m (drop n now) in
      let d = length-drop n now in
      let h = g.0 in
      let i = g.1 in
      record {
        split = k.split ∙ (sym (append_assoc (take count now) xs rest) ∙ ap (λ j. j ++ rest) (sym a));
        after = b ∙ later now row count n (omega arith) k.after;
        same = ap length e ∙ (c ∙ omega arith);
        within = omega arith;
      }

  pub keeping_cut : (xs rest next : List ℕ) {r : Reason} → Keeping found row now count (xs ++ rest) → Keeps (take count now ++ xs) now next (Err r)
      → Keeps found row next (Err r)
  keeping_cut xs rest next k g =
      let s = k.same in
      let m = take count now ++ xs in
      let e : found ≡ m ++ rest = k.split ∙ sym (append_assoc (take count now) xs rest) in
      let n = ap length e ∙ length-append m rest in
      let i = g.1 in
      let h : length row < length found = omega arith in
      (g.0, h, g.2 ∙ sym (ap₂ (λ a b. take a b) (sym s) e ∙ take-append-le (length now) m rest (omega arith)))

-- where nothing else is due, what comes of these is what comes of all
pub keeping_last : {found row now xs : List ℕ} {count : ℕ} (next : List ℕ) (r : Result ℕ Reason) → Keeping found row now count xs → Keeps (take count now ++ xs) now next r
    → Keeps found row next r
keeping_last {found} {row} {now} {xs} {count} next (Ok n) k g =
    keeping_end (keeping_on xs [] next (subst (λ l. Keeping found row now count l) (sym (append-nil xs)) k) g)
keeping_last {found} {row} {now} {xs} {count} next (Err r) k g =
    keeping_cut xs [] next (subst (λ l. Keeping found row now count l) (sym (append-nil xs)) k) g

-- the row keeps its length
pub keeps_length : (found row next : List ℕ) (r : Result ℕ Reason) → Keeps found row next r → length next ≡ length row
unfolding over
keeps_length found row next (Ok n) k =
    let h = k.1 in
    ap length k.2 ∙ (length-append found (drop (length found) row) ∙ (let d = length-drop (length found) row in omega arith))
keeps_length found row next (Err r) k = let h = k.1 in ap length k.2 ∙ length-take-le (length row) found (omega arith)

-- what then stands in it, all of them or as many as fit
pub keeps_row : (found row next : List ℕ) (r : Result ℕ Reason) → Keeps found row next r → next ≡ over (take (length row) found) row
unfolding over
keeps_row found row next (Ok n) k = k.2 ∙ ap (λ l. over l row) (sym (take_all (length row) found k.1))
keeps_row found row next (Err r) k =
    let h = k.1 in
    let l = length-take-le (length row) found (omega arith) in
    let t = take (length row) found in
    k.2 ∙ sym (ap (λ i. t ++ drop i row) l ∙ (ap (λ e. t ++ e) (drop-length row) ∙ append-nil t))
