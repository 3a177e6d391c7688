-- The runs whose cursor's bin is not above a bin, and the runs that a part takes up. Assumes nothing.
use Prim.Native.Nat.{ℕ, zero, suc, ◌+◌, ◌-◌, ◌*◌, ◌/◌, ◌^◌, ◌≤◌, ◌<◌}
use borrow.Author.Tests.{leb-false, le-leb, lt-leb, le-ltb, lt-ltb}
use lib.Dec.{leb, ltb}
use lib.ListN.{length, get_or, drop, length-drop, drop_of_length-le}
use lib.Pow.{pow_mono}
use lib.Seq.{drop-cons}
use mathlib.Core.Bool.{Bool, true, false}
use mathlib.Core.List.{List, [], ◌∷◌, reverse}
use mathlib.Core.Logic.{⊎_elim}
use mathlib.Core.Path.{◌≡◌, refl, sym, ap, ◌∙◌}
use native.Mathlib.Nat.{pow-suc}
use native.Mathlib.Omega.{arith}
use Rattle.model.proofs.Masks.{bit_small, bit_zero, bit_half, bit_of_and}
use Rattle.model.proofs.Tests.{both, lt_or_le}
use Rattle.model.specs.Runs.{bit, one}
use Rattle.std.proofs.lemmas.List.{length-reverse, get_or-reverse, get_or_default}
use Rattle.std.specs.Int.{from_bool}
use Rattle.check_cursor.specs.Cursors.{cursor_places, bin_of}
use Rattle.check_scan.specs.Scan.{reached_of, to_scan}

-- a cursor's bin is not above l where the cursor is below the first one whose bin is
bin_below : (c l m : ℕ) → m ≡ (l + 1) * cursor_places → from_bool (ltb c m) ≡ one (leb (bin_of c) l)
unfolding bin_of one
bin_below c l m e =
    ⊎_elim
    (λ (h : c < m). rw (lt-ltb c m h, le-leb (c / cursor_places) l (omega arith)))
    (λ (h : m ≤ c). rw (le-ltb c m h, lt-leb (c / cursor_places) l (omega arith)))
    (lt_or_le c m)

-- ---- the runs reached

one_small : (b : Bool) (x : ℕ) → x ≡ one b → x < 2
unfolding one
one_small true x e = omega arith
one_small false x e = omega arith

reached_none : (l : ℕ) → reached_of l [] ≡ 0
unfolding reached_of
reached_none l = refl

reached_cons : (l c : ℕ) (s : List ℕ) → reached_of l (c ∷ s) ≡ reached_of l s * 2 + one (leb (bin_of c) l)
unfolding reached_of
reached_cons l c s = refl

reached_lt : (l : ℕ) (s : List ℕ) → reached_of l s < 2 ^ length s
reached_lt l [] = rw (reached_none l) (omega arith)
reached_lt l (c ∷ s) =
    let h = reached_lt l s in
    let o = one_small (leb (bin_of c) l) _ refl in
    let d : 2 ^ length (c ∷ s) ≡ 2 ^ length s * 2 = pow-suc 2 (length s) in
    rw (reached_cons l c s) (omega arith)

reached_end : (l : ℕ) (s : List ℕ) → 0 ≡ reached_of l (drop (length s) s)
reached_end l s = sym (ap (reached_of l) (drop_of_length-le s {i = length s} (omega arith)) ∙ reached_none l)

pub reached_start : (l : ℕ) (s : List ℕ) → 0 ≡ reached_of l (drop (length s - 0) s)
reached_start l s = let n : length s - 0 ≡ length s = omega arith in rw n (reached_end l s)

-- one cursor more, from the last to the first: n are compared already, and the next is c
module _ (l : ℕ) (s : List ℕ) (n m c : ℕ) (e : m ≡ reached_of l (drop (length s - n) s)) (h : (n < length (reverse s)) × (c ≡ get_or (reverse s) n c)) where
  below : n < length s
  below = let k = length-reverse s in omega (arith, h.0)

  -- the mask can be doubled
  pub reached_fits : length s ≤ 64 → m < 2 ^ 63
  reached_fits k =
      let b = below in
      let r = reached_lt l (drop (length s - n) s) in
      let d = length-drop (length s - n) s in
      let p = pow_mono {i = length (drop (length s - n) s)} {j = 63} (omega arith) in
      omega arith

  pub reached_on : (limit x n' : ℕ) → limit ≡ l + 1 → x ≡ from_bool (ltb c (limit * cursor_places)) → n' ≡ n + 1
      → m * 2 + x ≡ reached_of l (drop (length s - n') s)
  reached_on limit x n' q f g =
      let b = below in
      let i = length s - n' in
      let a : suc i ≡ length s - n = omega arith in
      let w : length s - 1 - n ≡ i = omega arith in
      let v : c ≡ get_or s i 0 = h.1 ∙ (get_or-reverse s n c b ∙ (ap (λ y. get_or s y c) w ∙ get_or_default s i c 0 (omega arith))) in
      let d = drop-cons s i 0 (omega arith) in
      let z = ap (λ y. reached_of l (drop y s)) a in
      let o = ap (reached_of l) d ∙ reached_cons l (get_or s i 0) (drop (suc i) s) in
      let u = f ∙ (bin_below c l (limit * cursor_places) (ap (λ y. y * cursor_places) q) ∙ ap (λ y. one (leb (bin_of y) l)) v) in
      omega arith

pub reached_bit : (l : ℕ) (s : List ℕ) (i : ℕ) → i < length s → bit (reached_of l s) i ≡ one (leb (bin_of (get_or s i 0)) l)
reached_bit l [] i h = absurd (omega arith)
reached_bit l (c ∷ s) zero h =
    let o = one_small (leb (bin_of c) l) _ refl in
    let e = reached_cons l c s in
    bit_zero (reached_of l (c ∷ s)) ∙ omega arith
reached_bit l (c ∷ s) (suc i) h =
    let o = one_small (leb (bin_of c) l) _ refl in
    let e = reached_cons l c s in
    let d : reached_of l (c ∷ s) / 2 ≡ reached_of l s = omega arith in
    bit_half (reached_of l (c ∷ s)) i ∙ (ap (λ x. bit x i) d ∙ reached_bit l s i (omega arith))

-- ---- the runs to take up

-- a run that is taken up is named
pub to_scan_named : (held : Bool) (l m : ℕ) (s : List ℕ) (i : ℕ) → bit (to_scan held l m s) i ≡ 1 → bit m i ≡ 1
unfolding to_scan
to_scan_named true l m s i e = e
to_scan_named false l m s i e =
    let a = bit_of_and m (reached_of l s) i in
    let b = bit_small m i in
    omega arith

unreached : (x y : ℕ) → one (leb x y) ≡ 0 → y < x
unfolding one
unreached x y e =
    ⊎_elim
    (λ (t : leb x y ≡ true). let q : 1 ≡ 0 = sym (ap one t) ∙ e in absurd (omega arith))
    (λ (t : leb x y ≡ false). leb-false x y t)
    (both (leb x y))

-- a named run that is not taken up
pub to_scan_not : (held : Bool) (l m : ℕ) (s : List ℕ) (i : ℕ) → i < length s → bit (to_scan held l m s) i ≡ 0 → bit m i ≡ 1
    → (held ≡ false) × (l < bin_of (get_or s i 0))
unfolding to_scan
to_scan_not true l m s i h e n = absurd (omega arith)
to_scan_not false l m s i h e n =
    let a = bit_of_and m (reached_of l s) i in
    let b : bit (reached_of l s) i ≡ 0 = omega arith in
    (refl, unreached (bin_of (get_or s i 0)) l (sym (reached_bit l s i h) ∙ b))
