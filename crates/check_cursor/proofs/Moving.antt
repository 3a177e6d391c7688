-- A run scanned from its cursor on, over the numbers below a bin, and its cursor put where the scan stopped. Assumes nothing.
use Prim.Native.Nat.{ℕ, suc, ◌+◌, ◌≤◌, ◌<◌}
use lib.ListN.{length, get_or, set, length-set}
use lib.Seq.{get_or-set_same, get_or-set_other}
use mathlib.Core.List.{List, []}
use mathlib.Core.Logic.{⊎_elim, ◌≢◌}
use mathlib.Core.Path.{◌≡◌, refl, sym, ap, ◌∙◌, subst}
use native.Mathlib.Numerals.{add-one}
use native.Mathlib.Omega.{arith}
use Rattle.model.proofs.From.{rise_from, from_pass, from_stop, from_nil, head_cons, head_nil, head_least, head_bin}
use Rattle.model.proofs.Slices.{part_cons, part_empty}
use Rattle.model.proofs.Tests.{lt_or_le, eq_or_ne}
use Rattle.model.specs.Runs.{past_bin, slice, from}
use Rattle.model.specs.Walk.{head_of}
use Rattle.check_cursor.specs.Cursors.{bins_of, head_in, place_of, bin_of, Cursors}

pub bin_fits : (x : ℕ) → x < 4294967296 → x < past_bin
unfolding past_bin
bin_fits x h = h

-- cursors that serve the bins from a on serve those from a later one on
pub weaken : (numbers ends cursors : List ℕ) (a b : ℕ) → a ≤ b → Cursors numbers ends cursors a → Cursors numbers ends cursors b
weaken numbers ends cursors a b h c =
    record {
      few = c.few;
      short = c.short;
      inside = c.inside;
      risen = c.risen;
      lengths = c.lengths;
      before = c.before;
      same = λ i l v q. c.same i l v (omega arith);
      exact = c.exact;
    }

-- ---- the number at a place

pub number_there : (numbers : List ℕ) (j end : ℕ) → j < end → end ≤ length numbers → get_or numbers j 0 ≡ head_of (slice numbers j end)
number_there numbers j end h l = sym (ap head_of (part_cons j end numbers h l) ∙ head_cons (get_or numbers j 0) (slice numbers (suc j) end))

pub number_past : (numbers : List ℕ) (j end : ℕ) → j ≡ end → 4294967296 ≡ head_of (slice numbers j end)
unfolding past_bin
number_past numbers j end e = sym (ap head_of ((λ s. slice numbers (e s) end) ∙ part_empty end numbers) ∙ head_nil)

-- ---- the scan of a run

-- run i scanned up to place j, where its number is x: nothing from `first` on was passed
pub record Here (numbers ends : List ℕ) (i end first j x : ℕ) : Type 0 where
  pub order : j ≤ end
  pub inside : end ≤ length numbers
  pub ending : end ≡ get_or ends i 0
  pub number : x ≡ head_of (slice numbers j end)
  pub same : (v : ℕ) → first ≤ v → from v (bins_of numbers ends i) ≡ from v (slice numbers j end)

-- the numbers before run i's cursor are below b
abbrev pub Behind : (numbers ends cursors : List ℕ) (i b : ℕ) → Type 0
Behind numbers ends cursors i b = (v : ℕ) → b ≤ v → from v (bins_of numbers ends i) ≡ from v (slice numbers (place_of (get_or cursors i 0)) (get_or ends i 0))

pub here_start : (numbers ends cursors : List ℕ) (i end first j x b : ℕ) → i < length ends → Cursors numbers ends cursors b
    → Behind numbers ends cursors i first → end ≡ get_or ends i 0 → j ≡ place_of (get_or cursors i 0) → x ≡ bin_of (get_or cursors i 0)
    → Here numbers ends i end first j x
here_start numbers ends cursors i end first j x a l c p ee ej ex =
    let b = c.before i l in
    let d = c.inside i l in
    record {
      order = omega arith;
      inside = omega arith;
      ending = ee;
      number = ex ∙ (c.exact i l ∙ (λ s. head_of (slice numbers (sym ej s) (sym ee s))));
      same = λ v h. p v h ∙ (λ s. from v (slice numbers (sym ej s) (sym ee s)));
    }

not_below : (a b : ℕ) → a ≡ 4294967296 → a < b → b ≤ past_bin → ⊥
unfolding past_bin
not_below a b e h k = omega arith

module _ (numbers ends : List ℕ) (i end first j x : ℕ) (h : Here numbers ends i end first j x) where
  pub here_more : x < first → first ≤ past_bin → j < end
  here_more l k =
      ⊎_elim
      (λ (q : j < end). q)
      (λ (q : end ≤ j).
      let o = h.order in
      let w : j ≡ end = omega arith in
      let z : 4294967296 ≡ head_of (slice numbers j end) = number_past numbers j end w in
      absurd (not_below x first (h.number ∙ sym z) l k))
      (lt_or_le j end)

  pub here_on : x < first → first ≤ past_bin → (x' : ℕ) → x' ≡ head_of (slice numbers (j + 1) end) → Here numbers ends i end first (j + 1) x'
  here_on l k x' e =
      let m = here_more l k in
      let n = h.number in
      let y = number_there numbers j end m h.inside in
      record {
        order = omega arith;
        inside = h.inside;
        ending = h.ending;
        number = e;
        same = λ v w.
            h.same v w
            ∙ (ap (from v) (part_cons j end numbers m h.inside)
            ∙ (from_pass v (get_or numbers j 0) (slice numbers (suc j) end) (omega arith)
            ∙ ap (λ z. from v (slice numbers z end)) (sym (add-one j))));
      }

  -- a scan stops at the run's first number from `first` on
  pub here_head : first ≤ x → head_in numbers ends i first ≡ x
  here_head l =
      ⊎_elim
      (λ (q : j < end).
      let n = h.number in
      let y = number_there numbers j end q h.inside in
      ap head_of
      (h.same first (omega arith)
      ∙ (ap (from first) (part_cons j end numbers q h.inside) ∙ from_stop first (get_or numbers j 0) (slice numbers (suc j) end) (omega arith)))
      ∙ (head_cons (get_or numbers j 0) (slice numbers (suc j) end) ∙ omega arith))
      (λ (q : end ≤ j).
      let o = h.order in
      let w : slice numbers j end ≡ [] = let z : j ≡ end = omega arith in (λ s. slice numbers (z s) end) ∙ part_empty end numbers in
      ap head_of (h.same first (omega arith) ∙ (ap (from first) w ∙ from_nil first)) ∙ (sym (ap head_of w) ∙ sym h.number))
      (lt_or_le j end)

-- a run has no number from `first` on below its cursor's bin
pub ahead : (numbers ends cursors : List ℕ) (i first : ℕ) → i < length ends → Cursors numbers ends cursors first → first < past_bin
    → bin_of (get_or cursors i 0) ≤ head_in numbers ends i first
ahead numbers ends cursors i first l c k =
    let w = get_or cursors i 0 in
    ⊎_elim
    (λ (q : bin_of w < first). let m = head_least (rise_from first (bins_of numbers ends i) (c.risen i l)) (omega arith) in omega arith)
    (λ (q : first ≤ bin_of w).
    let h = here_start numbers ends cursors i (get_or ends i 0) first (place_of w) (bin_of w) first l c (c.same i l) refl refl refl in
    let e = here_head numbers ends i (get_or ends i 0) first (place_of w) (bin_of w) h q in
    omega arith)
    (lt_or_le (bin_of w) first)

-- ---- a cursor put where the scan stopped

module _ (numbers ends cursors : List ℕ) (i end first j x w b : ℕ) (l : i < length ends) (c : Cursors numbers ends cursors b)
    (h : Here numbers ends i end first j x) (f : first ≤ b) (ew : (place_of w ≡ j) × (bin_of w ≡ x)) where
  pub cursors_on : (cursors' : List ℕ) → cursors' ≡ set cursors i w → Cursors numbers ends cursors' b
  cursors_on cursors' r =
      let z = c.lengths in
      let a : get_or cursors' i 0 ≡ w = ap (λ y. get_or y i 0) r ∙ get_or-set_same cursors i w 0 (omega arith) in
      record {
        few = c.few;
        short = c.short;
        inside = c.inside;
        risen = c.risen;
        lengths = ap length r ∙ (length-set cursors i w ∙ z);
        before = λ n k.
            ⊎_elim
            (λ (q : n ≡ i).
            subst (λ y. place_of (get_or cursors' y 0) ≤ get_or ends y 0) (sym q)
            (let o = h.order in let d = h.ending in let p = ap place_of a ∙ ew.0 in omega arith))
            (λ (q : n ≢ i). subst (λ y. place_of y ≤ get_or ends n 0) (sym (other n q cursors' r)) (c.before n k))
            (eq_or_ne n i);
        same = λ n k v g.
            ⊎_elim
            (λ (q : n ≡ i).
            subst (λ y. from v (bins_of numbers ends y) ≡ from v (slice numbers (place_of (get_or cursors' y 0)) (get_or ends y 0))) (sym q)
            (h.same v (omega arith) ∙ (λ s. from v (slice numbers (sym (ap place_of a ∙ ew.0) s) (h.ending s)))))
            (λ (q : n ≢ i). c.same n k v g ∙ (λ s. from v (slice numbers (place_of (sym (other n q cursors' r) s)) (get_or ends n 0))))
            (eq_or_ne n i);
        exact = λ n k.
            ⊎_elim
            (λ (q : n ≡ i).
            subst (λ y. bin_of (get_or cursors' y 0) ≡ head_of (slice numbers (place_of (get_or cursors' y 0)) (get_or ends y 0))) (sym q)
            (ap bin_of a ∙ (ew.1 ∙ (h.number ∙ (λ s. head_of (slice numbers (sym (ap place_of a ∙ ew.0) s) (h.ending s)))))))
            (λ (q : n ≢ i).
            subst (λ y. bin_of y ≡ head_of (slice numbers (place_of y) (get_or ends n 0))) (sym (other n q cursors' r)) (c.exact n k))
            (eq_or_ne n i);
      }
    where
      other : (n : ℕ) → n ≢ i → (ps : List ℕ) → ps ≡ set cursors i w → get_or ps n 0 ≡ get_or cursors n 0
      other n q ps r = ap (λ y. get_or y n 0) r ∙ get_or-set_other cursors i n w 0 q

-- the first number from a bin on, or the number after the last bin, fits a cursor
pub head_fits : (numbers ends cursors : List ℕ) (i first b : ℕ) → i < length ends → Cursors numbers ends cursors b → head_in numbers ends i first ≤ past_bin
head_fits numbers ends cursors i first b l c = head_bin (rise_from first (bins_of numbers ends i) (c.risen i l))
