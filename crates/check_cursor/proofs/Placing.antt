-- The cursors put at the runs' first bins, and what the first checks give for them. Assumes nothing.
use Prim.Native.Nat.{ℕ, zero, suc, ◌+◌, ◌≤◌, ◌<◌}
use lib.ListN.{length, get_or, set, length-set}
use lib.Seq.{get_or-set_same, get_or-set_other}
use mathlib.Core.List.{List}
use mathlib.Core.Logic.{⊎_elim, ◌≢◌}
use mathlib.Core.Path.{◌≡◌, refl, sym, ap, ◌∙◌, subst}
use native.Mathlib.Numerals.{add-one}
use native.Mathlib.Omega.{arith}
use Rattle.first_checks.proofs.Laws.{Ordered, next_end, next_ordered}
use Rattle.model.proofs.FirstChecks.{Listed, bins_rise, slice_fits, lists_rise}
use Rattle.model.proofs.From.{head_bin}
use Rattle.model.proofs.Tests.{eq_or_ne}
use Rattle.first_bin.proofs.Places.{bins_from, first_inside}
use Rattle.first_bin.specs.Lent.{LentAt, first_bin_at}
use Rattle.model.specs.Demands.{Fits}
use Rattle.model.specs.Runs.{first_bin, past_bin, slice, from, most_runs}
use Rattle.model.specs.Walk.{head_of}
use Rattle.check_cursor.specs.Cursors.{start_of, lent_of, bins_of, cursor_places, place_of, bin_of, Cursors, Begins}

-- the place of run i's first bin
abbrev pub first_of : List ℕ → List ℕ → ℕ → ℕ
first_of numbers ends i = first_bin_at numbers (start_of ends i) (get_or ends i 0)

-- the cursors of the runs before i are placed
pub record Placed (numbers ends cursors : List ℕ) (start i : ℕ) : Type 0 where
  pub lengths : length cursors ≡ length ends
  pub next : start ≡ start_of ends i
  pub places : (j : ℕ) → j < i → place_of (get_or cursors j 0) ≡ first_of numbers ends j
  pub firsts : (j : ℕ) → j < i → bin_of (get_or cursors j 0) ≡ head_of (bins_of numbers ends j)

pub placed_none : (numbers ends cursors : List ℕ) → length cursors ≡ length ends → Placed numbers ends cursors 0 0
placed_none numbers ends cursors e = record { lengths = e; next = refl; places = λ j h. absurd (omega arith); firsts = λ j h. absurd (omega arith) }

module _ {numbers ends cursors₀ cursors : List ℕ} {start i : ℕ} (b : Begins numbers ends cursors₀) (p : Placed numbers ends cursors start i) where
  module _ (l : i < length ends) {end : ℕ} (ee : end ≡ get_or ends i 0) where
    -- run i as it is lent
    pub lent_next : LentAt numbers start end
    lent_next = let n = p.next in rw (n, ee) (b.lent i l)

    module _ {first : ℕ} (ef : first ≡ first_bin_at numbers start end) where
      place_is : first ≡ first_of numbers ends i
      place_is = ef ∙ (λ s. first_bin_at numbers (p.next s) (ee s))

      pub place_inside : (first ≤ end) × (end ≤ length numbers)
      place_inside = let k = first_inside numbers start end lent_next in (omega arith, lent_next.inside)

      module _ {x : ℕ} (ex : x ≡ head_of (slice numbers first end)) where
        first_is : x ≡ head_of (bins_of numbers ends i)
        first_is =
            ex
            ∙ ((λ s. head_of (slice numbers (place_is s) (ee s)))
            ∙ ap head_of (sym (bins_from numbers (start_of ends i) (get_or ends i 0))))

        pub place_fits : (x ≤ past_bin) × (first < cursor_places)
        place_fits =
            let s = place_inside in
            let m = b.short in
            let h = head_bin (b.risen i l) in
            let f = first_is in
            (omega arith, omega (arith, s.0, s.1))

        pub placed_on : (w : ℕ) → (place_of w ≡ first) × (bin_of w ≡ x) → Placed numbers ends (set cursors i w) end (i + 1)
        placed_on w ew =
            let z = p.lengths in
            let a : get_or (set cursors i w) i 0 ≡ w = get_or-set_same cursors i w 0 (omega arith) in
            record {
              lengths = length-set cursors i w ∙ z;
              next = ee ∙ ap (start_of ends) (sym (add-one i));
              places = λ j h.
                  ⊎_elim
                  (λ (q : j ≡ i).
                  subst (λ y. place_of (get_or (set cursors i w) y 0) ≡ first_of numbers ends y) (sym q) (ap place_of a ∙ (ew.0 ∙ place_is)))
                  (λ (q : j ≢ i). ap place_of (get_or-set_other cursors i j w 0 q) ∙ p.places j (omega arith))
                  (eq_or_ne j i);
              firsts = λ j h.
                  ⊎_elim
                  (λ (q : j ≡ i).
                  subst (λ y. bin_of (get_or (set cursors i w) y 0) ≡ head_of (bins_of numbers ends y)) (sym q) (ap bin_of a ∙ (ew.1 ∙ first_is)))
                  (λ (q : j ≢ i). ap bin_of (get_or-set_other cursors i j w 0 q) ∙ p.firsts j (omega arith))
                  (eq_or_ne j i);
            }

  pub placed_all : length ends ≤ i → Cursors numbers ends cursors first_bin
  placed_all l =
      record {
        few = b.few;
        short = b.short;
        inside = λ j h. (b.lent j h).inside;
        risen = b.risen;
        lengths = p.lengths;
        before = λ j h. let e = p.places j (omega arith) in let s = first_inside numbers (start_of ends j) (get_or ends j 0) (b.lent j h) in omega arith;
        same = λ j h v q. ap (from v) (bins_at j h);
        exact = λ j h. p.firsts j (omega arith) ∙ ap head_of (bins_at j h);
      }
    where
      bins_at : (j : ℕ) → j < length ends → bins_of numbers ends j ≡ slice numbers (place_of (get_or cursors j 0)) (get_or ends j 0)
      bins_at j h = bins_from numbers (start_of ends j) (get_or ends j 0) ∙ (λ s. slice numbers (sym (p.places j (omega arith)) s) (get_or ends j 0))

-- ---- what the first checks give

ordered : (numbers ends : List ℕ) → Ordered numbers ends 0 0 → (i : ℕ) → i < length ends → Ordered numbers ends (start_of ends i) i
ordered numbers ends o zero h = o
ordered numbers ends o (suc i) h =
    subst (λ x. Ordered numbers ends (get_or ends i 0) x) (add-one i)
    (next_ordered numbers ends (start_of ends i) i (omega arith) (ordered numbers ends o i (omega arith)))

pub begins : (numbers ends cursors : List ℕ) → Fits past_bin numbers → length ends ≤ most_runs → Listed numbers ends → length cursors ≡ length ends
    → Begins numbers ends cursors
begins numbers ends cursors f k p l =
    let o : Ordered numbers ends 0 0 = record { rise = p.ends_rise; last = p.ends_last } in
    record {
      few = k;
      short = p.few_numbers;
      lent = λ i h.
          let n = next_end numbers ends (start_of ends i) i h (ordered numbers ends o i h) in
          record { order = n.0; inside = n.1; risen = lists_rise 0 numbers ends p.numbers_rise i h };
      risen = λ i h.
          bins_rise (start_of ends i) (lent_of numbers ends i) (lists_rise 0 numbers ends p.numbers_rise i h)
          (slice_fits past_bin (start_of ends i) (get_or ends i 0) numbers f);
      lengths = l;
    }
