-- The part of a list in order between two numbers stands from the rank of the first on, or of the first bin where that is greater, and before the rank of the
-- number after the last. Assumes nothing.
use Prim.Native.Nat.{ℕ, suc, max, ◌+◌, ◌-◌, ◌≤◌, ◌<◌}
use borrow.Author.Tests.{lt-ltb, le-ltb, le-leb, lt-leb}
use lib.ListN.{take, drop}
use mathlib.Core.List.{List, [], ◌∷◌}
use mathlib.Core.Logic.{⊎_elim}
use mathlib.Core.Option.{none, some}
use mathlib.Core.Path.{◌≡◌, refl, sym, ap, ◌∙◌}
use native.Mathlib.Omega.{arith}
use Rattle.model.specs.Rows.{Ordered, ordered_nil, ordered_cons}
use Rattle.model.proofs.From.{from_nil, from_pass, from_stop, rank_nil, rank_pass, rank_stop, rank_le}
use Rattle.model.proofs.FirstChecks.{run_ordered}
use Rattle.model.proofs.Ordered.{ordered_from}
use Rattle.model.proofs.Tests.{lt_or_le}
use Rattle.model.proofs.Zeros.{first_is}
use Rattle.model.specs.Between.{within, between}
use Rattle.model.specs.Runs.{first_bin, from, rank, unrisen_run}
use Rattle.between.specs.Places.{Spans}

-- ---- the part between two numbers

module _ (first last : ℕ) (h : first ≤ last + 1) where
  within_below : (x : ℕ) (s : List ℕ) → x < first → within first last (x ∷ s) ≡ within first last s
  unfolding within
  within_below x s l = rw (lt-leb first x l, within)

  within_in : (x : ℕ) (s : List ℕ) → first ≤ x → x ≤ last → within first last (x ∷ s) ≡ x ∷ within first last s
  unfolding within
  within_in x s l u = rw (le-leb first x l, le-leb x last u, within)

  within_above : (x : ℕ) (s : List ℕ) → last < x → within first last (x ∷ s) ≡ within first last s
  unfolding within
  within_above x s l = let m : first ≤ x = omega arith in rw (le-leb first x m, lt-leb x last l, within)

  within_nil : within first last [] ≡ []
  unfolding within
  within_nil = refl

  -- above the last there is nothing
  within_none : {a : ℕ} {s : List ℕ} → Ordered a s → last < a → within first last s ≡ []
  within_none ordered_nil l = within_nil
  within_none (ordered_cons {x = x} {s = s} m r) l =
      let n : last < x = omega arith in rw (within_above x s n) (within_none r (omega arith))

  -- from the first on it is a front of the list
  within_front : {a : ℕ} {s : List ℕ} → Ordered a s → first ≤ a → within first last s ≡ take (rank (last + 1) s) s
  within_front ordered_nil l = rw (within_nil, rank_nil (last + 1))
  within_front (ordered_cons {x = x} {s = s} m r) l =
      ⊎_elim
      (λ (q : x < last + 1).
      let n : first ≤ x = omega arith in
      let o : x ≤ last = omega arith in
      rw (within_in x s n o, rank_pass (last + 1) x s q) (ap (λ (t : List ℕ). x ∷ t) (within_front r (omega arith))))
      (λ (q : last + 1 ≤ x).
      let n : last < x = omega arith in rw (within_above x s n, rank_stop (last + 1) x s q) (within_none r (omega arith)))
      (lt_or_le x (last + 1))

  pub within_part : {a : ℕ} {s : List ℕ} → Ordered a s
      → take (rank (last + 1) s - rank first s) (drop (rank first s) s) ≡ within first last s
  within_part ordered_nil = rw (within_nil, rank_nil (last + 1), rank_nil first)
  within_part (ordered_cons {x = x} {s = s} m r) =
      ⊎_elim
      (λ (q : x < first).
      let o : x < last + 1 = omega arith in
      let e : suc (rank (last + 1) s) - suc (rank first s) ≡ rank (last + 1) s - rank first s = omega arith in
      rw (within_below x s q, rank_pass first x s q, rank_pass (last + 1) x s o, e) (within_part r))
      (λ (q : first ≤ x).
      let e : rank (last + 1) (x ∷ s) - 0 ≡ rank (last + 1) (x ∷ s) = omega arith in
      rw (rank_stop first x s q, e) (sym (within_front (ordered_cons q r) (omega arith))))
      (lt_or_le x first)

-- numbers below the first may be passed over before
within_passed : (first last v : ℕ) (s : List ℕ) → first ≤ last + 1 → v ≤ first → within first last (from v s) ≡ within first last s
within_passed first last v [] h l = ap (within first last) (from_nil v)
within_passed first last v (x ∷ s) h l =
    ⊎_elim
    (λ (q : x < v). ap (within first last) (from_pass v x s q) ∙ (within_passed first last v s h l ∙ sym (within_below first last h x s (omega arith))))
    (λ (q : v ≤ x). ap (within first last) (from_stop v x s q))
    (lt_or_le x v)

-- where no number is below b, the part from a number not above b on is the part from b on
within_least : (first last b : ℕ) {a : ℕ} {s : List ℕ} → first ≤ b → b ≤ last + 1 → Ordered a s → b ≤ a → within first last s ≡ within b last s
within_least first last b l h ordered_nil k = within_nil first last (omega arith) ∙ sym (within_nil b last h)
within_least first last b l h (ordered_cons {x = x} {s = s} m r) k =
    let rest = within_least first last b l h r (omega arith) in
    ⊎_elim
    (λ (q : last < x).
    within_above first last (omega arith) x s q ∙ (rest ∙ sym (within_above b last h x s q)))
    (λ (q : x ≤ last).
    within_in first last (omega arith) x s (omega arith) q ∙ (ap (λ (t : List ℕ). x ∷ t) rest ∙ sym (within_in b last h x s (omega arith) q)))
    (lt_or_le last x)

-- the bins of a list in order from the first to the last are its numbers from the greater of the first and the first bin on
within_bins : (first last : ℕ) {a : ℕ} (s : List ℕ) → Ordered a s → first ≤ last
    → (max first first_bin ≤ last + 1) × (within first last (from first_bin s) ≡ within (max first first_bin) last s)
within_bins first last s r h =
    let f = first_is in
    ⊎_elim
    (λ (q : first < first_bin).
    let m : max first first_bin ≡ first_bin = omega arith in
    rw m (
      omega arith,
      within_least first last first_bin (omega arith) (omega arith) (ordered_from first_bin s r) (omega arith)
          ∙ within_passed first_bin last first_bin s (omega arith) (omega arith),
    ))
    (λ (q : first_bin ≤ first). let m : max first first_bin ≡ first = omega arith in rw m (omega arith, within_passed first last first_bin s (omega arith) q))
    (lt_or_le first first_bin)

-- a rank grows with its number
pub rank_mono : (v w : ℕ) (s : List ℕ) → v ≤ w → rank v s ≤ rank w s
rank_mono v w [] h = rw (rank_nil v) (omega arith)
rank_mono v w (x ∷ s) h =
    ⊎_elim
    (λ (q : x < v). let o : x < w = omega arith in rw (rank_pass v x s q, rank_pass w x s o) (let i = rank_mono v w s h in omega arith))
    (λ (q : v ≤ x). rw (rank_stop v x s q) (omega arith))
    (lt_or_le x v)

module _ (first last : ℕ) (s : List ℕ) where
  pub between_none : last < first → between first last s ≡ []
  unfolding between
  between_none h = rw (lt-ltb last first h, between)

  pub between_unrisen : (i : ℕ) → first ≤ last → unrisen_run 0 s ≡ some i → between first last s ≡ []
  unfolding between
  between_unrisen i h e = rw (le-ltb last first h, e, between)

  between_risen : first ≤ last → unrisen_run 0 s ≡ none → between first last s ≡ within first last (from first_bin s)
  unfolding between
  between_risen h e = rw (le-ltb last first h, e, between)

  pub spans_none : between first last s ≡ [] → Spans first last s (record { start = 0; end = 0 })
  spans_none e = record { ordered = omega arith; inside = omega arith; part = sym e }

  pub spans_ranks : first ≤ last → unrisen_run 0 s ≡ none → Spans first last s (record { start = rank (max first first_bin) s; end = rank (last + 1) s })
  spans_ranks h e =
      let r = run_ordered 0 s e in
      let b = within_bins first last s r h in
      record {
        ordered = rank_mono (max first first_bin) (last + 1) s b.0;
        inside = rank_le (last + 1) s;
        part = within_part (max first first_bin) last b.0 r ∙ (sym b.1 ∙ sym (between_risen h e));
      }
