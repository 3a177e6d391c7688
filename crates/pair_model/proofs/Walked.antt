-- The answers of a pair of runs are those of the walk with t = 2, as each run weighs 1, and what is claimed of the call. Assumes nothing.
use Prim.Native.Nat.{ℕ, ◌+◌, ◌≤◌, ◌<◌}
use borrow.Author.Tests.{lt-ltb, le-ltb}
use lib.ListN.{length, get_or, take}
use lib.Seq.{length-take-le, take_all, take-append_seam}
use mathlib.Core.Bool.{Bool, true, false}
use mathlib.Core.List.{List, [], ◌∷◌, Memᴰ}
use mathlib.Core.Logic.{⊎_elim, ◌↔◌}
use mathlib.Core.Path.{◌≡◌, refl, ap, ◌∙◌}
use native.Mathlib.Omega.{arith}
use Rattle.model.proofs.Demands.{whole_true}
use Rattle.model.proofs.Exact.{exact}
use Rattle.model.proofs.FirstChecks.{runs_rising, all_labelled, all_length}
use Rattle.model.proofs.From.{holds_mem, mem_holds}
use Rattle.model.proofs.Masks.{ascending}
use Rattle.model.proofs.Plain.{all_plain, plain_all}
use Rattle.model.proofs.Tests.{lt_or_le}
use Rattle.model.proofs.Truth.{Fit}
use Rattle.model.specs.Certificate.{answers_of}
use Rattle.model.specs.Compared.{whole_certificate}
use Rattle.model.specs.Demands.{Fits, Exact}
use Rattle.model.specs.Refusals.{Check, passed, refusal, refuse_if, over}
use Rattle.model.specs.Runs.{Run, first_bin, past_bin, slice, from, runs_from, runs, holds, total, one, weight_of}
use Rattle.row_fill.specs.Filling.{check_is, count_is, Returns}
use Rattle.row_fill.specs.declared.Unfilled.{Unfilled}
use Rattle.std.specs.Prelude.{Result}
use Rattle.pair_model.proofs.Both.{found_both}
use Rattle.pair_model.proofs.Lent.{pair_two, pair_ends, pair_listed, pair_runs, pair_rise}
use Rattle.pair_model.proofs.Unique.{lists_same}
use Rattle.pair_model.specs.Claims.{PairAnswers, PairDemand2}
use Rattle.pair_model.specs.Pair.{found_in, partition_of, pair_checks, filled_with, filled_after, pair}

-- ---- the walk

-- two runs that weigh 1 each
two_weigh : (z : ℕ) (numbers : List ℕ) (e f : ℕ)
    → weight_of (λ r. holds z r.bins) (runs numbers (e ∷ f ∷ []))
    ≡ one (holds z (from first_bin (slice numbers 0 e))) + one (holds z (from first_bin (slice numbers e f)))
unfolding weight_of total runs runs_from
two_weigh z numbers e f = omega arith

two_ones : (a b : Bool) → 2 ≤ one a + one b → (a ≡ true) × (b ≡ true)
unfolding one
two_ones true true h = (refl, refl)
two_ones true false h = absurd (omega arith)
two_ones false true h = absurd (omega arith)
two_ones false false h = absurd (omega arith)

ones_two : (a b : Bool) → a ≡ true → b ≡ true → 2 ≤ one a + one b
unfolding one
ones_two a b p q = rw (p, q) (omega arith)

weigh_both : (z : ℕ) (a b : List ℕ) → (2 ≤ one (holds z a) + one (holds z b)) ↔ (Memᴰ z a × Memᴰ z b)
weigh_both z a b = (
  λ h. let t = two_ones (holds z a) (holds z b) h in (holds_mem z a t.0, holds_mem z b t.1),
  λ t. ones_two (holds z a) (holds z b) (mem_holds z a t.0) (mem_holds z b t.1),
)

module _ (numbers ends : List ℕ) (h : pair_checks numbers ends ≡ passed) (fits : Fits past_bin numbers) where
  pair_fit : Fit (runs numbers ends) 2
  pair_fit =
      record {
        rising = runs_rising numbers ends fits (pair_listed numbers ends h);
        labels = ascending (all_labelled numbers ends);
        some = omega arith;
        met = omega (arith, plain_all (all_plain numbers ends), all_length numbers ends, pair_two numbers ends h);
      }

  walk_exact : Exact (runs numbers ends) 2 (answers_of (whole_certificate 2 (runs numbers ends)))
  walk_exact = exact pair_fit (whole_true pair_fit)

  pair_weigh : (z : ℕ) → weight_of (λ r. holds z r.bins) (runs numbers ends)
      ≡ one (holds z (from first_bin (slice numbers 0 (get_or ends 0 0)))) + one (holds z (from first_bin (slice numbers (get_or ends 0 0) (get_or ends 1 0))))
  pair_weigh z =
      ap (λ l. weight_of (λ r. holds z r.bins) (runs numbers l)) (pair_ends numbers ends h) ∙ two_weigh z numbers (get_or ends 0 0) (get_or ends 1 0)

  pub pair_of_the_walk : found_in (partition_of (runs numbers ends)) ≡ answers_of (whole_certificate 2 (runs numbers ends))
  pair_of_the_walk =
      let r = pair_rise numbers ends h fits in
      ap found_in (pair_runs numbers ends h)
      ∙ lists_same (λ z. rw (pair_weigh z) ((weigh_both z _ _).1, (weigh_both z _ _).0)) (found_both _ _ r.0 r.1) walk_exact

-- ---- the call

passed_refusal : {A : Type 0} {c : Check} {n p : ℕ} → c ≡ passed → c ≡ refusal n p → A
passed_refusal e f = absurd (let z : ◌≡◌ {A = ℕ} 0 1 = cc in omega arith)

-- what is returned and written where these are found
module _ (found row : List ℕ) where
  filled_front : (r : Result ℕ Unfilled) (row' : List ℕ) → Returns (filled_with found row) r row' → take (count_is r) row' ≡ take (length row) found
  unfolding filled_with over
  filled_front r row' g = rw (g.count_agrees, g.row_is) (take-append_seam (take (length row) found) _)

  pub filled_whole : length found ≤ length row → (filled_with found row).check ≡ passed
  unfolding filled_with refuse_if
  filled_whole h = rw (le-ltb (length row) (length found) h)

  filled_full : length row < length found → (filled_with found row).check ≡ refusal 5 (length row)
  unfolding filled_with refuse_if
  filled_full h = rw (lt-ltb (length row) (length found) h) (ap (refusal 5) (length-take-le (length row) found (omega arith)))

filled_claimed : (rs : List Run) (row : List ℕ) (r : Result ℕ Unfilled) (row' : List ℕ) → Exact rs 2 (answers_of (whole_certificate 2 rs))
    → Returns (filled_with (answers_of (whole_certificate 2 rs)) row) r row' → PairAnswers rs (check_is r) (length row) (take (count_is r) row')
filled_claimed rs row r row' x g =
    let found = answers_of (whole_certificate 2 rs) in
    let w = filled_front found row r row' g in
    ⊎_elim
    (λ (q : length row < length found).
    let c : check_is r ≡ refusal 5 (length row) = g.check_agrees ∙ filled_full found row q in
    record { of_the_walk = λ e. passed_refusal e c; exact = x; full = λ n p e. (cc, cc, q, w) })
    (λ (q : length found ≤ length row).
    let c : check_is r ≡ passed = g.check_agrees ∙ filled_whole found row q in
    record { of_the_walk = λ e. w ∙ take_all (length row) found q; exact = x; full = λ n p e. passed_refusal c e })
    (lt_or_le (length row) (length found))

pub pair_filled : (numbers ends row : List ℕ) → pair_checks numbers ends ≡ passed → pair numbers ends row ≡ filled_with (found_in (partition_of (runs numbers ends))) row
unfolding pair filled_after
pair_filled numbers ends row h = rw h

pub pair_claimed : (numbers ends row : List ℕ) (r : Result ℕ Unfilled) (row' : List ℕ) → Fits past_bin numbers → Returns (pair numbers ends row) r row'
    → PairDemand2 numbers ends (length row) (check_is r) (count_is r) row'
pair_claimed numbers ends row r row' fits g =
    record {
      for_every = λ h.
          filled_claimed (runs numbers ends) row r row' (walk_exact numbers ends h fits)
          (rw (pair_filled numbers ends row h, pair_of_the_walk numbers ends h fits) at g);
    }
