-- What one run found alone. The other runs are those that the mask 2 ^ k − 2 chooses, so lists and a threshold that pass the first checks of the call pass
-- those of a question over these runs. The answers are exact, no part names run 0, and a walk with room for all its answers is not ended by 5. Assumes nothing.
use Prim.Native.Nat.{ℕ, zero, suc, ◌+◌, ◌-◌, ◌*◌, ◌^◌, ◌≤◌, ◌<◌}
use borrow.Author.Tests.{lt-ltb, ne_eqb}
use lib.Count.{ones, ones_cat, ones-ones}
use lib.ListN.{length}
use lib.Pow.{pow_pos, pow-lt}
use mathlib.Core.Bool.{true, false}
use mathlib.Core.List.{List, [], ◌∷◌, Memᴰ}
use mathlib.Core.Logic.{⊎_elim, ◌≢◌}
use mathlib.Core.Option.{none}
use mathlib.Core.Path.{◌≡◌, refl, sym, ap, ◌∙◌, subst}
use native.Mathlib.Omega.{arith}
use Rattle.model.specs.Alone.{new_bins, other_runs, other_mask, alone_checks, without, alone_in, walk_without_answers}
use Rattle.model.specs.AloneDemands.{AloneExact}
use Rattle.model.specs.Certificate.{Part, mask_of, answers_of, NamesOnly, TruePart, gap_true, answer_true}
use Rattle.model.specs.Compared.{whole_walk, whole_certificate}
use Rattle.model.specs.Demands.{Fits}
use Rattle.model.specs.Plain.{Counted}
use Rattle.model.specs.Refusals.{passed, chosen_checks, cut_walk}
use Rattle.model.specs.Rows.{Rise, rise_nil, rise_cons}
use Rattle.model.specs.Runs.{Run, first_bin, past_bin, runs, most_runs, unrisen_after, unrisen, holds, mask, bit, names, chosen}
use Rattle.model.proofs.Chosen.{chosen_nil, chosen_out, chosen_every}
use Rattle.model.proofs.Cutting.{cut_unfilled}
use Rattle.model.proofs.Demands.{whole_true}
use Rattle.model.proofs.Exact.{exact}
use Rattle.model.proofs.FirstChecks.{then_first, then_second, Listed, count_passed, threshold_passed, lists_passed, chosen_checks_law, runs_rising, all_labelled, all_length, chosen_fit, chosen_counted}
use Rattle.model.proofs.From.{rise_from, from_all, holds_mem, mem_holds}
use Rattle.model.proofs.Masks.{Labelled, label_first, label_rest, label_least, ascending, bit_small, names_mask, mask_bit, mask_of_all_law, mask_all}
use Rattle.model.proofs.Tests.{both, lt_or_le, true_false}
use Rattle.model.proofs.Truth.{Fit}
use Rattle.model.proofs.Walking.{Rising}

-- ---- the other runs

-- their mask is the one that names all of them, and does not name the first run
module _ (r : Run) (rs : List Run) (l : Labelled 0 (r ∷ rs)) where
  other_mask_law : other_mask (length (r ∷ rs)) ≡ mask (λ q. true) rs
  unfolding other_mask
  other_mask_law =
      let a = mask_all rs (label_rest l) in
      let e : 1 + length rs ≡ suc (length rs) = omega arith in
      omega (arith, ap (λ x. 2 ^ x) e) ∙ mask_of_all_law rs

  first_out : names (mask (λ q. true) rs) r ≡ false
  unfolding names
  first_out =
      ne_eqb _ 1
      (λ b.
      let t = mask_bit (λ q. true) rs (ascending (label_rest l)) r.label b in
      let i = label_least rs (label_rest l) t.0 t.1 in
      let f = label_first l in
      omega (arith, t.2))

others_are : (rs : List Run) → Labelled 0 rs → chosen (other_mask (length rs)) rs ≡ other_runs rs
unfolding other_runs
others_are [] l = chosen_nil _
others_are (r ∷ rs) l =
    ap (λ m. chosen m (r ∷ rs)) (other_mask_law r rs l)
    ∙ (chosen_out _ r rs (first_out r rs l) ∙ chosen_every _ rs (names_mask (λ q. true) rs (ascending (label_rest l))))

pub others_chosen : (numbers ends : List ℕ) → chosen (other_mask (length ends)) (runs numbers ends) ≡ other_runs (runs numbers ends)
others_chosen numbers ends =
    ap (λ x. chosen (other_mask x) (runs numbers ends)) (sym (all_length numbers ends)) ∙ others_are (runs numbers ends) (all_labelled numbers ends)

-- What they weigh is how many they are.
pub others_counted : (numbers ends : List ℕ) → Counted (other_runs (runs numbers ends))
others_counted numbers ends = subst Counted (others_chosen numbers ends) (chosen_counted (other_mask (length ends)) numbers ends)

pub other_only : (k : ℕ) → other_mask k < 2 ^ k
unfolding other_mask
other_only k = let p = pow_pos k in omega arith

pub other_ones : (k : ℕ) → ones (other_mask k) ≡ k - 1
unfolding other_mask ones
other_ones zero = refl
other_ones (suc k) =
    let e : 2 ^ suc k - 2 ≡ (2 ^ k - 1) * 2 ^ 1 + 0 = omega arith in
    let n = ones-ones k in
    ap ones e ∙ (ones_cat 1 (2 ^ k - 1) 0 (omega arith) ∙ omega arith)

-- ---- the first checks

pub record AlonePassed (numbers ends : List ℕ) (t : ℕ) : Type 0 where
  pub some_runs : 1 < length ends
  pub few_runs : length ends ≤ most_runs
  pub threshold : 0 < t
  pub met : t ≤ length ends - 1
  pub lists : Listed numbers ends

pub alone_passed : (numbers ends : List ℕ) (t : ℕ) → alone_checks numbers ends t ≡ passed → AlonePassed numbers ends t
unfolding alone_checks
alone_passed numbers ends t e =
    let c = count_passed ends (then_first _ _ e) in
    let e₂ = then_second _ _ e in
    let h = threshold_passed (length ends - 1) t t (then_first _ _ e₂) in
    record {
      some_runs = omega (arith, h.0, h.1);
      few_runs = c.1;
      threshold = h.0;
      met = h.1;
      lists = lists_passed numbers ends (then_second _ _ e₂);
    }

-- The call asks over the other runs.
pub alone_chosen_checks : (numbers ends : List ℕ) (t : ℕ) → alone_checks numbers ends t ≡ passed → chosen_checks numbers ends (other_mask (length ends)) t ≡ passed
unfolding alone_checks other_mask
alone_chosen_checks numbers ends t e =
    let p = alone_passed numbers ends t e in
    let s = pow-lt p.some_runs in
    let n = other_ones (length ends) in
    let m = p.met in
    chosen_checks_law numbers ends (other_mask (length ends)) t (then_first _ _ e) (then_second _ _ (then_second _ _ e)) (omega arith) (other_only (length ends))
    p.threshold (omega arith)

pub alone_fit : (numbers ends : List ℕ) (t : ℕ) → Fits past_bin numbers → alone_checks numbers ends t ≡ passed → Fit (other_runs (runs numbers ends)) t
alone_fit numbers ends t h e =
    subst (λ x. Fit x t) (others_chosen numbers ends) (chosen_fit numbers ends (other_mask (length ends)) t h (alone_chosen_checks numbers ends t e))

new_rise : (rs : List Run) → Rising rs → Rise first_bin (new_bins rs)
unfolding new_bins
new_rise [] g = rise_nil
new_rise (r ∷ rs) g = g.each r (mathlib.Core.List.Memᴰ.head refl)

pub new_rising : (numbers ends : List ℕ) (t : ℕ) → Fits past_bin numbers → alone_checks numbers ends t ≡ passed → Rise first_bin (new_bins (runs numbers ends))
new_rising numbers ends t h e = new_rise (runs numbers ends) (runs_rising numbers ends h (alone_passed numbers ends t e).lists)

-- ---- the answers

module _ (answers : List ℕ) where
  pub without_held : (x : ℕ) (s : List ℕ) → holds x answers ≡ true → without answers (x ∷ s) ≡ without answers s
  unfolding without
  without_held x s e = rw (e, without)

  pub without_new : (x : ℕ) (s : List ℕ) → holds x answers ≡ false → without answers (x ∷ s) ≡ x ∷ without answers s
  unfolding without
  without_new x s e = rw (e, without)

  without_nil : without answers [] ≡ []
  unfolding without
  without_nil = refl

  -- no more are left
  pub without_fewer : (s : List ℕ) → length (without answers s) ≤ length s
  without_fewer [] = rw without_nil (omega arith)
  without_fewer (x ∷ s) =
      let i = without_fewer s in
      ⊎_elim
      (λ (e : holds x answers ≡ true). rw (without_held x s e) (omega arith))
      (λ (e : holds x answers ≡ false). rw (without_new x s e) (omega arith))
      (both (holds x answers))

  -- what is left is in the list and is no answer, and the other way round
  without_mem : (s : List ℕ) {x : ℕ} → Memᴰ x (without answers s) → Memᴰ x s × (holds x answers ≡ false)
  without_mem [] m = absurd (mathlib.Core.List.Memᴰ.not-nil (rw without_nil at m))
  without_mem (y ∷ s) {x} m =
      ⊎_elim
      (λ (e : holds y answers ≡ true). let t = without_mem s (rw (without_held y s e) at m) in (mathlib.Core.List.Memᴰ.tail t.0, t.1))
      (λ (e : holds y answers ≡ false).
      ⊎_elim
      (λ (i : x ≡ y). (mathlib.Core.List.Memᴰ.head i, ap (λ z. holds z answers) i ∙ e))
      (λ (k : Memᴰ x (without answers s)). let t = without_mem s k in (mathlib.Core.List.Memᴰ.tail t.0, t.1))
      (mathlib.Core.List.Memᴰ.cases_cons (rw (without_new y s e) at m)))
      (both (holds y answers))

  mem_without : (s : List ℕ) {x : ℕ} → Memᴰ x s → holds x answers ≡ false → Memᴰ x (without answers s)
  mem_without [] m q = absurd (mathlib.Core.List.Memᴰ.not-nil m)
  mem_without (y ∷ s) {x} m q =
      ⊎_elim
      (λ (e : holds y answers ≡ true).
      rw (without_held y s e)
      (⊎_elim (λ (i : x ≡ y). true_false (ap (λ z. holds z answers) i ∙ e) q) (λ k. mem_without s k q) (mathlib.Core.List.Memᴰ.cases_cons m)))
      (λ (e : holds y answers ≡ false).
      rw (without_new y s e) (⊎_elim (λ (i : x ≡ y). mathlib.Core.List.Memᴰ.head i) (λ k. mathlib.Core.List.Memᴰ.tail (mem_without s k q)) (mathlib.Core.List.Memᴰ.cases_cons m)))
      (both (holds y answers))

  without_rises : {a : ℕ} {s : List ℕ} → Rise a s → Rise a (without answers s)
  without_rises rise_nil = rw without_nil rise_nil
  without_rises {a} (rise_cons {x = x} {s = s} l u r) =
      let i = without_rises r in
      ⊎_elim
      (λ (e : holds x answers ≡ true). rw (without_held x s e) (subst (λ z. Rise a z) (from_all a (omega arith) i) (rise_from a (without answers s) i)))
      (λ (e : holds x answers ≡ false). rw (without_new x s e) (rise_cons l u i))
      (both (holds x answers))

-- in a list that rises no number is out of order
after_rise : (i x : ℕ) {s : List ℕ} → Rise (suc x) s → unrisen_after i x s ≡ none
unfolding unrisen_after
after_rise i x rise_nil = refl
after_rise i x (rise_cons {x = y} {s = s} l u r) = rw (lt-ltb x y l, unrisen_after) (after_rise (suc i) y r)

pub rise_unrisen : (i : ℕ) {a : ℕ} {s : List ℕ} → Rise a s → unrisen i s ≡ none
unfolding unrisen
rise_unrisen i rise_nil = refl
rise_unrisen i (rise_cons {x = x} l u r) = after_rise i x r

pub alone_exact : (rs : List Run) (t : ℕ) → Fit (other_runs rs) t → Rise first_bin (new_bins rs) → AloneExact rs t (alone_in t rs)
unfolding alone_in
alone_exact rs t g r =
    let found = answers_of (whole_certificate t (other_runs rs)) in
    let e = exact g (whole_true g) in
    record {
      all = λ x. (
        λ m.
            let k = without_mem found (new_bins rs) m in
            (k.0, ⊎_elim (λ h. h) (λ h. true_false (mem_holds x found ((e.all x).1 h)) k.1) (lt_or_le _ t)),
        λ k.
            mem_without found (new_bins rs) k.0
            (⊎_elim (λ h. let i = (e.all x).0 (holds_mem x found h) in absurd (omega (arith, k.1))) (λ h. h) (both (holds x found))),
      );
      rising = rise_unrisen 0 (without_rises found r);
    }

-- ---- the certificate

-- a true part names only runs of these
part_only : {rs : List Run} {t : ℕ} {p : Part} → TruePart rs t p → NamesOnly (mask_of p) rs
unfolding mask_of
part_only (gap_true q) = q.only
part_only (answer_true q) = q.only

others_least : (rs : List Run) → Labelled 0 rs → (r : Run) → Memᴰ r (other_runs rs) → 1 ≤ r.label
unfolding other_runs
others_least [] l r m = absurd (mathlib.Core.List.Memᴰ.not-nil m)
others_least (s ∷ rs) l r m = label_least rs (label_rest l) r m

pub others_clear : (numbers ends : List ℕ) (t : ℕ) → Fit (other_runs (runs numbers ends)) t → (p : Part)
    → Memᴰ p (whole_certificate t (other_runs (runs numbers ends))) → bit (mask_of p) 0 ≡ 0
others_clear numbers ends t g p m =
    let s = bit_small (mask_of p) 0 in
    let n : bit (mask_of p) 0 ≢ 1 = λ e.
    let o = part_only ((whole_true g).each p m) 0 e in
    let i = others_least (runs numbers ends) (all_labelled numbers ends) o.0 o.1 in
    omega (arith, o.2) in
    omega arith

-- A walk that has room for all its answers is not ended by 5.
pub never_full : (t : ℕ) (rs : List Run) (allowance bytes : ℕ) → (walk_without_answers t rs allowance bytes).refused ≢ 5
unfolding walk_without_answers cut_walk whole_certificate
never_full t rs allowance bytes = cut_unfilled _ (whole_walk t rs) (omega arith)
