-- A section read line by line, and what then stands in the row. Assumes nothing.
use Prim.Native.Nat.{ℕ, ◌+◌, ◌≤◌, ◌<◌}
use lib.ListN.{length, set, length-set}
use lib.Seq.{sets}
use mathlib.Core.Bool.{true, false}
use mathlib.Core.List.{List}
use mathlib.Core.Path.{◌≡◌, refl, sym, ap, subst, ◌∙◌}
use native.Mathlib.Numerals.{add-one}
use native.Mathlib.Omega.{arith}
use Rattle.model.proofs.Buffers.{over_sets}
use Rattle.model.specs.Refusals.{passed, refusal}
use Rattle.lcov_form.specs.Form.{closes, closed, ◌and_then◌, section, covered, malformed, passed_over, record_of}
use Rattle.lcov_form.specs.Reading.{Reading, stop, write, read_from, result_of}
use Rattle.lcov_form.proofs.Steps.{line_malformed, line_passed, line_unrisen, line_full, line_covered}
use Rattle.lcov_find.specs.Places.{section_at}
use Rattle.lcov_find.proofs.Lines.{lines_past, Ends, line_to, lines_next}
use Rattle.row_fill.specs.Filling.{check_is, count_is, Returns}
use Rattle.row_fill.specs.declared.Unfilled.{Unfilled}
use Rattle.std.specs.Prelude.{Result, Err}
use Rattle.refusal.specs.Number.{number_of, refusal_of}
use Rattle.refusal.specs.declared.Reason.{Reason}

-- what is read from a place on
abbrev pub rest_of : List ℕ → ℕ → ℕ → ℕ → ℕ → Reading
rest_of file room n last at = read_from (length file) room n last (section_at file at)

pub read_end : (file : List ℕ) (room n last at : ℕ) → length file < at → rest_of file room n last at ≡ stop (refusal 16 (length file))
unfolding section_at section read_from
read_end file room n last at h = rw (lines_past file at h)

module _ {file : List ℕ} {at end : ℕ} (k : Ends file at end) where
  section_closed : closes (line_to file at end).text ≡ true → section_at file at ≡ closed
  unfolding section_at section
  section_closed t = ap section (lines_next k) ∙ rw (t, section)

  section_on : closes (line_to file at end).text ≡ false → section_at file at ≡ (line_to file at end and_then section_at file (end + 1))
  unfolding section_at section
  section_on t = ap section (lines_next k) ∙ rw (t, section)

  pub read_closed : (room n last : ℕ) → closes (line_to file at end).text ≡ true → rest_of file room n last at ≡ stop passed
  unfolding read_from
  read_closed room n last t = ap (read_from (length file) room n last) (section_closed t)

  -- a line that does not close the section, by its kind
  module _ (room n last : ℕ) (t : closes (line_to file at end).text ≡ false) where
    on : rest_of file room n last at ≡ read_from (length file) room n last (line_to file at end and_then section_at file (end + 1))
    on = ap (read_from (length file) room n last) (section_on t)

    pub read_malformed : record_of (line_to file at end).text ≡ malformed → rest_of file room n last at ≡ stop (refusal 15 at)
    read_malformed r = on ∙ line_malformed (length file) room n last (line_to file at end) (section_at file (end + 1)) r

    pub read_passed : record_of (line_to file at end).text ≡ passed_over → rest_of file room n last at ≡ rest_of file room n last (end + 1)
    read_passed r = on ∙ line_passed (length file) room n last (line_to file at end) (section_at file (end + 1)) r

    module _ {x : ℕ} (r : record_of (line_to file at end).text ≡ covered x) where
      pub read_unrisen : x ≤ last → rest_of file room n last at ≡ stop (refusal 4 n)
      read_unrisen h = on ∙ line_unrisen (length file) room n last (line_to file at end) (section_at file (end + 1)) x r h

      pub read_full : last < x → room ≤ n → rest_of file room n last at ≡ stop (refusal 5 n)
      read_full h m = on ∙ line_full (length file) room n last (line_to file at end) (section_at file (end + 1)) x r h m

      pub read_covered : last < x → n < room → rest_of file room n last at ≡ write x (rest_of file room (n + 1) x (end + 1))
      read_covered h m =
          on ∙ (line_covered (length file) room n last (line_to file at end) (section_at file (end + 1)) x r h m ∙ ap (λ i. write x (rest_of file room i x (end + 1))) (sym (add-one n)))

-- The whole reading, what is left of it after n numbers were written, and the row before and now.
pub record Progress (whole rest : Reading) (row₀ row : List ℕ) (n : ℕ) : Type 0 where
  pub checks : whole.check ≡ rest.check
  pub counts : length whole.run ≡ n + length rest.run
  pub rows : sets row₀ 0 whole.run ≡ sets row n rest.run
  pub lengths : length row ≡ length row₀

pub progress_start : (whole : Reading) (row : List ℕ) → Progress whole whole row row 0
progress_start whole row = record { checks = refl; counts = omega arith; rows = refl; lengths = refl }

module _ {whole rest : Reading} {row₀ row : List ℕ} {n : ℕ} (p : Progress whole rest row₀ row n) where
  pub progress_on : {next : Reading} → rest ≡ next → Progress whole next row₀ row n
  progress_on e = subst (λ r. Progress whole r row₀ row n) e p

  pub progress_write : (x : ℕ) {next : Reading} → rest ≡ write x next → Progress whole next row₀ (set row n x) (n + 1)
  unfolding write
  progress_write x {next} e =
      record {
        checks = p.checks ∙ ap (λ r. r.check) e;
        counts = let q = ap (λ r. length r.run) e in let k = p.counts in omega (arith, q, k);
        rows = p.rows ∙ (ap (λ r. sets row n r.run) e ∙ ap (λ i. sets (set row n x) i next.run) (sym (add-one n)));
        lengths = length-set row n x ∙ p.lengths;
      }

  pub progress_stop : (outcome : Result ℕ Unfilled) → rest ≡ stop (check_is outcome) → count_is outcome ≡ n → length whole.run ≤ length row₀
      → Returns (result_of whole row₀) outcome row
  unfolding result_of stop
  progress_stop outcome e c h =
      record {
        check_agrees = sym (p.checks ∙ ap (λ r. r.check) e);
        count_agrees = let q = ap (λ r. length r.run) e in let k = p.counts in omega (arith, q, k, c);
        row_is = sym (ap (λ r. sets row n r.run) e) ∙ (sym p.rows ∙ over_sets whole.run row₀ h);
      }

  pub progress_refused : {reason : Reason} {place : ℕ} (u : Unfilled) → u ≡ record { refusal = record { reason = reason; place = place }; count = n }
      → rest ≡ stop (refusal (number_of reason) place) → length whole.run ≤ length row₀ → Returns (result_of whole row₀) (Err u) row
  progress_refused u q e h = progress_stop (Err u) (e ∙ ap (λ v. stop (refusal_of v.refusal)) (sym q)) (ap (λ v. v.count) q) h
