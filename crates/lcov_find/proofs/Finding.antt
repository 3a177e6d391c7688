-- The sections of a file, line by line. Assumes nothing.
use Prim.Native.Nat.{ℕ, zero, suc, ◌+◌, ◌-◌, ◌<◌}
use lib.ListN.{length, get_or}
use mathlib.Core.Bool.{Bool, true, false, not}
use mathlib.Core.List.{List, ◌∷◌}
use mathlib.Core.Logic.{◌≢◌}
use mathlib.Core.Path.{◌≡◌, refl, sym, ap, ◌∙◌}
use native.Mathlib.Omega.{arith}
use Rattle.model.proofs.Tests.{true_false}
use Rattle.lcov_form.specs.Form.{Line, opens, closes, Section, unclosed, section, sections}
use Rattle.lcov_form.specs.Reading.{section_of}
use Rattle.lcov_find.specs.Places.{lines_at, section_at}
use Rattle.lcov_find.proofs.Lines.{lines_start, lines_past, Ends, line_to, lines_next}

module _ (line : Line) (lines : List Line) where
  not_closed : closes line.text ≡ false → sections true (line ∷ lines) ≡ sections true lines
  unfolding sections
  not_closed e = rw (e, sections)

  closed_by : closes line.text ≡ true → sections true (line ∷ lines) ≡ sections false lines
  unfolding sections
  closed_by e = rw (e, sections)

  not_opened : opens line.text ≡ false → sections false (line ∷ lines) ≡ sections false lines
  unfolding sections
  not_opened e = rw (e, sections)

  opened_by : opens line.text ≡ true → sections false (line ∷ lines) ≡ section lines ∷ sections true lines
  unfolding sections
  opened_by e = rw (e, sections)

-- the section with an index among those that open from a place on
abbrev pub left_of : List ℕ → ℕ → Bool → ℕ → Section
left_of file at inside left = get_or (sections inside (lines_at file at)) left unclosed

pub left_start : (file : List ℕ) (index : ℕ) → left_of file 0 false index ≡ section_of file index
unfolding section_of
left_start file index = ap (λ x. get_or (sections false x) index unclosed) (lines_start file)

pub left_end : (file : List ℕ) (at : ℕ) (inside : Bool) (left : ℕ) → length file < at → section_at file at ≡ left_of file at inside left
unfolding section_at section sections
left_end file at true left h = rw (lines_past file at h)
left_end file at false left h = rw (lines_past file at h)

get_later : (x : Section) (xs : List Section) (i : ℕ) → i ≢ 0 → get_or (x ∷ xs) i unclosed ≡ get_or xs (i - 1) unclosed
get_later x xs zero h = absurd (h refl)
get_later x xs (suc i) h = let q : i ≡ suc i - 1 = omega arith in ap (λ j. get_or xs j unclosed) q

module _ {file : List ℕ} {at end : ℕ} (k : Ends file at end) (left : ℕ) where
  line : Line
  line = line_to file at end

  rest : List Line
  rest = lines_at file (end + 1)

  -- a line inside a section closes it or does not
  pub left_inside : (inside closed : Bool) → inside ≡ true → closed ≡ closes (line_to file at end).text → left_of file at inside left ≡ left_of file (end + 1) (not closed) left
  unfolding line rest
  left_inside true true i t = ap (λ x. get_or x left unclosed) (ap (sections true) (lines_next k) ∙ closed_by line rest (sym t))
  left_inside true false i t = ap (λ x. get_or x left unclosed) (ap (sections true) (lines_next k) ∙ not_closed line rest (sym t))
  left_inside false closed i t = true_false i refl

  pub left_outside : (inside : Bool) → inside ≡ false → opens (line_to file at end).text ≡ false → left_of file at inside left ≡ left_of file (end + 1) inside left
  unfolding line rest
  left_outside true i t = true_false refl i
  left_outside false i t = ap (λ x. get_or x left unclosed) (ap (sections false) (lines_next k) ∙ not_opened line rest t)

  opening : opens (line_to file at end).text ≡ true → sections false (lines_at file at) ≡ section (lines_at file (end + 1)) ∷ sections true (lines_at file (end + 1))
  unfolding line rest
  opening t = ap (sections false) (lines_next k) ∙ opened_by line rest t

  pub left_found : (inside : Bool) → inside ≡ false → left ≡ 0 → opens (line_to file at end).text ≡ true → left_of file at inside left ≡ section_at file (end + 1)
  unfolding section_at
  left_found true i z t = true_false refl i
  left_found false i z t = ap (left_of file at false) z ∙ ap (λ x. get_or x 0 unclosed) (opening t)

  pub left_opened : (inside : Bool) → inside ≡ false → left ≢ 0 → opens (line_to file at end).text ≡ true
      → left_of file at inside left ≡ left_of file (end + 1) true (left - 1)
  left_opened true i n t = true_false refl i
  left_opened false i n t =
      ap (λ x. get_or x left unclosed) (opening t) ∙ get_later (section (lines_at file (end + 1))) (sections true (lines_at file (end + 1))) left n
