-- The lines of a file from a place on, one after another. Assumes nothing.
use Prim.Native.Nat.{ℕ, ◌+◌, ◌-◌, ◌≤◌, ◌<◌}
use lib.ListN.{length, take, drop, length-take, length-drop}
use mathlib.Core.List.{List, [], ◌∷◌}
use mathlib.Core.Path.{◌≡◌, ap, ◌∙◌}
use native.Mathlib.Omega.{arith}
use Rattle.lcov_form.specs.Form.{Line, lines_from, lines}
use Rattle.text_read.specs.Pieces.{until, pieces}
use Rattle.text_read.proofs.Pieces.{pieces_start, pieces_out, pieces_next}
use Rattle.lcov_find.specs.Places.{lines_at}

pub lines_start : (file : List ℕ) → lines_at file 0 ≡ lines file
unfolding lines_at lines
lines_start file = ap (lines_from 0) (pieces_start 10 file)

pub lines_past : (file : List ℕ) (at : ℕ) → length file < at → lines_at file at ≡ []
unfolding lines_at lines_from
lines_past file at h = ap (lines_from at) (pieces_out 10 file at h)

-- a line that begins at a place and ends at another
pub record Ends (file : List ℕ) (at end : ℕ) : Type 0 where
  pub inside : at ≤ length file
  pub ends : end ≡ at + until 10 (drop at file)

abbrev pub line_to : List ℕ → ℕ → ℕ → Line
line_to file at end = record { offset = at; text = take (end - at) (drop at file) }

module _ {file : List ℕ} {at end : ℕ} (k : Ends file at end) where
  pub line_ends : end ≤ length file
  line_ends = (pieces_next 10 file at end k.inside k.ends).0

  -- that line, and the lines after it
  pub lines_next : lines_at file at ≡ line_to file at end ∷ lines_at file (end + 1)
  unfolding lines_at lines_from
  lines_next =
      let (w, p) = pieces_next 10 file at end k.inside k.ends in
      let d = length-drop at file in
      let t = length-take (end - at) (drop at file) in
      let e = k.ends in
      let q : at + length (take (end - at) (drop at file)) + 1 ≡ end + 1 = omega (arith, e) in
      ap (lines_from at) p ∙ ap (λ x. line_to file at end ∷ lines_from x (pieces 10 file (end + 1))) q
