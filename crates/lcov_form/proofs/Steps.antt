-- What is read from a section, by its first line. Assumes nothing.
use Prim.Native.Nat.{ℕ, suc, ◌≤◌, ◌<◌}
use borrow.Author.Tests.{le-leb, lt-leb}
use mathlib.Core.Logic.{◌⊎◌, inl, inr, ⊎_elim}
use mathlib.Core.Path.{◌≡◌, refl, subst⁻¹}
use Rattle.model.proofs.Tests.{lt_or_le}
use Rattle.model.specs.Refusals.{passed, refusal}
use Rattle.lcov_form.specs.Form.{Line, Section, closed, unclosed, ◌and_then◌, Record, covered, malformed, passed_over, record_of}
use Rattle.lcov_form.specs.Reading.{Reading, stop, write, read_from}

module _ (size room n last : ℕ) (line : Line) (rest : Section) where
  pub line_malformed : record_of line.text ≡ malformed → read_from size room n last (line and_then rest) ≡ stop (refusal 15 line.offset)
  unfolding read_from
  line_malformed e = rw (e, read_from)

  pub line_passed : record_of line.text ≡ passed_over → read_from size room n last (line and_then rest) ≡ read_from size room n last rest
  unfolding read_from
  line_passed e = rw (e, read_from)

  module _ (x : ℕ) (e : record_of line.text ≡ covered x) where
    pub line_unrisen : x ≤ last → read_from size room n last (line and_then rest) ≡ stop (refusal 4 n)
    unfolding read_from
    line_unrisen h = rw (e, read_from) (rw (le-leb x last h, read_from))

    pub line_full : last < x → room ≤ n → read_from size room n last (line and_then rest) ≡ stop (refusal 5 n)
    unfolding read_from
    line_full h k = rw (e, read_from) (rw (lt-leb x last h, le-leb room n k, read_from))

    pub line_covered : last < x → n < room → read_from size room n last (line and_then rest) ≡ write x (read_from size room (suc n) x rest)
    unfolding read_from
    line_covered h k = rw (e, read_from) (rw (lt-leb x last h, lt-leb room n k, read_from))

pub record_is : (r : Record) → (r ≡ malformed) ⊎ ((r ≡ passed_over) ⊎ ((x : ℕ) × (r ≡ covered x)))
record_is (covered x) = inr (inr (x, refl))
record_is malformed = inl refl
record_is passed_over = inr (inl refl)

-- What holds of every reading, if it holds at each of its ends and stays so line by line.
module _ (size room : ℕ) (P : ℕ → ℕ → Section → Reading → Type 0)
    (at-closed : (n last : ℕ) → P n last closed (stop passed))
    (at-unclosed : (n last : ℕ) → P n last unclosed (stop (refusal 16 size)))
    (at-malformed : (n last : ℕ) (line : Line) (rest : Section) → record_of line.text ≡ malformed → P n last (line and_then rest) (stop (refusal 15 line.offset)))
    (at-passed : (n last : ℕ) (line : Line) (rest : Section) (r : Reading) → record_of line.text ≡ passed_over → P n last rest r → P n last (line and_then rest) r)
    (at-unrisen : (n last : ℕ) (line : Line) (rest : Section) (x : ℕ) → record_of line.text ≡ covered x → x ≤ last → P n last (line and_then rest) (stop (refusal 4 n)))
    (at-full : (n last : ℕ) (line : Line) (rest : Section) (x : ℕ) → record_of line.text ≡ covered x → last < x → room ≤ n → P n last (line and_then rest) (stop (refusal 5 n)))
    (at-covered : (n last : ℕ) (line : Line) (rest : Section) (x : ℕ) (r : Reading) → record_of line.text ≡ covered x → last < x → n < room → P (suc n) x rest r
    → P n last (line and_then rest) (write x r))
  where
    pub by_lines : (n last : ℕ) (s : Section) → P n last s (read_from size room n last s)
    unfolding read_from
    by_lines n last closed = at-closed n last
    by_lines n last unclosed = at-unclosed n last
    by_lines n last (line and_then rest) =
        ⊎_elim
        (λ (e : record_of line.text ≡ malformed). subst⁻¹ (P n last (line and_then rest)) (line_malformed size room n last line rest e) (at-malformed n last line rest e))
        (⊎_elim
        (λ (e : record_of line.text ≡ passed_over).
        subst⁻¹ (P n last (line and_then rest)) (line_passed size room n last line rest e) (at-passed n last line rest _ e (by_lines n last rest)))
        (λ (p : (x : ℕ) × (record_of line.text ≡ covered x)).
        let x = p.0 in
        let e = p.1 in
        ⊎_elim
        (λ (h : last < x).
        ⊎_elim
        (λ (k : n < room).
        subst⁻¹ (P n last (line and_then rest)) (line_covered size room n last line rest x e h k) (at-covered n last line rest x _ e h k (by_lines (suc n) x rest)))
        (λ (k : room ≤ n). subst⁻¹ (P n last (line and_then rest)) (line_full size room n last line rest x e h k) (at-full n last line rest x e h k))
        (lt_or_le n room))
        (λ (h : x ≤ last). subst⁻¹ (P n last (line and_then rest)) (line_unrisen size room n last line rest x e h) (at-unrisen n last line rest x e h))
        (lt_or_le last x)))
        (record_is (record_of line.text))
