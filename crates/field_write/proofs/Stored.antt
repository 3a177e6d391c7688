-- A part's field stored in a buffer: the two cases of `stored` and `stored_result`; the length stays. A field is stored by its head and then its numbers.
-- Assumes nothing.
use Prim.Native.Nat.{ℕ, ◌+◌, ◌≤◌, ◌<◌}
use borrow.Author.Tests.{le-leb, lt-leb}
use lib.ListN.{length}
use mathlib.Core.List.{List, ◌∷◌, ◌++◌}
use mathlib.Core.Logic.{⊎_elim}
use mathlib.Core.Path.{◌≡◌, refl, sym, ap, ◌∙◌}
use native.Mathlib.Omega.{arith}
use Rattle.model.proofs.Encoding.{part_size}
use Rattle.model.proofs.Tests.{lt_or_le}
use Rattle.model.specs.Certificate.{Part, answer, gap, bytes_of, field, encode_part, size_of}
use Rattle.field_write.specs.Stored.{placed, stored, stored_result}
use Rattle.std.specs.Prelude.{Ok, Err}
use Rattle.refusal.specs.declared.Reason.TheVariants.{CertificateFull}
use Rattle.field_write.proofs.Placed.{placed_length, placed_then}

module _ (l : List ℕ) (at : ℕ) (p : Part) where
  pub stored_fits : at + size_of p ≤ length l → stored l at p ≡ placed l at (encode_part p)
  unfolding stored
  stored_fits h = rw (le-leb (at + size_of p) (length l) h, stored)

  pub stored_full : length l < at + size_of p → stored l at p ≡ l
  unfolding stored
  stored_full h = rw (lt-leb (at + size_of p) (length l) h, stored)

  pub result_fits : at + size_of p ≤ length l → stored_result l at p ≡ Ok (at + size_of p)
  unfolding stored_result
  result_fits h = rw (le-leb (at + size_of p) (length l) h, stored_result)

  pub result_full : length l < at + size_of p → stored_result l at p ≡ Err CertificateFull
  unfolding stored_result
  result_full h = rw (lt-leb (at + size_of p) (length l) h, stored_result)

  pub stored_length : length (stored l at p) ≡ length l
  stored_length =
      ⊎_elim
      (λ (h : length l < at + size_of p). ap length (stored_full h))
      (λ (h : at + size_of p ≤ length l).
      let n = part_size p in ap length (stored_fits h) ∙ placed_length (encode_part p) l at (omega arith))
      (lt_or_le (length l) (at + size_of p))

module _ (l : List ℕ) {l₁ l₂ : List ℕ} (at : ℕ) where
  pub answer_stored : {l₃ : List ℕ} (v m : ℕ) → l₁ ≡ placed l at (1 ∷ bytes_of 2 12) → l₂ ≡ placed l₁ (at + 3) (bytes_of 4 v)
      → l₃ ≡ placed l₂ (at + 7) (bytes_of 8 m) → at + 15 ≤ length l → l₃ ≡ stored l at (answer v m)
  unfolding encode_part field bytes_of size_of
  answer_stored v m p q r h =
      placed_then l (1 ∷ bytes_of 2 12 ++ bytes_of 4 v) (bytes_of 8 m) at (at + 7)
      (placed_then l (1 ∷ bytes_of 2 12) (bytes_of 4 v) at (at + 3) p q refl (omega arith)) r (omega arith) (omega arith)
      ∙ sym (stored_fits l at (answer v m) h)

  pub gap_stored : {l₃ l₄ : List ℕ} (f g m : ℕ) → l₁ ≡ placed l at (2 ∷ bytes_of 2 16) → l₂ ≡ placed l₁ (at + 3) (bytes_of 4 f)
      → l₃ ≡ placed l₂ (at + 7) (bytes_of 4 g) → l₄ ≡ placed l₃ (at + 11) (bytes_of 8 m) → at + 19 ≤ length l → l₄ ≡ stored l at (gap f g m)
  unfolding encode_part field bytes_of size_of
  gap_stored f g m p q r s h =
      placed_then l (2 ∷ bytes_of 2 16 ++ bytes_of 4 f ++ bytes_of 4 g) (bytes_of 8 m) at (at + 11)
      (placed_then l (2 ∷ bytes_of 2 16 ++ bytes_of 4 f) (bytes_of 4 g) at (at + 7)
      (placed_then l (2 ∷ bytes_of 2 16) (bytes_of 4 f) at (at + 3) p q refl (omega arith)) r (omega arith) (omega arith)) s (omega arith) (omega arith)
      ∙ sym (stored_fits l at (gap f g m) h)
