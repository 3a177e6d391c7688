-- A certificate's field written at an offset of a buffer. Definitions only.
use Rattle.std.specs.Prelude.{ℕ, ◌+◌, true, false, List, ◌++◌, leb, length, take, drop, Result, Ok, Err}
use Rattle.model.specs.Certificate as model
use Rattle.refusal.specs.declared.Reason.{Reason}
use Rattle.refusal.specs.declared.Reason.TheVariants.{CertificateFull}

-- a buffer with some bytes at an offset
unfoldable pub placed : List ℕ → ℕ → List ℕ → List ℕ
placed buffer at bytes = take at buffer ++ bytes ++ drop (at + length bytes) buffer

-- a buffer with a part's field at an offset where it fits whole, and unchanged where it does not
unfoldable pub stored : List ℕ → ℕ → model.Part → List ℕ
stored buffer at p = elim (leb (at + model.size_of p) (length buffer)) [ true ↦ placed buffer at (model.encode_part p) | false ↦ buffer ]

-- the offset after that field, or the refusal where it does not fit
unfoldable pub stored_result : List ℕ → ℕ → model.Part → Result ℕ Reason
stored_result buffer at p = elim (leb (at + model.size_of p) (length buffer)) [ true ↦ Ok (at + model.size_of p) | false ↦ Err CertificateFull ]
