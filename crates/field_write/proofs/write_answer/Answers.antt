-- `write_answer` meets its contract: where the field fits, its head, value and mask are placed one after another. Assumes nothing.
use Rattle.std.proofs.Common.{arith, sym, ap, ◌∙◌, List, ℕ, ◌+◌}
use Rattle.model.specs.Certificate.{answer, size_of, bytes_of}
use Rattle.field_write.specs.Stored.{placed}
use Rattle.field_write.proofs.Bytes.{le_bytes}
use Rattle.field_write.proofs.Stored.{stored_full, result_fits, result_full, answer_stored}
use Rattle.field_write.proofs.write_answer.Goals as goal

pub returns-then-saturating_sub-lt-ANSWER_BYTES : goal.returns-then-saturating_sub-lt-ANSWER_BYTES
unfolding size_of bytes_of
returns-then-saturating_sub-lt-ANSWER_BYTES c =
    let a = c.args in
    record { bytes = sym (stored_full a.certificate.now a.at (answer a.value a.mask) (omega arith)); result = sym (result_full a.certificate.now a.at (answer a.value a.mask) (omega arith)) }

pub returns : goal.returns
unfolding size_of bytes_of
returns c =
    let a = c.args in
    let p = λ (at : ℕ) (l : List ℕ) (bytes : List ℕ). placed l at bytes in
    record {
      bytes =
          answer_stored a.certificate.now a.at a.value a.mask c.write_bytes.ensures
          (c.write_bytes-2.ensures ∙ ap (p (a.at + 3) c.write_bytes.new.certificate) (c.to_le_bytes.ensures ∙ le_bytes 4 a.value))
          (c.write_bytes-3.ensures ∙ ap (p (a.at + 7) c.write_bytes-2.new.certificate) (c.to_le_bytes-2.ensures ∙ le_bytes 8 a.mask)) (omega arith);
      result = sym (result_fits a.certificate.now a.at (answer a.value a.mask) (omega arith));
    }
