-- `write_bytes` meets its contract: what it writes over is as long as what it writes. Assumes nothing.
use Rattle.std.proofs.Common.{◌+◌, ◌-◌, ◌++◌, ◌∙◌, ap, arith, refl, length, take, drop, List, ℕ}
use lib.Seq.{take-length}
use Rattle.std.proofs.lemmas.Slice.{put_mid-paste}
use Rattle.field_write.specs.Stored.{placed}
use Rattle.field_write.proofs.write_bytes.Goals as goal

pub returns : goal.returns
unfolding placed
returns c =
    let a = c.args in
    put_mid-paste a.at (a.at + length a.bytes.now - a.at) a.certificate.now c.copy_from_slice.new.self a.bytes.now (length a.bytes.now)
    c.copy_from_slice.ensures.after (omega arith) refl
    ∙ ap (λ (bytes : List ℕ). take a.at a.certificate.now ++ bytes ++ drop (a.at + length a.bytes.now) a.certificate.now) (take-length a.bytes.now)
