-- `gap_to` writes a gap whole or not at all. Assumes nothing.
use Rattle.std.proofs.Common.{[], ◌∷◌, sym, subst}
use Rattle.std.specs.Prelude.{Ok}
use Rattle.std.proofs.lemmas.Result.{err_from_is_err_and}
use Rattle.model.specs.Certificate.{gap}
use Rattle.model.specs.Walk.{wrote}
use Rattle.walk_write.specs.Writes.{Writes}
use Rattle.walk_write.proofs.Writing.{gap_on, gap_stopped}
use Rattle.walk_write.proofs.gap_to.Goals as goal

pub returns-in_err-bytes : goal.returns-in_err-bytes
returns-in_err-bytes c =
    let a = c.args in
    let p = err_from_is_err_and c.from_residual.result c.from_residual.ensures.1 in
    let e = c.in_err-bytes.ensures in
    rw (p.1, p.2)
    (gap_stopped a.w a.certificate.now c.write_gap.new.certificate a.last a.named c.in_err-bytes.field-0.0 c.requires.0 e.result e.bytes)

pub returns : goal.returns
returns c =
    let a = c.args in
    let e = c.in_ok-bytes.ensures in
    subst (λ x. Writes (wrote (gap a.w.floor a.last a.named) ∷ []) a.w a.certificate.now c.write_gap.new.certificate (Ok x)) (sym c.after_part.ensures)
    (gap_on a.w a.certificate.now c.write_gap.new.certificate a.last a.named c.in_ok-bytes.bytes c.requires.0 c.requires.1 e.result e.bytes)
