-- `in_gaps` passes over the run along the certificate's parts: each field that is read lies in the certificate. Assumes nothing.
use Rattle.std.proofs.Common.{◌≡◌, ◌-◌, ◌<◌, List, ℕ, arith, drop, length, refl, rules}
use Rattle.std.specs.Prelude.{Ok}
use Rattle.std.proofs.lemmas.Result.{err_from_is_err_and}
use Rattle.field_read.proofs.Held.{held_unreadable, held_part, part_inside, next_part}
use Rattle.field_read.specs.Reading.{part_of, reading_of, EndsFrom}
use Rattle.field_read.specs.declared.Field.{Field}
use Rattle.model.proofs.Encoding.{size_pos}
use Rattle.model.specs.Certificate.{read_field}
use Rattle.query_difference.proofs.Passing.{passing_start, passing_end, passing_done, passing_gap, passing_full, passing_answer}
use Rattle.query_difference.proofs.in_gaps.Goals as goal

-- less of the certificate is left after a field
less : (certificate : List ℕ) (at : ℕ) (field : Field) → reading_of certificate (Ok field) ≡ read_field (drop at certificate) → EndsFrom at (Ok field)
    → length certificate - field.next < length certificate - at
less certificate at field e f =
    let s = size_pos (part_of field.part) in
    let i = part_inside certificate at e refl in
    let n = next_part (Ok field) field at refl f in
    omega arith

pub loop-place-init : goal.loop-place-init
loop-place-init c = passing_start _ _ _

pub returns-in_default : goal.returns-in_default
returns-in_default c =
    passing_end c.loop-place.invariant (held_unreadable c.args.certificate.now c.loop-place.at c.read_field.ensures.reading c.in_default.is)

pub copy_to-requires : goal.copy_to-requires
copy_to-requires c =
    let k = c.loop-place.invariant.kept in
    let w = k.within in
    let s = k.same in
    omega arith

pub returns-in_err-copied-in-Gap : goal.returns-in_err-copied-in-Gap
returns-in_err-copied-in-Gap c =
    let p = err_from_is_err_and c.from_residual.result c.from_residual.ensures.1 in
    let held = held_part c.args.certificate.now c.loop-place.at c.in-Ok.ensures.reading refl in
    rw (p.1, p.2) (passing_full c.loop-place.invariant c.in-Ok.field.next held c.in-Gap.is c.in_err-copied-in-Gap.ensures)

pub loop-place-smaller-in_ok-copied-in-Gap : goal.loop-place-smaller-in_ok-copied-in-Gap
loop-place-smaller-in_ok-copied-in-Gap c = less c.args.certificate.now c.loop-place.at c.in-Ok.field c.in-Ok.ensures.reading c.in-Ok.ensures.next

pub loop-place-preserved-in_ok-copied-in-Gap : goal.loop-place-preserved-in_ok-copied-in-Gap
loop-place-preserved-in_ok-copied-in-Gap c =
    let held = held_part c.args.certificate.now c.loop-place.at c.in-Ok.ensures.reading refl in
    passing_gap c.loop-place.invariant c.in-Ok.field.next held c.in-Gap.is c.in_ok-copied-in-Gap.ensures

pub loop-place-smaller : goal.loop-place-smaller
loop-place-smaller c = less c.args.certificate.now c.loop-place.at c.in-Ok.field c.in-Ok.ensures.reading c.in-Ok.ensures.next

pub loop-place-preserved : goal.loop-place-preserved
loop-place-preserved c =
    let held = held_part c.args.certificate.now c.loop-place.at c.in-Ok.ensures.reading refl in
    passing_answer c.loop-place.invariant c.in-Ok.field.next held c.in-Answer.is c.place_after-place.ensures

pub returns : goal.returns
returns c = passing_done c.loop-place.invariant (search rules)
