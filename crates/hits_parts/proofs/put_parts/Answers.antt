-- Each field that is read lies in the certificate, so less of it is left after the field. Assumes nothing.
use Rattle.std.proofs.Common.{refl, arith}
use Rattle.std.specs.Prelude.{Ok}
use Rattle.field_read.proofs.Held.{part_inside, next_part}
use Rattle.field_read.specs.Reading.{part_of}
use Rattle.model.proofs.Encoding.{size_pos}
use Rattle.hits_parts.proofs.Parts.{along_end, along_on}
use Rattle.hits_parts.proofs.put_parts.Goals as goal

pub loop-field-smaller : goal.loop-field-smaller
loop-field-smaller c =
    let field = c.in-Ok.field in
    let s = size_pos (part_of field.part) in
    let i = part_inside c.args.certificate.now c.loop-field.at c.in-Ok.ensures.reading refl in
    let n = next_part (Ok field) field c.loop-field.at refl c.in-Ok.ensures.next in
    omega arith

pub loop-field-preserved : goal.loop-field-preserved
loop-field-preserved c = along_on c.loop-field.invariant c.in-Ok.field c.in-Ok.ensures.reading c.put_part-place.ensures

pub returns : goal.returns
returns c = along_end c.loop-field.invariant c.read_field.ensures.reading c.in_default.is
