-- `read_field` meets its contract: the tag and the length decide which case of `read_field` holds. Assumes nothing.
use Rattle.std.proofs.Common.{arith, refl, sym, drop, length-drop}
use Rattle.model.specs.Certificate.{size_of}
use Rattle.field_read.specs.Reading.{part_of, reading_of, EndsFrom}
use Rattle.field_read.proofs.Reading.{field_short, field_body, answer_whole, gap_whole, nothing_read}
use Rattle.field_read.proofs.read_field.Goals as goal

pub returns-then-left-lt-HEAD_BYTES : goal.returns-then-left-lt-HEAD_BYTES
unfolding reading_of EndsFrom
returns-then-left-lt-HEAD_BYTES c =
    let a = c.args in
    let d = length-drop a.at a.certificate.now in
    record { reading = sym (field_short (drop a.at a.certificate.now) (omega arith)); next = refl }

pub returns-in-1-eq12 : goal.returns-in-1-eq12
unfolding part_of reading_of EndsFrom size_of
returns-in-1-eq12 c =
    let a = c.args in
    record {
      reading =
          rw (c.read_u32.ensures, c.read_u64.ensures, field_body a.certificate.now a.at (omega arith), c.in-1-eq12.is-0, ← c.read_u16.ensures, c.in-1-eq12.is-1)
          (sym (answer_whole a.certificate.now a.at (omega arith)));
      next = refl;
    }

pub returns-in-2-eq16 : goal.returns-in-2-eq16
unfolding part_of reading_of EndsFrom size_of
returns-in-2-eq16 c =
    let a = c.args in
    record {
      reading =
          rw (c.read_u32-in-2-eq16.ensures, c.read_u32-in-2-eq16-2.ensures, c.read_u64-in-2-eq16.ensures)
          (rw (field_body a.certificate.now a.at (omega arith), c.in-2-eq16.is-0, ← c.read_u16.ensures, c.in-2-eq16.is-1)
          (sym (gap_whole a.certificate.now a.at (omega arith))));
      next = refl;
    }

pub returns-in_default : goal.returns-in_default
unfolding reading_of EndsFrom
returns-in_default c =
    let a = c.args in
    record {
      reading = nothing_read a.certificate.now a.at _ (omega arith) c.read_u16.ensures (λ p q. omega arith) (λ p q. absurd (omega (arith, c.in-1-eq12.is-0)));
      next = refl;
    }

pub returns-in_default-2 : goal.returns-in_default-2
unfolding reading_of EndsFrom
returns-in_default-2 c =
    let a = c.args in
    record {
      reading =
          nothing_read a.certificate.now a.at _ (omega arith) c.read_u16.ensures (λ p q. absurd (c.in_default.is-1.1 q))
          (λ p q. absurd (omega (arith, c.in_default.is-0)));
      next = refl;
    }

pub returns-in_default-3 : goal.returns-in_default-3
unfolding reading_of EndsFrom
returns-in_default-3 c =
    let a = c.args in
    record {
      reading = nothing_read a.certificate.now a.at _ (omega arith) c.read_u16.ensures (λ p q. absurd (omega (arith, c.in-2-eq16.is-0))) (λ p q. omega arith);
      next = refl;
    }

pub returns-in_default-4 : goal.returns-in_default-4
unfolding reading_of EndsFrom
returns-in_default-4 c =
    let a = c.args in
    record {
      reading =
          nothing_read a.certificate.now a.at _ (omega arith) c.read_u16.ensures (λ p q. absurd (omega (arith, c.in_default.is-0)))
          (λ p q. absurd (c.in_default.is-1.1 q));
      next = refl;
    }

pub returns-in_default-5 : goal.returns-in_default-5
unfolding reading_of EndsFrom
returns-in_default-5 c =
    let a = c.args in
    record {
      reading =
          nothing_read a.certificate.now a.at _ (omega arith) c.read_u16.ensures (λ p q. absurd (c.in_default.is-0.0.1 p)) (λ p q. absurd (c.in_default.is-0.1 p));
      next = refl;
    }
