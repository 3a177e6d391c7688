-- `step_after` tells how reading goes on after a read. Assumes nothing.
use Rattle.std.proofs.Common.{◌-◌, ◌^◌, sym, ap, ◌∙◌, arith}
use Rattle.std.specs.IoError.{raw_os_error}
use Rattle.hits_read.proofs.Readings.{at_end, more_bytes, bytes_fit, is_interruption, no_interruption, tried_again, no_tries, read_failed}
use Rattle.hits_read.proofs.step_after.Goals as goal
use Rattle.hits_read.proofs.step_after.Goals.{else-eq-via-then-eq+else-tries-gt0, else-eq-via-else-eq}

pub overflow_add-result : goal.overflow_add-result
overflow_add-result c =
    let z = rw c.in-Ok.is at c.in-Ok.n-test in
    let h = bytes_fit c.args.size c.args.tries c.args.got (2 ^ 64 - 1 - c.args.size) c.in-Ok.n c.in-Ok.is z.1 c.requires in
    record { fits = omega (arith, h, c.ranges.size.fits) }

pub returns-in-Ok-eq0 : goal.returns-in-Ok-eq0
returns-in-Ok-eq0 c = at_end c.args.size c.args.tries c.args.got c.in-Ok-eq0.field-0 c.in-Ok-eq0.is (sym c.in-Ok-eq0.field-0-is ∙ c.in-Ok-eq0.field-0-test)

pub returns-in-Ok : goal.returns-in-Ok
returns-in-Ok c =
    let z = rw c.in-Ok.is at c.in-Ok.n-test in
    more_bytes c.args.size c.args.tries c.args.got c.in-Ok.n c.in-Ok.is z.1

pub returns-then-tries-gt0 : goal.returns-then-tries-gt0
returns-then-tries-gt0 c =
    tried_again c.args.size c.args.tries c.args.got c.in-Err.is (sym (c.raw_os_error.ensures ∙ ap raw_os_error c.in-Err.error-is) ∙ is_interruption c.raw_os_error.result c.if-eq.ensures) c.if-tries-gt0.true

pub returns-else-eq : goal.returns-else-eq
returns-else-eq c =
    let q = c.raw_os_error.ensures ∙ ap raw_os_error c.in-Err.error-is in
    elim c.else-eq.branch [
      | else-eq-via-then-eq+else-tries-gt0 w ↦
          no_tries c.args.size c.args.tries c.args.got c.in-Err.is (sym q ∙ is_interruption c.raw_os_error.result w.if-eq.ensures) (omega (arith, w.if-tries-gt0.false))
      | else-eq-via-else-eq w ↦
          read_failed c.args.size c.args.tries c.args.got c.in-Err.is (λ e. no_interruption c.raw_os_error.result w.if-eq.ensures (q ∙ e))
    ]
