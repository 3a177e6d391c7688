-- What one read comes to, and how reading goes on after it (docs/SPECIFICATION.md, 'The program hits'). Definitions only.
use Rattle.std.specs.Prelude.{ℕ, zero, suc, ◌+◌, ◌≤◌, ◌<◌, Bool, true, false, eqb, ℤ, pos, negsuc, Option, Some, None, Result, Ok, Err}
use Rattle.std.specs.IoError.{raw_os_error}
use Rattle.std.specs.declared.io.Error.{Error}
use Rattle.std.specs.declared.ops.ControlFlow.{ControlFlow}
use Rattle.std.specs.declared.ops.ControlFlow.TheVariants.{Continue, Break}
use Rattle.hits_read.specs.declared.Received.{Received}

-- What one read comes to: so many bytes, at least one; the end of the input; an interruption before the first byte; a failure.
pub data Reading : Type 0 where
  bytes : (n : ℕ) → Reading
  ended : Reading
  interrupted : Reading
  failed : Reading

-- errno tells that a call was interrupted: its value is C's EINTR
unfoldable pub interrupts : ℤ → Bool
interrupts (pos e) = eqb e 4
interrupts (negsuc e) = false

-- What a read answered: the number of bytes that it put into the buffer, 0 at the end of the input; or an error, whose errno, if it has one, tells
-- whether it was only interrupted.
unfoldable pub error_reading : Option ℤ → Reading
error_reading (Some errno) = elim (interrupts errno) [ true ↦ interrupted | false ↦ failed ]
error_reading None = failed

unfoldable pub reading_of : Result ℕ Error → Reading
reading_of (Ok zero) = ended
reading_of (Ok (suc n)) = bytes (suc n)
reading_of (Err error) = error_reading (raw_os_error error)

-- A read that fails is not the end of the input. An interrupted read is tried again, so many times; the next one counts as failed. (Here: how reading goes
-- on after a read, which came after so many bytes and with so many tries left: with so many, or it is over after so many, and a read failed or none did.)
unfoldable pub step_after : ℕ → ℕ → Reading → ControlFlow Received (ℕ × ℕ)
step_after size tries (bytes n) = Continue (size + n, tries)
step_after size tries ended = Break (record { size = size; failed = false })
step_after size zero interrupted = Break (record { size = size; failed = true })
step_after size (suc tries) interrupted = Continue (size, tries)
step_after size tries failed = Break (record { size = size; failed = true })

-- The bytes that are read are at least one, and fit the buffer.
abbrev pub Within : ℕ → Reading → Type 0
Within room (bytes n) = (0 < n) × (n ≤ room)
Within room ended = Unit {0}
Within room interrupted = Unit {0}
Within room failed = Unit {0}
