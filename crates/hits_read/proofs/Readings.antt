-- What a read comes to, by the tests of the code on its answer, and how reading goes on. Assumes nothing.
use borrow.Author.Tests.{ne_eqb}
use mathlib.Core.Bool.{true≢false}
use Rattle.std.proofs.Common.{◌≡◌, ◌≢◌, ℕ, zero, suc, ◌+◌, ◌-◌, ◌<◌, ◌≤◌, Bool, true, false, ℤ, pos, negsuc, List, length, Option, Some, None, Result, Ok, Err, Continue, Break, refl, sym, ap, ◌∙◌, arith}
use Rattle.std.proofs.lemmas.Bool.Decides.{Decides-int_eq}
use Rattle.std.specs.Io.{ReadsAtMost}
use Rattle.std.specs.IoError.{raw_os_error}
use Rattle.std.specs.Option.{option_eq}
use Rattle.std.specs.Ordering.{int_eq}
use Rattle.std.specs.declared.io.Error.{Error}
use Rattle.hits_read.specs.Reading.{Reading, bytes, ended, interrupted, failed, interrupts, error_reading, reading_of, step_after, Within}
use Rattle.hits_read.specs.declared.Received.{Received}

-- an error
error_interrupts : (errno : Option ℤ) → errno ≡ Some (pos 4) → error_reading errno ≡ interrupted
unfolding error_reading interrupts
error_interrupts errno e = ap error_reading e

error_fails : (errno : Option ℤ) → errno ≢ Some (pos 4) → error_reading errno ≡ failed
unfolding error_reading interrupts
error_fails None n = refl
error_fails (Some (pos e)) n = rw (ne_eqb e 4 (λ q. n (ap (λ (z : ℕ). Some (pos z)) q)), error_reading)
error_fails (Some (negsuc e)) n = refl

-- the code's test of an errno
pub is_interruption : (errno : Option ℤ) → true ≡ option_eq int_eq errno (Some (pos 4)) → errno ≡ Some (pos 4)
is_interruption None e = absurd (true≢false e)
is_interruption (Some z) e = ap Some ((Decides-int_eq z (pos 4)).0 (sym e))

pub no_interruption : (errno : Option ℤ) → false ≡ option_eq int_eq errno (Some (pos 4)) → errno ≢ Some (pos 4)
no_interruption errno e q = true≢false (sym (e ∙ ap (λ n. option_eq int_eq n (Some (pos 4))) q))

module _ {got : Result ℕ Error} {error : Error} (e : got ≡ Err error) where
  interruption : raw_os_error error ≡ Some (pos 4) → reading_of got ≡ interrupted
  unfolding reading_of
  interruption k = ap reading_of e ∙ error_interrupts (raw_os_error error) k

  failure : raw_os_error error ≢ Some (pos 4) → reading_of got ≡ failed
  unfolding reading_of
  failure n = ap reading_of e ∙ error_fails (raw_os_error error) n

-- ---- how reading goes on, by what a read answered

module _ (size tries : ℕ) (got : Result ℕ Error) where
  pub at_end : (n : ℕ) → got ≡ Ok n → n ≡ 0 → Break (record { size = size; failed = false }) ≡ step_after size tries (reading_of got)
  unfolding reading_of step_after
  at_end n e z = rw (e, z)

  pub more_bytes : (n : ℕ) → got ≡ Ok n → n ≢ 0 → Continue (size + n, tries) ≡ step_after size tries (reading_of got)
  unfolding reading_of step_after
  more_bytes zero e z = absurd (z refl)
  more_bytes (suc n) e z = rw e

  pub bytes_fit : (room n : ℕ) → got ≡ Ok n → n ≢ 0 → Within room (reading_of got) → n ≤ room
  unfolding reading_of
  bytes_fit room zero e z w = absurd (z refl)
  bytes_fit room (suc n) e z w = (rw e at w).1

  module _ {error : Error} (e : got ≡ Err error) where
    pub tried_again : raw_os_error error ≡ Some (pos 4) → 0 < tries → Continue (size, tries - 1) ≡ step_after size tries (reading_of got)
    unfolding step_after
    tried_again k h = by tries h ∙ ap (step_after size tries) (sym (interruption e k))
      where
        by : (tries : ℕ) → 0 < tries → Continue (size, tries - 1) ≡ step_after size tries interrupted
        by zero h = absurd (omega arith)
        by (suc tries) h = let q : suc tries - 1 ≡ tries = omega arith in ap (λ n. Continue (size, n)) q

    pub no_tries : raw_os_error error ≡ Some (pos 4) → tries ≡ 0 → Break (record { size = size; failed = true }) ≡ step_after size tries (reading_of got)
    unfolding step_after
    no_tries k z = ap (λ n. step_after size n interrupted) (sym z) ∙ ap (step_after size tries) (sym (interruption e k))

    pub read_failed : raw_os_error error ≢ Some (pos 4) → Break (record { size = size; failed = true }) ≡ step_after size tries (reading_of got)
    unfolding step_after
    read_failed n = ap (step_after size tries) (sym (failure e n))

-- ---- what a read may answer fits the buffer: as many bytes as were read, or an error

error_within : (room : ℕ) (errno : Option ℤ) → Within room (error_reading errno)
unfolding error_reading
error_within room None = tt
error_within room (Some errno) = by (interrupts errno)
  where
    by : (b : Bool) → Within room (elim b [ true ↦ interrupted | false ↦ failed ])
    by true = tt
    by false = tt

pub read_within : (room : ℕ) (got : Result ℕ Error) (buf : List ℕ) → length buf ≤ room → ReadsAtMost got buf → Within room (reading_of got)
unfolding reading_of
read_within room (Ok zero) buf h w = tt
read_within room (Ok (suc n)) buf h w = (omega arith, omega (arith, h, w.0))
read_within room (Err error) buf h w = error_within room (raw_os_error error)

-- Where reading goes on, the bytes have become more or the tries fewer, and what was read fits.
pub record Goes (room size tries next left : ℕ) : Type 0 where
  pub inside : next ≤ size + room
  pub further : size ≤ next
  pub falls : size + left < next + tries

pub goes_on : (room size tries next left : ℕ) (r : Reading) → Within room r → Continue (next, left) ≡ step_after size tries r → Goes room size tries next left
unfolding step_after
goes_on room size tries next left (bytes n) w e =
    let p : ◌≡◌ {A = ℕ × ℕ} (next, left) (size + n, tries) = cc in
    let i = ap (λ q. q.0) p in
    let j = ap (λ q. q.1) p in
    let k : 0 < n = w.0 in
    let l : n ≤ room = w.1 in
    record { inside = omega arith; further = omega arith; falls = omega arith }
goes_on room size tries next left ended w e = cc
goes_on room size zero next left interrupted w e = cc
goes_on room size (suc tries) next left interrupted w e =
    let p : ◌≡◌ {A = ℕ × ℕ} (next, left) (size, tries) = cc in
    let i = ap (λ q. q.0) p in
    let j = ap (λ q. q.1) p in
    record { inside = omega arith; further = omega arith; falls = omega arith }
goes_on room size tries next left failed w e = cc

-- where it is over, the bytes are those that were read before
pub over_size : (size tries : ℕ) (received : Received) (r : Reading) → Break received ≡ step_after size tries r → received.size ≡ size
unfolding step_after
over_size size tries received (bytes n) e = cc
over_size size tries received ended e = let p : received ≡ record { size = size; failed = false } = cc in ap (λ x. x.size) p
over_size size zero received interrupted e = let p : received ≡ record { size = size; failed = true } = cc in ap (λ x. x.size) p
over_size size (suc tries) received interrupted e = cc
over_size size tries received failed e = let p : received ≡ record { size = size; failed = true } = cc in ap (λ x. x.size) p
