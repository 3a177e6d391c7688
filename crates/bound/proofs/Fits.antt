-- One run's bound at 32 bits is small, for a number has at most 32 binary digits there. Assumes nothing.
use Prim.Native.Nat.{ℕ, ◌*◌, ◌^◌, ◌<◌}
use mathlib.Core.Bool.{Bool, true, false}
use native.Mathlib.Nat.{mul-le-mul_left}
use native.Mathlib.Omega.{arith}
use Rattle.model.specs.Compared.{bound_of}
use Rattle.model.specs.Runs.{one}
use Rattle.model.proofs.Digits.{digits_least}

pub bound_fits : (d n : ℕ) → d < 2 ^ 32 → n < 2 ^ 32 → bound_of d n < 2 ^ 38
unfolding bound_of
bound_fits d n hd hn = omega (arith, mul-le-mul_left (2 * d) (digits_least n 32 hn))

pub one_fits : (b : Bool) (d n : ℕ) → d < 2 ^ 32 → n < 2 ^ 32 → one b * bound_of d n < 2 ^ 38
unfolding one
one_fits true d n hd hn = let h = bound_fits d n hd hn in omega arith
one_fits false d n hd hn = omega arith
