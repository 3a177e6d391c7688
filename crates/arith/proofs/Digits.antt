-- The binary digits of a number below 2 ^ w are w less its leading zeros. Assumes nothing.
use Prim.Native.Nat.{ℕ, suc, ◌-◌, ◌^◌, ◌≤◌, ◌<◌}
use lib.Count.{count_leading_zeros, leading_length}
use lib.Pow.{pow_mono}
use mathlib.Core.Logic.{⊎_elim}
use mathlib.Core.Path.{◌≡◌}
use native.Mathlib.Omega.{arith}
use Rattle.model.specs.Compared.{digits}
use Rattle.model.proofs.Digits.{digits_above, digits_least}
use Rattle.model.proofs.Tests.{lt_or_le}

pub digits_leading : (w n : ℕ) → n < 2 ^ w → w - count_leading_zeros w n ≡ digits n
digits_leading w n h =
    let t = leading_length w n h in
    let l = digits_least n t.0 t.2 in
    ⊎_elim
    (λ (q : digits n < t.0).
    let p = pow_mono {i = suc (digits n)} q in
    let a = digits_above n in
    absurd (omega (arith, t.3)))
    (λ (q : t.0 ≤ digits n). omega (arith, t.1))
    (lt_or_le (digits n) t.0)
