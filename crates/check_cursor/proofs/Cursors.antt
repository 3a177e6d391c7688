-- A cursor's place and bin. Assumes nothing.
use Prim.Native.Nat.{ℕ, ◌+◌, ◌*◌, ◌/◌, ◌^◌, ◌<◌}
use lib.Bits.{bit_and, and_mask}
use mathlib.Core.Path.{◌≡◌, refl}
use native.Mathlib.Omega.{arith}
use Rattle.check_cursor.specs.Cursors.{cursor_places, place_of, bin_of}

-- ---- a cursor

pub place_at : (b p c : ℕ) → p < cursor_places → c ≡ b * cursor_places + p → place_of c ≡ p
unfolding place_of
place_at b p c h e = omega arith

pub bin_at : (b p c : ℕ) → p < cursor_places → c ≡ b * cursor_places + p → bin_of c ≡ b
unfolding bin_of
bin_at b p c h e = omega arith

-- found by a mask, and by a shift
pub place_is : (c : ℕ) → bit_and c 2097151 ≡ place_of c
unfolding place_of
place_is c = and_mask c 21

pub bin_is : (c : ℕ) → c / 2 ^ 21 ≡ bin_of c
unfolding bin_of
bin_is c = refl
