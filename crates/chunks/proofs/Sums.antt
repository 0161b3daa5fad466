-- A sum of two i32 is an i64, and an i64 that passed both tests of 32 bits is an i32.
-- Assumes nothing.
use Prim.Native.Nat.{◌+◌}
use native.Mathlib.Omega.{arith}
use mathlib.Core.Path.{◌≡◌}
use mathlib.Core.Bool.{true}
use borrow.Author.Tests.{leb-true}
use lib.IntN.{ℤ, pos, negsuc, ◌+ℤ◌}
use lib.Signed.{le_z, nat_abs-le}
use mir.Syntax.{w32, w64}
use mir.Val.{SFits, to_z, of_z}
use mir.ValLaws.{to_z-of_z}
use Rattle.basics.specs.Truth.{and_l, and_r}
use Rattle.basics.specs.Signed.{sum_abs, mag_le}
use Rattle.chunks.specs.Delta.{fits32}

pub widen : {z : ℤ} → SFits w32 z → SFits w64 z
widen h = record { sfits = omega (arith, h.sfits) }

-- an i32 made an i64 is the same number
pub wide_eq : {a : ℤ} → SFits w32 a → to_z w64 (of_z w64 (to_z w32 (of_z w32 a))) ≡ a
wide_eq {a} h = rw (to_z-of_z w32 a h) (to_z-of_z w64 a (widen h))

pub sums_fit : {a b : ℤ} → SFits w32 a → SFits w32 b → SFits w64 (a +ℤ b)
sums_fit {a} {b} h k =
    record { sfits = omega (arith, mag_le (a +ℤ b), nat_abs-le a h.sfits, nat_abs-le b k.sfits, sum_abs a b) }

pub fits_small : (z : ℤ) → fits32 z ≡ true → SFits w32 z
unfolding fits32
fits_small (pos n) h = record { sfits = omega (arith, leb-true n 2147483647 (and_r (le_z (negsuc 2147483647) (pos n)) (le_z (pos n) (pos 2147483647)) h)) }
fits_small (negsuc n) h = record { sfits = omega (arith, leb-true n 2147483647 (and_l (le_z (negsuc 2147483647) (negsuc n)) (le_z (negsuc n) (pos 2147483647)) h)) }
