-- Whole numbers in the code's widths: sums and differences that fit, and the last column or row of a grid.
-- Assumes nothing.
use Prim.Native.Nat.{ℕ, zero, suc, ◌+◌, ◌≤◌, ◌<◌, ◌^◌}
use native.Mathlib.Omega.{arith}
use mathlib.Core.Path.{◌≡◌, refl}
use lib.IntN.{ℤ, pos, negsuc, neg_ℤ, nat_abs, ◌+ℤ◌, ◌-ℤ◌}
use lib.Signed.{nat_abs-le}
use mir.Syntax.{Width, w16, w32}
use mir.Val.{SFits, to_z, of_z, hbits}
use mir.ValLaws.{to_z-of_z, to_z_pos}
use Rattle.basics.specs.Signed.{sum_abs, mag_le}
use Rattle.reader_grid.specs.Grid.{last_of}

neg_abs : (x : ℤ) → nat_abs (neg_ℤ x) ≡ nat_abs x
neg_abs (pos zero) = refl
neg_abs (pos (suc n)) = refl
neg_abs (negsuc n) = refl

pub minus_abs : (x y : ℤ) → nat_abs (x -ℤ y) ≤ nat_abs x + nat_abs y
minus_abs x y = omega (arith, sum_abs x (neg_ℤ y), neg_abs y)

-- a small number fits
pub near : (w : Width) (z : ℤ) → nat_abs z < 2 ^ hbits w → SFits w z
near w z h = record { sfits = omega (arith, mag_le z) }

-- an i16 made wider is the same number
module _ (w : Width) (z : ℤ) (k : 32_768 ≤ 2 ^ hbits w) (h : SFits w16 z) where
  pub widened : SFits w z
  widened = record { sfits = omega (arith, h.sfits) }

  pub wide_fits : SFits w (to_z w16 (of_z w16 z))
  wide_fits = rw (to_z-of_z w16 z h) widened

  pub wide_eq : to_z w (of_z w (to_z w16 (of_z w16 z))) ≡ z
  wide_eq = rw (to_z-of_z w16 z h) (to_z-of_z w z widened)

-- first + count - 1, in 32 bits
module _ (first : ℤ) (count : ℕ) (h : SFits w16 first) (k : count < 65_536) where
  wide_first : to_z w32 (of_z w32 (to_z w16 (of_z w16 first))) ≡ first
  wide_first = wide_eq w32 first (omega arith) h

  wide_count : to_z w32 count ≡ pos count
  wide_count = to_z_pos w32 count (omega arith)

  sum_small : nat_abs (first +ℤ pos count) ≤ 98_304
  sum_small = omega (arith, sum_abs first (pos count), nat_abs-le first h.sfits)

  sum_in : SFits w32 (first +ℤ pos count)
  sum_in = near w32 _ (omega (arith, sum_small))

  last_in_law : SFits w32 (last_of first count)
  last_in_law = near w32 _ (omega (arith, minus_abs (first +ℤ pos count) (pos 1), sum_small))

  pub sum_fits : SFits w32 (to_z w32 (of_z w32 (to_z w16 (of_z w16 first))) +ℤ to_z w32 count)
  sum_fits = rw (wide_first, wide_count) sum_in

  pub last_fits : SFits w32 (to_z w32 (of_z w32 (to_z w32 (of_z w32 (to_z w16 (of_z w16 first))) +ℤ to_z w32 count)) -ℤ pos 1)
  last_fits = rw (wide_first, wide_count, to_z-of_z w32 (first +ℤ pos count) sum_in) last_in_law

  pub last_is : to_z w32 (of_z w32 (to_z w32 (of_z w32 (to_z w32 (of_z w32 (to_z w16 (of_z w16 first))) +ℤ to_z w32 count)) -ℤ pos 1)) ≡ last_of first count
  last_is = rw (wide_first, wide_count, to_z-of_z w32 (first +ℤ pos count) sum_in) (to_z-of_z w32 (last_of first count) last_in_law)
