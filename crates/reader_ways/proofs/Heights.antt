-- A point's height in the code's widths: the floor within the domain's heights, 0 outside.
-- Assumes nothing.
use Prim.Native.Nat.{◌≤◌}
use native.Mathlib.Omega.{arith}
use mathlib.Core.Path.{◌≡◌, refl, sym, ◌∙◌}
use mathlib.Core.Bool.{Bool, true, false, ◌&&◌}
use lib.IntN.{ℤ, pos, neg_ℤ, nat_abs}
use lib.Ieee.{Float, binary64, le, neg, of_bits, of_int}
use mir.Syntax.{w32, w64}
use mir.Val.{SFits, to_z, of_z}
use mir.ValLaws.{to_z-of_z}
use Rattle.basics.specs.Signed.{mag_le}
use Rattle.basics.specs.Truth.{and_l, and_r}
use Rattle.boxes.specs.Box.{spans}
use Rattle.floors.specs.Floor.{floor_of}
use Rattle.floors.specs.Steps.{Small}
use Rattle.floors.proofs.Compared.{between_small}
use Rattle.reader_ways.specs.Ways.{height_of}

-- the code's two comparisons
abbrev asked : Float → Bool
asked y = le (neg (of_bits binary64 4711093448810168320)) y && le y (of_bits binary64 4711093448810168320)

asked_is : (y : Float) → asked y ≡ spans (neg_ℤ (pos 9_000_000)) (pos 9_000_000) y
unfolding neg of_bits of_int
asked_is y = refl

pub height_small : (y : Float) → asked y ≡ true → Small y
height_small y h =
    let both = sym (asked_is y) ∙ h in
    let from = le (of_int binary64 (neg_ℤ (pos 9_000_000))) y in
    let upto = le y (of_int binary64 (pos 9_000_000)) in
    between_small (neg_ℤ (pos 9_000_000)) (pos 9_000_000) y (omega arith) (omega arith) (and_l from upto both) (and_r from upto both)

pub height_none : (y : Float) → asked y ≡ false → pos 0 ≡ height_of y
unfolding height_of
height_none y h = rw (sym (asked_is y) ∙ h)

-- a floor in 64 bits, made a number of 32
module _ (z : ℤ) (k : nat_abs z ≤ 9_000_001) where
  kept : to_z w64 (of_z w64 z) ≡ z
  kept = to_z-of_z w64 z (record { sfits = omega (arith, mag_le z) })

  narrow : SFits w32 z
  narrow = record { sfits = omega (arith, mag_le z) }

  pub height_fits : SFits w32 (to_z w64 (of_z w64 z))
  height_fits = rw kept narrow

  pub height_is : (y : Float) → asked y ≡ true → z ≡ floor_of y → to_z w32 (of_z w32 (to_z w64 (of_z w64 z))) ≡ height_of y
  unfolding height_of
  height_is y h e = rw (kept, to_z-of_z w32 z narrow, sym (asked_is y) ∙ h) e
