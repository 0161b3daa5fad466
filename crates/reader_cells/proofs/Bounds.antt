-- The four comparisons of a position: they pass exactly where both numbers are finite and within ±180, ±90, and then both have a floor.
-- Assumes nothing.
use Prim.Native.Nat.{ℕ, ◌≤◌}
use native.Mathlib.Omega.{arith}
use mathlib.Core.Path.{◌≡◌, refl}
use mathlib.Core.Bool.{Bool, true, false, ◌&&◌}
use lib.IntN.{ℤ, pos, neg_ℤ}
use lib.Ieee.{Float, nan, inf, fin, binary64, lt, eq, le, of_int, of_bits, neg}
use lib.Ieee.Scale.{finite}
use Rattle.basics.specs.Truth.{and_l, and_r}
use Rattle.reader_cells.specs.Asked.{on_earth, in_range}
use Rattle.floors.specs.Steps.{Small}
use Rattle.floors.proofs.Flooring.{signed_abs}
use Rattle.floors.proofs.Compared.{between_small}

-- a number between two finite ones is finite
between_finite : (s t : Bool) (m n : ℕ) (e d : ℤ) (x : Float) →
    (le (fin s m e) x && le x (fin t n d)) ≡ (finite x && (le (fin s m e) x && le x (fin t n d)))
unfolding le lt eq
between_finite s t m n e d nan = refl
between_finite s t m n e d (inf true) = refl
between_finite s t m n e d (inf false) = refl
between_finite s t m n e d (fin r k i) = refl

pub within_180 : (x : Float) → (le (neg (of_bits binary64 4640537203540230144)) x && le x (of_bits binary64 4640537203540230144)) ≡ in_range 180 x
unfolding neg of_bits of_int
within_180 x = between_finite true false 45 45 (pos 2) (pos 2) x

pub within_90 : (x : Float) → (le (neg (of_bits binary64 4636033603912859648)) x && le x (of_bits binary64 4636033603912859648)) ≡ in_range 90 x
unfolding neg of_bits of_int
within_90 x = between_finite true false 45 45 (pos 1) (pos 1) x

-- a number in range has a floor
range_small : (bound : ℕ) (x : Float) → bound ≤ 9_000_000 → in_range bound x ≡ true → Small x
range_small bound x k h =
    let from = le (of_int binary64 (neg_ℤ (pos bound))) x in
    let upto = le x (of_int binary64 (pos bound)) in
    let both = and_r (finite x) (from && upto) h in
    between_small (neg_ℤ (pos bound)) (pos bound) x (omega (arith, signed_abs true bound)) k (and_l from upto both) (and_r from upto both)

-- a position on earth has floors
module _ (lng lat : Float) (h : on_earth lng lat ≡ true) where
  pub lng_small : Small lng
  unfolding on_earth
  lng_small = range_small 180 lng (omega arith) (and_l (in_range 180 lng) (in_range 90 lat) h)

  pub lat_small : Small lat
  unfolding on_earth
  lat_small = range_small 90 lat (omega arith) (and_r (in_range 180 lng) (in_range 90 lat) h)
