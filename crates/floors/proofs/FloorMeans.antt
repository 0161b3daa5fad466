-- What `floor_of` means: it is not above the float, and no greater whole number is. So it is at most each whole number that is not below the float.
-- Assumes nothing.
use Rattle.std.proofs.Common.{◌≡◌, ℕ, zero, suc, ◌*◌, ◌/◌, ◌<◌, ◌≤◌, Bool, true, false, ℤ, pos, negsuc, ◌*ℤ◌, neg_ℤ, refl, div-lt_iff_lt-mul, le-div_iff_mul-le, div-mul-le_self, arith, le-leb, leb-true}
use native.Mathlib.Nat.{lt-div-mul-add}
use mathlib.Core.Bool.{false≢true}
use lib.Signed.{le_z, shr_z}
use lib.Ieee.{Float, nan, inf, fin, up, down}
use lib.Ieee.Scale.{finite}
use lib.Ieee.Fits.{down_pos}
use Rattle.floors.specs.Floor.{signed, not_above, floor_of}

-- in whole numbers: z * d is at most n
module _ (d : ℕ) (p : 0 < d) where
  -- -(q + 1) * d and -(b + 1)
  minus_le : (x b : ℕ) → suc b ≤ x → le_z (neg_ℤ (pos x)) (negsuc b) ≡ true
  minus_le zero b h = absurd (omega arith)
  minus_le (suc x) b h = le-leb b x (omega arith)

  le_minus : (x b : ℕ) → le_z (neg_ℤ (pos x)) (negsuc b) ≡ true → suc b ≤ x
  le_minus zero b h = absurd (false≢true h)
  le_minus (suc x) b h = omega (arith, leb-true b x h)

  minus_most : (x b : ℕ) → le_z (negsuc b) (neg_ℤ (pos x)) ≡ true → x ≤ suc b
  minus_most zero b h = omega arith
  minus_most (suc x) b h = omega (arith, leb-true x b h)

  no_minus : (a x : ℕ) → le_z (pos a) (neg_ℤ (pos x)) ≡ true → x ≡ 0
  no_minus a zero h = refl
  no_minus a (suc x) h = absurd (false≢true h)

  at_most : (n : ℤ) → le_z (shr_z n d *ℤ pos d) n ≡ true
  at_most (pos a) = le-leb _ _ (div-mul-le_self a d)
  at_most (negsuc b) = minus_le (suc (b / d) * d) b (omega (arith, lt-div-mul-add {a = b} {b = d} p))

  most : (z n : ℤ) → le_z (z *ℤ pos d) n ≡ true → le_z z (shr_z n d) ≡ true
  most (pos c) (pos a) h = le-leb _ _ ((le-div_iff_mul-le p).1 (leb-true _ _ h))
  most (pos c) (negsuc b) h = absurd (false≢true h)
  most (negsuc c) (pos a) h = refl
  most (negsuc c) (negsuc b) h = le-leb (b / d) c (omega (arith, (div-lt_iff_lt-mul {k = d} {x = b} {y = suc c} p).1 (le_minus (suc c * d) b h)))

  least : (z n : ℤ) → le_z n (z *ℤ pos d) ≡ true → le_z (shr_z n d) z ≡ true
  least (pos c) (pos a) h =
      let l : a < suc c * d = omega (arith, leb-true a (c * d) h) in
      le-leb (a / d) c (omega (arith, (div-lt_iff_lt-mul {k = d} {x = a} {y = suc c} p).1 l))
  least (pos c) (negsuc b) h = refl
  least (negsuc c) (pos a) h = absurd (omega (arith, no_minus a (suc c * d) h))
  least (negsuc c) (negsuc b) h =
      let l : c * d ≤ b = omega (arith, minus_most (suc c * d) b h) in
      le-leb c (b / d) ((le-div_iff_mul-le p).1 l)

pub floor_not_above : (x : Float) → finite x ≡ true → not_above (floor_of x) x ≡ true
unfolding floor_of
floor_not_above nan h = absurd (false≢true h)
floor_not_above (inf s) h = absurd (false≢true h)
floor_not_above (fin s m e) h = at_most (down e) (down_pos e) (signed s (m * up e))

pub floor_greatest : (z : ℤ) (x : Float) → not_above z x ≡ true → le_z z (floor_of x) ≡ true
unfolding floor_of
floor_greatest z nan h = absurd (false≢true h)
floor_greatest z (inf s) h = absurd (false≢true h)
floor_greatest z (fin s m e) h = most (down e) (down_pos e) z (signed s (m * up e)) h

-- z is not below x
abbrev pub not_below : ℤ → Float → Bool
not_below z nan = false
not_below z (inf s) = false
not_below z (fin s m e) = le_z (signed s (m * up e)) (z *ℤ pos (down e))

pub floor_least : (z : ℤ) (x : Float) → not_below z x ≡ true → le_z (floor_of x) z ≡ true
unfolding floor_of
floor_least z nan h = absurd (false≢true h)
floor_least z (inf s) h = absurd (false≢true h)
floor_least z (fin s m e) h = least (down e) (down_pos e) z (signed s (m * up e)) h
