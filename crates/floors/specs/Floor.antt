-- The floor of a float: the greatest whole number not above it, in exact arithmetic. A finite float is numerator / 2^k.
-- Assumes nothing.
use Rattle.std.specs.Prelude.{ℕ, ◌*◌, Bool, true, false, ℤ, pos, ◌*ℤ◌, neg_ℤ, int_le, Float}
use Rattle.std.specs.Int.Signed.{shr_z}
use Rattle.std.specs.Float.{nan, inf, fin}
use Rattle.std.specs.Float.Ieee.{up, down}

-- the numerator of a finite float, with its sign
abbrev pub signed : Bool → ℕ → ℤ
signed false n = pos n
signed true n = neg_ℤ (pos n)

-- z is not above x
abbrev pub not_above : ℤ → Float → Bool
not_above z nan = false
not_above z (inf s) = false
not_above z (fin s m e) = int_le (z *ℤ pos (down e)) (signed s (m * up e))

-- numerator / denominator, rounded down; 0 where the float is not finite
unfoldable pub floor_of : Float → ℤ
floor_of nan = pos 0
floor_of (inf s) = pos 0
floor_of (fin s m e) = shr_z (signed s (m * up e)) (down e)
