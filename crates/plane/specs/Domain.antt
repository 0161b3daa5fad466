-- Document 01's domain of whole-number points: ±18,000,000 and ±9,000,000, hundred-thousandths of a degree.
-- Assumes nothing.
use Rattle.std.specs.Prelude.{ℕ, Bool, ◌&&◌, ℤ, pos, neg_ℤ}
use Rattle.std.specs.Int.Signed.{le_z}
use Rattle.plane.specs.declared.I32Point.{I32Point}

-- from -n to n
abbrev pub within : ℕ → ℤ → Bool
within n z = le_z (neg_ℤ (pos n)) z && le_z z (pos n)

unfoldable pub in_domain : I32Point → Bool
in_domain q = within 18_000_000 q.x && within 9_000_000 q.y
