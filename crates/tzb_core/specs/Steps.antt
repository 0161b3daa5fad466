-- Nothing here need be believed: the code's own steps cite it, and no public promise does.
-- Assumes nothing.
use Rattle.std.specs.Prelude.{◌≡◌, ◌≤◌, Bool, true, ◌&&◌, ◌||◌, ℤ, int_lt, unsigned_abs, Float}
use Rattle.plane.specs.declared.I32Point.{I32Point}
use Rattle.std.specs.Float.Ieee.{lt}
use Rattle.boxes.specs.Box.{float}
use Rattle.tzb_core.specs.declared.chunk.Band.{Band}

-- of the heights of the domain, one below `lo` is below y, and one above `hi` is above it
abbrev pub Around : Band → Float → Type 0
Around b y =
    (z : ℤ) → unsigned_abs z ≤ 9_000_000
    → (int_lt z b.lo ≡ true → lt (float z) y ≡ true) × (int_lt b.hi z ≡ true → lt y (float z) ≡ true)

abbrev pub both_below : ℤ → ℤ → ℤ → Bool
both_below u v lo = int_lt u lo && int_lt v lo

abbrev pub both_above : ℤ → ℤ → ℤ → Bool
both_above u v hi = int_lt hi u && int_lt hi v

-- the ends differ in height, and both are below `lo` or both above `hi`: the ray test sees nothing of such a segment (`skips`, in proofs/Skips)
unfoldable pub aside : Band → I32Point → I32Point → Bool
aside b u v =
    (int_lt u.y v.y || int_lt v.y u.y)
    && (both_below u.y v.y b.lo || both_above u.y v.y b.hi)
