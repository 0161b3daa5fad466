-- Nothing here need be believed: the code's own steps cite it, and no public promise does.
-- Assumes nothing.
use Rattle.std.specs.Prelude.{◌≡◌, ◌*◌, ◌≤◌, true, Float}
use Rattle.std.specs.Float.Ieee.Scale.{finite}
use Rattle.std.specs.Float.Ieee.Positive.{num, den}

-- a finite float of size at most 9,000,000: what the code's floor asks for
pub record Small (x : Float) : Type 0 where
  pub is_finite : finite x ≡ true
  pub small : num x ≤ 9_000_000 * den x
