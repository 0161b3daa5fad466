-- Points by their numbers: one of whole numbers, one of floats, and the second made of the first.
-- Assumes nothing.
use Rattle.std.specs.Prelude.{ℤ, Float}
use Rattle.std.specs.Float.{binary64}
use Rattle.std.specs.Float.Ieee.{of_int}
use Rattle.plane.specs.declared.Point.{Point}
use Rattle.plane.specs.declared.I32Point.{I32Point}

abbrev pub point : ℤ → ℤ → I32Point
point x y = record { x = x; y = y }

abbrev pub position : Float → Float → Point
position x y = record { x = x; y = y }

-- both numbers made floats
abbrev pub point_of : I32Point → Point
point_of q = record { x = of_int binary64 q.x; y = of_int binary64 q.y }
