-- Document 01's boxes ("Port order", "Records"). A box of whole numbers that is asked about a point of floats compares as floats.
-- Assumes nothing.
use Rattle.std.specs.Prelude.{Bool, ◌&&◌, Float, ℤ}
use Rattle.std.specs.Float.{binary64}
use Rattle.std.specs.Float.Ieee.{le, lt, of_int}
use Rattle.std.specs.Int.Signed.{le_z}
use Rattle.plane.specs.declared.Point.{Point}
use Rattle.plane.specs.declared.I32Point.{I32Point}
use Rattle.plane.specs.Domain.{in_domain}
use Rattle.boxes.specs.declared.BBox.{BBox}

-- a coordinate as a float
abbrev pub float : ℤ → Float
float z = of_int binary64 z

-- from the least coordinate to the greatest, both with it
abbrev pub spans : ℤ → ℤ → Float → Bool
spans least greatest x = le (float least) x && le x (float greatest)

-- the point lies in the box, its sides with it
unfoldable pub contains : BBox → Point → Bool
contains b p = spans b.minx b.maxx p.x && spans b.miny b.maxy p.y

-- what lies in the box can matter to the ray from the point to greater x: the point is level with the box, and the box does not end left of the point
unfoldable pub relevant : BBox → Point → Bool
relevant b p = spans b.miny b.maxy p.y && le p.x (float b.maxx)

-- the box lies strictly to the right of the point
unfoldable pub right : BBox → Point → Bool
right b p = lt p.x (float b.minx)

-- the least x is at most the greatest, and the least y
unfoldable pub ordered : BBox → Bool
ordered b = le_z b.minx b.maxx && le_z b.miny b.maxy

-- its corner of the least coordinates, and that of the greatest
abbrev pub least : BBox → I32Point
least b = record { x = b.minx; y = b.miny }

abbrev pub greatest : BBox → I32Point
greatest b = record { x = b.maxx; y = b.maxy }

-- ordered, and within ±18,000,000 and ±9,000,000
unfoldable pub box_in_domain : BBox → Bool
box_in_domain b = ordered b && (in_domain (least b) && in_domain (greatest b))

-- the box covers the point
unfoldable pub in_box : BBox → I32Point → Bool
in_box b p = (le_z b.minx p.x && le_z p.x b.maxx) && (le_z b.miny p.y && le_z p.y b.maxy)
