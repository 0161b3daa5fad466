-- The words of demand 3 that speak of positions and shapes, over document 01's "Exact geometry": a segment and what a point sees of it (plane/specs/Segment), a ring's segments (shapes/specs/Words).
-- Assumes nothing.
use Rattle.std.specs.Prelude.{◌*◌, ◌≤◌, ◌≡◌, true, false, ◌⊎◌, nat_abs}
use mathlib.Core.List.{Memᴰ}
use Rattle.plane.specs.declared.I32Point.{I32Point}
use Rattle.plane.specs.Segment.{seg}
use Rattle.shapes.specs.Shapes.{Ring, Polygon, Zone}
use Rattle.shapes.specs.Words.{ring_sides, on_any, counted, odd}

-- "each position in whole hundred-thousandths of a degree within 180 and 90 degrees"
pub record Position : Type 0 where
  pub at : I32Point
  pub longitude : nat_abs at.x ≤ 180 * 100_000
  pub latitude : nat_abs at.y ≤ 90 * 100_000

-- on a segment of the ring
abbrev pub OnRing : I32Point → Ring → Type 0
OnRing q r = on_any (seg q) (ring_sides r) ≡ true

-- "Not on any segment and an odd number counted: inside."
pub record Inside (q : I32Point) (r : Ring) : Type 0 where
  pub off : on_any (seg q) (ring_sides r) ≡ false
  pub odd_counted : odd (counted (seg q) (ring_sides r)) ≡ true

pub record InPolygon (q : I32Point) (g : Polygon) : Type 0 where
  -- "on or inside the outer ring"
  pub outer : OnRing q g.outer ⊎ Inside q g.outer
  -- "strictly inside none of that polygon's holes"
  pub holes : (r : Ring) → Memᴰ r g.holes → Inside q r → ⊥

-- "on or inside the outer ring of one of the zone's polygons, and strictly inside none of that polygon's holes"
pub record InZone (q : I32Point) (z : Zone) : Type 0 where
  pub polygon : Polygon
  pub its_own : Memᴰ polygon z.polygons
  pub within : InPolygon q polygon
