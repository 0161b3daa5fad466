-- A zone as a file lays it out, what it means, and the rules on its boxes: document 01, "Exact geometry" and "What the full check demands". The meaning looks at points alone: no box, and no stored entry or exit, has a say in it.
-- Assumes nothing.
use Rattle.std.specs.Prelude.{Bool, true, false, not, ◌&&◌, cond, List, [], ◌∷◌, ◌++◌, map, reverse}
use Rattle.std.specs.Int.Signed.{le_z}
use Rattle.plane.specs.declared.I32Point.{I32Point}
use Rattle.plane.specs.Sight.{Sight}
use Rattle.plane.specs.Tally.{verdict}
use Rattle.plane.specs.Domain.{in_domain}
use Rattle.plane.specs.Lines.{every, some, first_of, last_of, ring_tally}
use Rattle.boxes.specs.declared.BBox.{BBox}
use Rattle.boxes.specs.Box.{box_in_domain}
use Rattle.plane.specs.Segment.{same_point}
unfoldable pub use Rattle.boxes.specs.Box.{in_box}

-- ---- the shapes
-- a box, and at least one point
pub record Chunk : Type 0 where
  pub box : BBox
  pub first : I32Point
  pub rest : List I32Point

-- a box, where it is entered and left, and at least one chunk
pub record Group : Type 0 where
  pub box : BBox
  pub entry : I32Point
  pub exit : I32Point
  pub head : Chunk
  pub tail : List Chunk

-- a ring op: a group, perhaps turned round
pub record Leg : Type 0 where
  pub turned : Bool
  pub group : Group

pub record Ring : Type 0 where
  pub box : BBox
  pub legs : List Leg

-- "A polygon's first ring is its outer ring, its others are its holes."
pub record Polygon : Type 0 where
  pub box : BBox
  pub outer : Ring
  pub holes : List Ring

pub record Zone : Type 0 where
  pub box : BBox
  pub polygons : List Polygon

-- ---- the exact meaning
abbrev pub chunk_points : Chunk → List I32Point
chunk_points c = c.first ∷ c.rest

abbrev pub points : List Chunk → List I32Point
points [] = []
points (c ∷ cs) = chunk_points c ++ points cs

abbrev pub group_chunks : Group → List Chunk
group_chunks g = g.head ∷ g.tail

abbrev pub group_points : Group → List I32Point
group_points g = points (group_chunks g)

-- "The top bit of an op turns its group round."
abbrev pub leg_points : Leg → List I32Point
leg_points l = cond l.turned (reverse (group_points l.group)) (group_points l.group)

-- for a test of segments, as `seg p` of plane/specs/Segment for the point p
module _ (seg : I32Point → I32Point → Sight) where
  -- "A ring's segments: those between neighbouring points of each group, and one from each exit to the next entry, round to the start, wherever the two differ": `ring_tally`, in plane/specs/Lines.
  -- "Not on any segment and an odd number counted: inside." On a segment: `edge`.
  unfoldable pub ring_in : Bool → Ring → Bool
  ring_in edge r = verdict edge (ring_tally seg (map leg_points r.legs))

  -- as `timezone_contains` has it: in the outer ring or on its edge, and inside no hole; a hole's edge is no part of the hole
  unfoldable pub polygon_in : Polygon → Bool
  polygon_in g = ring_in true g.outer && not (some (ring_in false) g.holes)

  -- in some polygon of the zone
  unfoldable pub zone_in : Zone → Bool
  zone_in z = some polygon_in z.polygons

-- ---- the rules F4 to F6
-- the box b covers the box c
unfoldable pub covers : BBox → BBox → Bool
covers b c = (le_z b.minx c.minx && le_z c.maxx b.maxx) && (le_z b.miny c.miny && le_z c.maxy b.maxy)

-- the first point of the next chunk, if there is one
abbrev pub next : List Chunk → List I32Point
next [] = []
next (c ∷ cs) = c.first ∷ []

-- "F4 Each chunk's box covers its points and, within a group, the next chunk's first."
unfoldable pub chunks_fit : List Chunk → Bool
chunks_fit [] = true
chunks_fit (c ∷ cs) = every (in_box c.box) (chunk_points c ++ next cs) && chunks_fit cs

-- "F5 Each group's box covers its chunks' boxes; entry and exit are its first and last point."
unfoldable pub group_fits : Group → Bool
group_fits g =
    every (λ c. covers g.box c.box) (group_chunks g)
    && same_point g.entry (first_of (group_points g))
    && same_point g.exit (last_of (group_points g))

-- "F6 Each ring's box covers its groups', each polygon's its rings', each zone's its polygons'." Each line has the box above it, and all that lies below.
unfoldable pub leg_fits : BBox → Leg → Bool
leg_fits b l = covers b l.group.box && chunks_fit (group_chunks l.group) && group_fits l.group

unfoldable pub ring_fits : BBox → Ring → Bool
ring_fits b r = covers b r.box && every (leg_fits r.box) r.legs

unfoldable pub polygon_fits : BBox → Polygon → Bool
polygon_fits b g = covers b g.box && every (ring_fits g.box) (g.outer ∷ g.holes)

unfoldable pub zone_fits : Zone → Bool
zone_fits z = every (polygon_fits z.box) z.polygons

-- ---- within the domain: every box and every point
unfoldable pub chunk_in_domain : Chunk → Bool
chunk_in_domain c = box_in_domain c.box && every in_domain (chunk_points c)

unfoldable pub group_in_domain : Group → Bool
group_in_domain g = box_in_domain g.box && in_domain g.entry && in_domain g.exit && every chunk_in_domain (group_chunks g)

unfoldable pub leg_in_domain : Leg → Bool
leg_in_domain l = group_in_domain l.group

unfoldable pub ring_in_domain : Ring → Bool
ring_in_domain r = box_in_domain r.box && every leg_in_domain r.legs

unfoldable pub polygon_in_domain : Polygon → Bool
polygon_in_domain g = box_in_domain g.box && every ring_in_domain (g.outer ∷ g.holes)

unfoldable pub zone_in_domain : Zone → Bool
zone_in_domain z = box_in_domain z.box && every polygon_in_domain z.polygons
