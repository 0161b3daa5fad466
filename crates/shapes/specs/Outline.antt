-- Document 02, request 2026-01: the outline of a ring as it is drawn: its positions, which way round they run, and which rings can be drawn.
-- Assumes nothing.
use Rattle.std.specs.Prelude.{Bool, true, false, not, ◌&&◌, cond, List, [], ◌∷◌, ◌++◌, map, reverse, length, leb, ℤ, pos, ◌+ℤ◌, ◌-ℤ◌, ◌*ℤ◌}
use Rattle.std.specs.Int.Signed.{lt_z}
use Rattle.basics.specs.Whole.{is_zero}
use Rattle.plane.specs.declared.I32Point.{I32Point}
use Rattle.plane.specs.Segment.{same_point}
use Rattle.plane.specs.Lines.{every, last_from, last_of}
use Rattle.shapes.specs.Shapes.{Ring, Polygon, Zone, leg_points}

-- ---- "Ring points follow ring order, groups turned where flagged;": `leg_points`, in Shapes
-- "an entry equal to the exit before it appears once,": a leg after the position a
abbrev pub after : I32Point → List I32Point → List I32Point
after a [] = []
after a (b ∷ r) = cond (same_point a b) r (b ∷ r)

-- the legs after the position a
abbrev pub legs_after : I32Point → List (List I32Point) → List I32Point
legs_after a [] = []
legs_after a (l ∷ ls) = after a l ++ legs_after (last_from a l) ls

abbrev pub strung : List (List I32Point) → List I32Point
strung [] = []
strung (l ∷ ls) = l ++ legs_after (last_of l) ls

-- "and the first position closes the ring, once."
abbrev pub closed : List I32Point → List I32Point
closed [] = []
closed (a ∷ r) = cond (same_point (last_from a r) a) (a ∷ r) (a ∷ r ++ (a ∷ []))

unfoldable pub ring_positions : Ring → List I32Point
ring_positions r = closed (strung (map leg_points r.legs))

-- ---- "the exact doubled area": the sum of x·y' - x'·y over neighbouring positions
unfoldable pub swept : I32Point → I32Point → ℤ
swept a b = a.x *ℤ b.y -ℤ b.x *ℤ a.y

abbrev pub area_from : I32Point → List I32Point → ℤ
area_from a [] = pos 0
area_from a (b ∷ r) = swept a b +ℤ area_from b r

unfoldable pub doubled_area : List I32Point → ℤ
doubled_area [] = pos 0
doubled_area (a ∷ r) = area_from a r

-- ---- "48 for a ring of under four positions, over 10,000, or zero area"
unfoldable pub drawable : List I32Point → Bool
drawable l = (leb 4 (length l) && leb (length l) 10_000) && not (is_zero (doubled_area l))

-- ---- "Outer rings run counterclockwise and holes clockwise by the sign of the exact doubled area, starting at the stored first point."
-- whether the positions of a ring, which may be a hole, are written from the first backwards
unfoldable pub backwards : Bool → List I32Point → Bool
backwards hole l = cond hole (lt_z (pos 0) (doubled_area l)) (lt_z (doubled_area l) (pos 0))

-- first and last position are the same, so a list that is turned round starts where it started
unfoldable pub outline : Bool → Ring → List I32Point
outline hole r = cond (backwards hole (ring_positions r)) (reverse (ring_positions r)) (ring_positions r)

-- ---- a zone: polygon by polygon, the outer ring, then the holes
unfoldable pub outlines : Zone → List (List (List I32Point))
outlines z = map (λ (p : Polygon). outline false p.outer ∷ map (outline true) p.holes) z.polygons

unfoldable pub zone_drawable : Zone → Bool
zone_drawable z = every (λ (p : Polygon). every (λ (r : Ring). drawable (ring_positions r)) (p.outer ∷ p.holes)) z.polygons
