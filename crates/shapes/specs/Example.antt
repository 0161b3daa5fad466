-- A zone worked through: a square of 20 with a square hole, from two groups, one of them turned and one of two chunks, and a triangle to its right whose groups do not meet. The boxes fit; the meaning and the walk answer as drawn.
-- Assumes nothing.
use Rattle.std.specs.Prelude.{Bool, true, false, List, [], ◌∷◌, T, ℤ, pos, negsuc}
use Rattle.std.specs.Bool.{beq}
use Rattle.plane.specs.declared.I32Point.{I32Point}
use Rattle.plane.specs.Segment.{cross, amid_z, on_z, counts_z, seg, above, same_point}
use Rattle.plane.specs.Domain.{in_domain}
use Rattle.plane.specs.Lines.{every}
use Rattle.boxes.specs.declared.BBox.{BBox}
use Rattle.boxes.specs.Box.{ordered, box_in_domain}
use Rattle.shapes.specs.Shapes.{Group, Leg, Zone, in_box, covers, chunks_fit, group_fits, leg_fits, ring_fits, polygon_fits, zone_fits, ring_in, polygon_in, zone_in, chunk_in_domain, group_in_domain, leg_in_domain, ring_in_domain, polygon_in_domain, zone_in_domain}
use Rattle.shapes.specs.Walk.{whole_tests, chunk_walk, chunks_walk, group_walk, leg_walk, ring_walk, polygon_walk, zone_walk}

abbrev pub at : ℤ → ℤ → I32Point
at x y = record { x = x; y = y }

abbrev pub box : ℤ → ℤ → ℤ → ℤ → BBox
box a b c d = record { minx = a; miny = b; maxx = c; maxy = d }

-- (0,0) (20,0) | (20,20): the first chunk's box reaches to the second chunk's point
abbrev pub lower : Group
lower =
    record {
      box = box (pos 0) (pos 0) (pos 20) (pos 20);
      entry = at (pos 0) (pos 0);
      exit = at (pos 20) (pos 20);
      head = record { box = box (pos 0) (pos 0) (pos 20) (pos 20); first = at (pos 0) (pos 0); rest = at (pos 20) (pos 0) ∷ [] };
      tail = record { box = box (pos 20) (pos 20) (pos 20) (pos 20); first = at (pos 20) (pos 20); rest = [] } ∷ [];
    }

-- (0,0) (0,20) (20,20), to be turned
abbrev pub upper : Group
upper =
    record {
      box = box (pos 0) (pos 0) (pos 20) (pos 20);
      entry = at (pos 0) (pos 0);
      exit = at (pos 20) (pos 20);
      head = record { box = box (pos 0) (pos 0) (pos 20) (pos 20); first = at (pos 0) (pos 0); rest = at (pos 0) (pos 20) ∷ at (pos 20) (pos 20) ∷ [] };
      tail = [];
    }

-- closed by a link from its exit to its entry
abbrev pub inner : Group
inner =
    record {
      box = box (pos 5) (pos 5) (pos 15) (pos 15);
      entry = at (pos 5) (pos 5);
      exit = at (pos 5) (pos 15);
      head = record { box = box (pos 5) (pos 5) (pos 15) (pos 15); first = at (pos 5) (pos 5); rest = at (pos 15) (pos 5) ∷ at (pos 15) (pos 15) ∷ at (pos 5) (pos 15) ∷ [] };
      tail = [];
    }

-- one point of the triangle, and two: all three sides but one are links
abbrev pub apex : Group
apex =
    record {
      box = box (pos 30) (pos 10) (pos 30) (pos 10);
      entry = at (pos 30) (pos 10);
      exit = at (pos 30) (pos 10);
      head = record { box = box (pos 30) (pos 10) (pos 30) (pos 10); first = at (pos 30) (pos 10); rest = [] };
      tail = [];
    }

abbrev pub side : Group
side =
    record {
      box = box (pos 40) (pos 0) (pos 40) (pos 20);
      entry = at (pos 40) (pos 0);
      exit = at (pos 40) (pos 20);
      head = record { box = box (pos 40) (pos 0) (pos 40) (pos 20); first = at (pos 40) (pos 0); rest = at (pos 40) (pos 20) ∷ [] };
      tail = [];
    }

abbrev pub plain : Group → Leg
plain g = record { turned = false; group = g }

abbrev pub turn : Group → Leg
turn g = record { turned = true; group = g }

abbrev pub zone : Zone
zone =
    record {
      box = box (pos 0) (pos 0) (pos 40) (pos 20);
      polygons =
          record {
            box = box (pos 0) (pos 0) (pos 20) (pos 20);
            outer = record { box = box (pos 0) (pos 0) (pos 20) (pos 20); legs = plain lower ∷ turn upper ∷ [] };
            holes = record { box = box (pos 5) (pos 5) (pos 15) (pos 15); legs = plain inner ∷ [] } ∷ [];
          }
          ∷ record {
            box = box (pos 30) (pos 0) (pos 40) (pos 20);
            outer = record { box = box (pos 30) (pos 0) (pos 40) (pos 20); legs = plain apex ∷ turn side ∷ [] };
            holes = [];
          }
          ∷ [];
    }

pub fits : T (zone_fits zone)
unfolding zone_fits polygon_fits ring_fits leg_fits group_fits chunks_fit covers in_box same_point
fits = tt

pub lies_within : T (zone_in_domain zone)
unfolding zone_in_domain polygon_in_domain ring_in_domain leg_in_domain group_in_domain chunk_in_domain box_in_domain ordered in_domain
lies_within = tt

pub record Row : Type 0 where
  pub p : I32Point
  pub answer : Bool

abbrev pub rows : List Row
rows =
    record { p = at (pos 1) (pos 1); answer = true }
    ∷ record { p = at (pos 10) (pos 10); answer = false }
    ∷ record { p = at (pos 5) (pos 10); answer = true }
    ∷ record { p = at (pos 0) (pos 10); answer = true }
    ∷ record { p = at (pos 20) (pos 20); answer = true }
    ∷ record { p = at (pos 17) (pos 10); answer = true }
    ∷ record { p = at (pos 25) (pos 10); answer = false }
    ∷ record { p = at (pos 30) (pos 10); answer = true }
    ∷ record { p = at (pos 35) (pos 10); answer = true }
    ∷ record { p = at (pos 35) (pos 15); answer = true }
    ∷ record { p = at (pos 34) (pos 15); answer = false }
    ∷ record { p = at (pos 40) (pos 20); answer = true }
    ∷ record { p = at (negsuc 0) (pos 0); answer = false }
    ∷ record { p = at (pos 21) (pos 20); answer = false }
    ∷ []

pub meant : T (every (λ (r : Row). beq (zone_in (seg r.p) zone) r.answer) rows)
unfolding zone_in polygon_in ring_in seg on_z counts_z amid_z cross same_point
meant = tt

pub walked : T (every (λ (r : Row). beq (zone_walk (whole_tests r.p) zone) r.answer) rows)
unfolding zone_walk polygon_walk ring_walk leg_walk group_walk chunks_walk chunk_walk in_box above seg on_z counts_z amid_z cross same_point
walked = tt
