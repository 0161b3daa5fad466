-- Outlines worked through: those of Example's zone, a square whose hole and whose second polygon are turned round, and the triangle of document 02.
-- Assumes nothing.
use Rattle.std.specs.Prelude.{◌≡◌, refl, true, [], ◌∷◌, pos}
use Rattle.plane.specs.Segment.{same_point}
use Rattle.shapes.specs.Shapes.{Group, Zone}
use Rattle.shapes.specs.Outline.{ring_positions, swept, doubled_area, drawable, backwards, outline, outlines, zone_drawable}
use Rattle.shapes.specs.Example.{at, box, plain, zone}

-- the square as it is stored, each corner once; its hole backwards; the triangle beside it backwards
pub drawn : outlines zone
    ≡ ((at (pos 0) (pos 0) ∷ at (pos 20) (pos 0) ∷ at (pos 20) (pos 20) ∷ at (pos 0) (pos 20) ∷ at (pos 0) (pos 0) ∷ [])
    ∷ (at (pos 5) (pos 5) ∷ at (pos 5) (pos 15) ∷ at (pos 15) (pos 15) ∷ at (pos 15) (pos 5) ∷ at (pos 5) (pos 5) ∷ [])
    ∷ [])
    ∷ ((at (pos 30) (pos 10) ∷ at (pos 40) (pos 0) ∷ at (pos 40) (pos 20) ∷ at (pos 30) (pos 10) ∷ []) ∷ [])
    ∷ []
unfolding outlines outline backwards doubled_area swept ring_positions same_point
drawn = refl

pub can_be_drawn : zone_drawable zone ≡ true
unfolding zone_drawable drawable doubled_area swept ring_positions same_point
can_be_drawn = refl

-- "A triangle zone (0,0), (100,0), (0,100)"
abbrev pub corners : Group
corners =
    record {
      box = box (pos 0) (pos 0) (pos 100) (pos 100);
      entry = at (pos 0) (pos 0);
      exit = at (pos 0) (pos 100);
      head = record { box = box (pos 0) (pos 0) (pos 100) (pos 100); first = at (pos 0) (pos 0); rest = at (pos 100) (pos 0) ∷ at (pos 0) (pos 100) ∷ [] };
      tail = [];
    }

abbrev pub triangle : Zone
triangle =
    record {
      box = box (pos 0) (pos 0) (pos 100) (pos 100);
      polygons =
          record {
            box = box (pos 0) (pos 0) (pos 100) (pos 100);
            outer = record { box = box (pos 0) (pos 0) (pos 100) (pos 100); legs = plain corners ∷ [] };
            holes = [];
          }
          ∷ [];
    }

pub triangle_drawn : outlines triangle ≡ ((at (pos 0) (pos 0) ∷ at (pos 100) (pos 0) ∷ at (pos 0) (pos 100) ∷ at (pos 0) (pos 0) ∷ []) ∷ []) ∷ []
unfolding outlines outline backwards doubled_area swept ring_positions same_point
triangle_drawn = refl

pub triangle_can_be_drawn : zone_drawable triangle ≡ true
unfolding zone_drawable drawable doubled_area swept ring_positions same_point
triangle_can_be_drawn = refl
