-- The walk that skips, as `timezone_contains`, `ring_contains` and the second half of `scan_group` have it, over shapes: for any tests of boxes, ends and segments, so for those in floats, which the reader makes, and for those in whole numbers.
-- Assumes nothing.
use Rattle.std.specs.Prelude.{Bool, true, false, not, ◌&&◌, cond, List, [], ◌∷◌, map}
use Rattle.std.specs.Int.Signed.{lt_z, le_z}
use Rattle.basics.specs.Parity.{◌⊻◌}
use Rattle.plane.specs.declared.Point.{Point}
use Rattle.plane.specs.declared.I32Point.{I32Point}
use Rattle.plane.specs.Sight.{Sight, Off}
use Rattle.plane.specs.Tally.{◌⊕◌, none, verdict}
use Rattle.plane.specs.Segment.{seg, above}
use Rattle.plane.specs.Lines.{some, last_from, chain, Stretch, around}
use Rattle.boxes.specs.declared.BBox.{BBox}
use Rattle.boxes.specs.Box as Box
use Rattle.rays.specs.Ray.{ray_of, above_of}
use Rattle.shapes.specs.Shapes.{Chunk, Group, Leg, Ring, Polygon, Zone, group_chunks, in_box}

-- what is asked at one point
pub record Tests : Type 0 where
  -- the box contains the point
  pub contains : BBox → Bool
  -- the ray from the point to greater x may meet what is in the box
  pub relevant : BBox → Bool
  -- the box is strictly to the right of the point
  pub right : BBox → Bool
  -- an end is above the point
  pub above : I32Point → Bool
  -- what the point sees of a segment
  pub seg : I32Point → I32Point → Sight

-- in floats, at any point: those of tzb_core
abbrev pub float_tests : Point → Tests
float_tests p =
    record {
      contains = λ b. Box.contains b p;
      relevant = λ b. Box.relevant b p;
      right = λ b. Box.right b p;
      above = above_of p;
      seg = λ a b. ray_of a b p;
    }

-- in whole numbers
abbrev pub whole_tests : I32Point → Tests
whole_tests p =
    record {
      contains = λ b. in_box b p;
      relevant = λ b. (le_z b.miny p.y && le_z p.y b.maxy) && le_z p.x b.maxx;
      right = λ b. lt_z p.x b.minx;
      above = above p;
      seg = seg p;
    }

-- where a chunk's part of the way ends: at the next chunk's first point, or at the group's exit
abbrev pub goal : I32Point → List Chunk → I32Point
goal exit [] = exit
goal exit (c ∷ cs) = c.first

module _ (t : Tests) where
  -- by two ends alone: whether one is above and the other is not
  abbrev pub parity : I32Point → I32Point → Sight
  parity a b = Off (t.above a ⊻ t.above b)

  -- from a chunk's last point to the next chunk's first
  abbrev pub joint : I32Point → List Chunk → Sight
  joint a [] = none
  joint a (c ∷ cs) = t.seg a c.first

  -- a chunk: nothing, by its ends alone, or through its segments and the joint
  unfoldable pub chunk_walk : I32Point → Chunk → List Chunk → Sight
  chunk_walk exit c cs =
      cond (t.relevant c.box)
      (cond (t.right c.box) (parity c.first (goal exit cs)) (chain t.seg c.first c.rest ⊕ joint (last_from c.first c.rest) cs))
      none

  unfoldable pub chunks_walk : I32Point → List Chunk → Sight
  chunks_walk exit [] = none
  chunks_walk exit (c ∷ cs) = chunk_walk exit c cs ⊕ chunks_walk exit cs

  -- a group: nothing, by its ends alone, or through its chunks
  unfoldable pub group_walk : Group → Sight
  group_walk g =
      cond (t.relevant g.box)
      (cond (t.right g.box) (parity g.entry g.exit) (chunks_walk g.exit (group_chunks g)))
      none

  -- a turned group is entered at its exit
  unfoldable pub leg_walk : Leg → Stretch
  leg_walk l =
      record {
        from = cond l.turned l.group.exit l.group.entry;
        to = cond l.turned l.group.entry l.group.exit;
        tally = group_walk l.group;
      }

  -- a point on an edge gets `edge`
  unfoldable pub ring_walk : Bool → Ring → Bool
  ring_walk edge r = t.contains r.box && verdict edge (around t.seg (map leg_walk r.legs))

  unfoldable pub polygon_walk : Polygon → Bool
  polygon_walk g = t.contains g.box && (ring_walk true g.outer && not (some (ring_walk false) g.holes))

  unfoldable pub zone_walk : Zone → Bool
  zone_walk z = t.contains z.box && some polygon_walk z.polygons
