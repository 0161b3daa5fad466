-- The tests in whole numbers keep the four laws, so the walk that skips is exact by them, at every point.
-- Assumes nothing.
use mathlib.Core.Path.{◌≡◌, refl}
use mathlib.Core.Bool.{Bool, true, false, not, ◌&&◌, true≢false}
use lib.Signed.{lt_z, le_z}
use Rattle.basics.specs.Parity.{◌⊻◌}
use Rattle.basics.specs.Whole.{le_not_lt, lt_le, le_lt, not_le_lt}
use Rattle.plane.specs.declared.I32Point.{I32Point}
use Rattle.plane.specs.Sight.{Off}
use Rattle.plane.specs.Tally.{none}
use Rattle.plane.specs.Segment.{seg, above}
use Rattle.plane.proofs.Turns.{seg_swap, seg_left, seg_right, seg_under, seg_over}
use Rattle.boxes.specs.declared.BBox.{BBox}
use Rattle.shapes.specs.Shapes.{Zone, in_box, zone_fits, zone_in}
use Rattle.shapes.specs.Walk.{whole_tests, zone_walk}
use Rattle.shapes.proofs.Sound.{sides, Laws, zone_walk_law}

module _ (p : I32Point) (b : BBox) (q r : I32Point) (i : in_box b q ≡ true) (j : in_box b r ≡ true) where
  q_in : (le_z b.minx q.x ≡ true) × (le_z q.x b.maxx ≡ true) × (le_z b.miny q.y ≡ true) × (le_z q.y b.maxy ≡ true)
  unfolding in_box
  q_in = sides (le_z b.minx q.x) (le_z q.x b.maxx) (le_z b.miny q.y) (le_z q.y b.maxy) i

  r_in : (le_z b.minx r.x ≡ true) × (le_z r.x b.maxx ≡ true) × (le_z b.miny r.y ≡ true) × (le_z r.y b.maxy ≡ true)
  unfolding in_box
  r_in = sides (le_z b.minx r.x) (le_z r.x b.maxx) (le_z b.miny r.y) (le_z r.y b.maxy) j

  is_apart : lt_z p.x b.minx ≡ true → seg p q r ≡ Off (above p q ⊻ above p r)
  is_apart h = seg_left p q r (lt_le p.x b.minx q.x h q_in.0) (lt_le p.x b.minx r.x h r_in.0)

  is_aside : le_z b.miny p.y && le_z p.y b.maxy && le_z p.x b.maxx ≡ false → seg p q r ≡ none
  is_aside = go (le_z b.miny p.y) (le_z p.y b.maxy) (le_z p.x b.maxx) refl refl refl
    where
      go : (u v w : Bool) → le_z b.miny p.y ≡ u → le_z p.y b.maxy ≡ v → le_z p.x b.maxx ≡ w → u && v && w ≡ false → seg p q r ≡ none
      go false v w l m n h = let o = not_le_lt b.miny p.y l in seg_over p q r (lt_le p.y b.miny q.y o q_in.2) (lt_le p.y b.miny r.y o r_in.2)
      go true false w l m n h = let o = not_le_lt p.y b.maxy m in seg_under p q r (le_lt q.y b.maxy p.y q_in.3 o) (le_lt r.y b.maxy p.y r_in.3 o)
      go true true false l m n h = let o = not_le_lt p.x b.maxx n in seg_right p q r (le_lt q.x b.maxx p.x q_in.1 o) (le_lt r.x b.maxx p.x r_in.1 o)
      go true true true l m n h = absurd (true≢false h)

is_inside : (p : I32Point) (b : BBox) → in_box b p ≡ (le_z b.miny p.y && le_z p.y b.maxy && le_z p.x b.maxx && not (lt_z p.x b.minx))
unfolding in_box
is_inside p b = rw (le_not_lt b.minx p.x) (turned (not (lt_z p.x b.minx)) (le_z p.x b.maxx) (le_z b.miny p.y && le_z p.y b.maxy))
  where
    turned : (u v w : Bool) → u && v && w ≡ w && v && u
    turned true true true = refl
    turned true true false = refl
    turned true false true = refl
    turned true false false = refl
    turned false true true = refl
    turned false true false = refl
    turned false false true = refl
    turned false false false = refl

pub whole_laws : (p : I32Point) → Laws (whole_tests p)
whole_laws p =
    record {
      swap = seg_swap p;
      inside = is_inside p;
      aside = λ b q r h i j. is_aside p b q r i j h;
      apart = λ b q r h i j. is_apart p b q r i j h;
    }

-- THE THEOREM: for every zone whose boxes fit, and every point of whole numbers
pub skips_are_exact : (p : I32Point) (z : Zone) → zone_fits z ≡ true → zone_walk (whole_tests p) z ≡ zone_in (seg p) z
skips_are_exact p z f = zone_walk_law (whole_tests p) (whole_laws p) z f
