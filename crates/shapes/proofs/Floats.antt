-- THE THEOREM of document 01's "Exact geometry" for one zone: the walk in floats, skips and all, says at every whole-number point of the domain what the zone means.
-- Assumes nothing.
use Prim.Native.Nat.{◌≤◌}
use native.Mathlib.Nat.{le_trans}
use mathlib.Core.Path.{◌≡◌, ap₂, ◌∙◌}
use mathlib.Core.Bool.{true, ◌&&◌}
use lib.Dec.{lit≤}
use lib.IntN.{ℤ, nat_abs}
use Rattle.basics.specs.Truth.{and_l, and_r}
use Rattle.plane.specs.declared.I32Point.{I32Point}
use Rattle.plane.specs.Segment.{seg}
use Rattle.plane.specs.Domain.{in_domain}
use Rattle.boxes.specs.declared.BBox.{BBox}
use Rattle.boxes.specs.Box.{contains, relevant, right, ordered, least, greatest, box_in_domain}
use Rattle.rays.proofs.Order.{le_float, lt_float, above_float}
use Rattle.rays.proofs.Exact.{ray_exact}
use Rattle.shapes.specs.Shapes.{Zone, in_box, zone_fits, zone_in_domain, zone_in}
use Rattle.shapes.specs.Walk.{float_tests, whole_tests, zone_walk}
use Rattle.shapes.proofs.Whole.{skips_are_exact}
use Rattle.shapes.proofs.Agree.{Agree, zone_agree}
use Rattle.plane.specs.Places.{point_of}
use Rattle.plane.proofs.DomainLaws.{domain_x, domain_y}

abbrev Near : ℤ → Type 0
Near z = nat_abs z ≤ 18_000_000

near_y : (p : I32Point) → in_domain p ≡ true → Near p.y
near_y p h = le_trans (domain_y p h) (lit≤ tt)

-- the corners of a box in the domain
least_in : (b : BBox) → box_in_domain b ≡ true → in_domain (least b) ≡ true
unfolding box_in_domain
least_in b h = and_l (in_domain (least b)) (in_domain (greatest b)) (and_r (ordered b) (in_domain (least b) && in_domain (greatest b)) h)

greatest_in : (b : BBox) → box_in_domain b ≡ true → in_domain (greatest b) ≡ true
unfolding box_in_domain
greatest_in b h = and_r (in_domain (least b)) (in_domain (greatest b)) (and_r (ordered b) (in_domain (least b) && in_domain (greatest b)) h)

module _ (p : I32Point) (n : in_domain p ≡ true) where
  px : Near p.x
  px = domain_x p n

  py : Near p.y
  py = near_y p n

  -- ---- a box, side by side
  module _ (b : BBox) (h : box_in_domain b ≡ true) where
    contains_whole : contains b (point_of p) ≡ in_box b p
    unfolding contains in_box
    contains_whole =
        ap₂ ◌&&◌
        (ap₂ ◌&&◌ (le_float b.minx p.x (domain_x (least b) (least_in b h)) px) (le_float p.x b.maxx px (domain_x (greatest b) (greatest_in b h))))
        (ap₂ ◌&&◌ (le_float b.miny p.y (near_y (least b) (least_in b h)) py) (le_float p.y b.maxy py (near_y (greatest b) (greatest_in b h))))

    relevant_whole : relevant b (point_of p) ≡ (whole_tests p).relevant b
    unfolding relevant
    relevant_whole =
        ap₂ ◌&&◌
        (ap₂ ◌&&◌ (le_float b.miny p.y (near_y (least b) (least_in b h)) py) (le_float p.y b.maxy py (near_y (greatest b) (greatest_in b h))))
        (le_float p.x b.maxx px (domain_x (greatest b) (greatest_in b h)))

    right_whole : right b (point_of p) ≡ (whole_tests p).right b
    unfolding right
    right_whole = lt_float p.x b.minx px (domain_x (least b) (least_in b h))

  -- ---- the tests in floats agree with those in whole numbers
  pub float_agrees : Agree (float_tests (point_of p)) (whole_tests p)
  float_agrees =
      record {
        contains = contains_whole;
        relevant = relevant_whole;
        right = right_whole;
        above = λ a h. above_float p a n h;
        seg = λ a b h k. ray_exact a b p h k n;
      }

  pub float_walk_exact : (z : Zone) → zone_in_domain z ≡ true → zone_fits z ≡ true → zone_walk (float_tests (point_of p)) z ≡ zone_in (seg p) z
  float_walk_exact z h f = zone_agree (float_tests (point_of p)) (whole_tests p) float_agrees z h ∙ skips_are_exact p z f
