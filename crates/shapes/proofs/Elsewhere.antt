-- A point outside the domain is in no zone of the domain.
-- Assumes nothing.
use Prim.Native.Nat.{ℕ}
use mathlib.Core.Path.{◌≡◌, refl, sym, ap, ◌∙◌}
use mathlib.Core.Bool.{Bool, true, false, ◌&&◌, true≢false}
use lib.IntN.{ℤ, pos, neg_ℤ}
use lib.Signed.{le_z}
use Rattle.basics.specs.Truth.{and_i, and_l, and_r}
use Rattle.basics.specs.Whole.{le_le}
use Rattle.plane.specs.declared.I32Point.{I32Point}
use Rattle.plane.specs.Lines.{every, some}
use Rattle.plane.specs.Segment.{seg}
use Rattle.plane.specs.Domain.{within, in_domain}
use Rattle.boxes.specs.declared.BBox.{BBox}
use Rattle.boxes.specs.Box.{ordered, least, greatest, box_in_domain}
use Rattle.shapes.specs.Shapes.{Zone, in_box, zone_fits, polygon_in_domain, zone_in_domain, zone_in}
use Rattle.shapes.specs.Walk.{whole_tests, polygon_walk, zone_walk}
use Rattle.shapes.proofs.Sound.{sides}
use Rattle.shapes.proofs.Whole.{skips_are_exact}

-- between two numbers within the bounds
between : (n : ℕ) (lo z hi : ℤ) → within n lo ≡ true → within n hi ≡ true → le_z lo z ≡ true → le_z z hi ≡ true → within n z ≡ true
between n lo z hi a b h k =
    and_i (le_z (neg_ℤ (pos n)) z) (le_z z (pos n))
    (le_le (neg_ℤ (pos n)) lo z (and_l (le_z (neg_ℤ (pos n)) lo) (le_z lo (pos n)) a) h)
    (le_le z hi (pos n) k (and_r (le_z (neg_ℤ (pos n)) hi) (le_z hi (pos n)) b))

-- what a box of the domain covers lies in the domain
pub box_domain : (b : BBox) (p : I32Point) → box_in_domain b ≡ true → in_box b p ≡ true → in_domain p ≡ true
unfolding box_in_domain in_domain in_box
box_domain b p h k =
    let c = and_r (ordered b) (in_domain (least b) && in_domain (greatest b)) h in
    let lo = and_l (in_domain (least b)) (in_domain (greatest b)) c in
    let hi = and_r (in_domain (least b)) (in_domain (greatest b)) c in
    let u = sides (le_z b.minx p.x) (le_z p.x b.maxx) (le_z b.miny p.y) (le_z p.y b.maxy) k in
    and_i (within 18_000_000 p.x) (within 9_000_000 p.y)
    (between 18_000_000 b.minx p.x b.maxx (and_l (within 18_000_000 b.minx) (within 9_000_000 b.miny) lo) (and_l (within 18_000_000 b.maxx) (within 9_000_000 b.maxy) hi) u.0 u.1)
    (between 9_000_000 b.miny p.y b.maxy (and_r (within 18_000_000 b.minx) (within 9_000_000 b.miny) lo) (and_r (within 18_000_000 b.maxx) (within 9_000_000 b.maxy) hi) u.2 u.3)

module _ (p : I32Point) (e : in_domain p ≡ false) where
  outside : (b : BBox) → box_in_domain b ≡ true → in_box b p ≡ false
  outside b h = either (in_box b p) refl
    where
      either : (t : Bool) → in_box b p ≡ t → t ≡ false
      either true k = absurd (true≢false (sym (box_domain b p h k) ∙ e))
      either false k = refl

  pub zone_elsewhere : (z : Zone) → zone_in_domain z ≡ true → zone_fits z ≡ true → zone_in (seg p) z ≡ false
  unfolding zone_in_domain zone_walk
  zone_elsewhere z h f =
      sym (skips_are_exact p z f)
      ∙ ap (λ (t : Bool). t && some (polygon_walk (whole_tests p)) z.polygons) (outside z.box (and_l (box_in_domain z.box) (every polygon_in_domain z.polygons) h))
