-- Document 01, "Exact geometry": what a point of whole numbers sees of a segment. These definitions, with those of Lines, are what exact geometry means; all else is proved.
-- Assumes nothing.
use Rattle.std.specs.Prelude.{Bool, ◌&&◌, ◌||◌, cond, ℤ, pos, ◌-ℤ◌, ◌*ℤ◌}
use Rattle.std.specs.Int.Signed.{lt_z, le_z}
use Rattle.basics.specs.Whole.{is_zero, eq_z}
use Rattle.plane.specs.declared.I32Point.{I32Point}
use Rattle.plane.specs.Sight.{Sight}
use Rattle.plane.specs.Tally.{On, Off}

-- (b - a) × (p - a): above 0 where p is to the left of the way from a to b
unfoldable pub cross : ℤ → ℤ → ℤ → ℤ → ℤ → ℤ → ℤ
cross ax ay bx by px py = (bx -ℤ ax) *ℤ (py -ℤ ay) -ℤ (by -ℤ ay) *ℤ (px -ℤ ax)

-- w is from the lesser of u and v to the greater: in the segment's box, in one of its two directions
unfoldable pub amid_z : ℤ → ℤ → ℤ → Bool
amid_z u v w = cond (lt_z u v) (le_z u w && le_z w v) (le_z v w && le_z w u)

-- on the segment: the cross product is zero, and p lies in the segment's box
unfoldable pub on_z : ℤ → ℤ → ℤ → ℤ → ℤ → ℤ → Bool
on_z ax ay bx by px py = is_zero (cross ax ay bx by px py) && (amid_z ax bx px && amid_z ay by py)

-- one end's y is above the point's and the other's is not, and p is to the left of the way up: the meeting place is strictly greater in x (meets_right, in Turns)
unfoldable pub counts_z : ℤ → ℤ → ℤ → ℤ → ℤ → ℤ → Bool
counts_z ax ay bx by px py =
    ((le_z ay py && lt_z py by) && lt_z (pos 0) (cross ax ay bx by px py))
    || ((le_z by py && lt_z py ay) && lt_z (cross ax ay bx by px py) (pos 0))

-- what p sees of the segment from a to b
unfoldable pub seg : I32Point → I32Point → I32Point → Sight
seg p a b = cond (on_z a.x a.y b.x b.y p.x p.y) On (Off (counts_z a.x a.y b.x b.y p.x p.y))

-- a is above p
unfoldable pub above : I32Point → I32Point → Bool
above p a = lt_z p.y a.y

-- the same place
unfoldable pub same_point : I32Point → I32Point → Bool
same_point a b = eq_z a.x b.x && eq_z a.y b.y
