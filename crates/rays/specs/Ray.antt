-- Document 01, "Asking": the ray test takes i32 ends and any f64 point, one rounding per operation, next float upward from the bits. This is raycast.rs in its order; `sub` and `div` are the exact difference and quotient, rounded once, `lt`, `le`, `eq` are the comparisons of IEEE 754, false where a NaN stands. `next_up` stands in rounding/specs/Upward, the points in plane/src/lib.rt, what is seen in plane/specs/Sight.
-- Assumes nothing.
use Rattle.std.specs.Prelude.{Bool, true, false, ◌&&◌, ◌||◌, cond, Float}
use Rattle.std.specs.Float.{binary64}
use Rattle.std.specs.Float.Ieee.{lt, le, eq, sub, div, of_int}
use Rattle.basics.specs.Parity.{◌⊻◌}
use Rattle.rounding.specs.Upward.{next_up}
use Rattle.plane.specs.declared.Point.{Point}
use Rattle.plane.specs.declared.I32Point.{I32Point}
use Rattle.plane.specs.Sight.{Sight, On, Off}

-- ---- quick y-range rejection: y is above or below both ends
abbrev pub outside : Float → Float → Float → Bool
outside lo hi y = lt y lo || lt hi y

abbrev pub away : Float → Float → Float → Bool
away ay by y = cond (lt ay by) (outside ay by y) (lt by ay && outside by ay y)

-- ---- whether p lies on the segment, before the nudge
-- both ends in one place
abbrev pub degenerate : Float → Float → Float → Float → Bool
degenerate ax ay bx by = eq ay by && eq ax bx

-- w is from the lesser of u and v to the greater
abbrev pub between : Float → Float → Float → Bool
between u v w = cond (lt u v) (le u w && le w v) (le v w && le w u)

-- the two ends and the point are level, and the point is between the ends in the other direction: a horizontal segment, and with x for y a vertical one
abbrev pub level : Float → Float → Float → Float → Float → Float → Bool
level ay by y ax bx x = eq ay by && eq y by && between ax bx x

-- how far w is on the way from u to v
abbrev pub ratio : Float → Float → Float → Float
ratio u v w = div binary64 (sub binary64 w u) (sub binary64 v u)

-- horizontal, vertical, or the general collinearity check
unfoldable pub touches : Float → Float → Float → Float → Float → Float → Bool
touches ax ay bx by x y = level ay by y ax bx x || (level ax bx x ay by y || eq (ratio ax bx x) (ratio ay by y))

-- ---- the nudge off any vertex
abbrev pub hits : Float → Float → Float → Bool
hits ay by y = eq y ay || eq y by

-- The Rust repeats the step while y hits an end. For ends that are i32 numbers one step is always enough: `loop_is`, in proofs/Loop.
abbrev pub nudged : Float → Float → Float → Float
nudged ay by y = cond (hits ay by y) (next_up y) y

-- ---- whether the segment counts, for the nudged y
-- the y bounds again, at which a horizontal segment is left out too
abbrev pub missed : Float → Float → Float → Bool
missed ay by y = cond (lt ay by) (outside ay by y) (outside by ay y)

-- the slope of the way from (ax, ay) to (bx, by)
abbrev pub slope : Float → Float → Float → Float → Float
slope ax ay bx by = div binary64 (sub binary64 by ay) (sub binary64 bx ax)

-- from the lower end, the way to the point is at least as steep as the segment
abbrev pub steep : Float → Float → Float → Float → Float → Float → Bool
steep ax ay bx by x y = cond (lt ay by) (le (slope ax ay bx by) (slope ax ay x y)) (le (slope bx by ax ay) (slope bx by x y))

-- the x shortcuts for ends at lo and hi, and the test that decides between them
abbrev pub shortcut : Float → Float → Float → Bool → Bool
shortcut lo hi x steeper = cond (le hi x) false (cond (le x lo) true steeper)

unfoldable pub crosses : Float → Float → Float → Float → Float → Float → Bool
crosses ax ay bx by x y =
    cond (missed ay by y) false (cond (lt bx ax) (shortcut bx ax x (steep ax ay bx by x y)) (shortcut ax bx x (steep ax ay bx by x y)))

-- ---- the whole
unfoldable pub ray_at : Float → Float → Float → Float → Float → Float → Sight
ray_at ax ay bx by x y =
    cond (away ay by y) (Off false)
    (cond (degenerate ax ay bx by) (cond (eq x ax && eq y ay) On (Off false))
    (cond (touches ax ay bx by x y) On
    (Off (crosses ax ay bx by x (nudged ay by y)))))

-- what p sees of the segment from a to b: it is on it, or else whether the segment counts
unfoldable pub ray_of : I32Point → I32Point → Point → Sight
ray_of a b p = ray_at (of_int binary64 a.x) (of_int binary64 a.y) (of_int binary64 b.x) (of_int binary64 b.y) p.x p.y

-- q is above p
unfoldable pub above_of : Point → I32Point → Bool
above_of p q = lt p.y (of_int binary64 q.y)

-- one end is above p and the other is not
unfoldable pub parity_of : Point → I32Point → I32Point → Bool
parity_of p a b = above_of p a ⊻ above_of p b
