-- Document 01, "Errors that look right", of the ray test: floats are not exact everywhere. Each line is computed from the definitions.
-- Assumes nothing.
use mathlib.Core.Path.{◌≡◌, refl}
use mathlib.Core.Bool.{true, false, ◌&&◌}
use lib.IntN.{pos, negsuc}
use lib.Ieee.{fin, inf, of_int, lt, le, eq, sub, div}
use Rattle.plane.specs.declared.Point.{Point}
use Rattle.plane.specs.declared.I32Point.{I32Point}
use Rattle.plane.specs.Sight.{On, Off}
use Rattle.plane.specs.Segment.{seg, cross, on_z, counts_z, amid_z}
use Rattle.boxes.specs.declared.BBox.{BBox}
use Rattle.boxes.specs.Box.{relevant, right}
use Rattle.rays.specs.Ray.{ray_of, ray_at, touches, above_of, parity_of}
use Rattle.plane.specs.Places.{point_of, point}

-- segment (1, 0) to (0, 1) and point (-2^-60, 1): on the segment, by floats, since -2^-60 - 1 rounds to -1
abbrev pub aside : Point
aside = record { x = fin true 1 (negsuc 59); y = fin false 1 (pos 0) }

pub beside_is_on : ray_of (point (pos 1) (pos 0)) (point (pos 0) (pos 1)) aside ≡ On
unfolding ray_of ray_at touches lt of_int eq div sub
beside_is_on = refl

-- the skip takes it for a segment to the right of the point, and asks its ends alone: neither of them is above the point, so it reports nothing
abbrev pub beside_box : BBox
beside_box = record { minx = pos 0; miny = pos 0; maxx = pos 1; maxy = pos 1 }

pub beside_skipped : relevant beside_box aside && right beside_box aside ≡ true
unfolding relevant right lt le of_int
beside_skipped = refl

pub beside_skip : parity_of aside (point (pos 1) (pos 0)) (point (pos 0) (pos 1)) ≡ false
unfolding parity_of above_of lt of_int
beside_skip = refl

-- outside the domain, (-2^31, -2^31) to (2^31 - 1, 2^31 - 2) at (2^31 - 2, 2^31 - 3): on by floats, and in truth neither on nor counted
abbrev pub least : I32Point
least = point (negsuc 0x7fff_ffff) (negsuc 0x7fff_ffff)

abbrev pub most : I32Point
most = point (pos 0x7fff_ffff) (pos 0x7fff_fffe)

abbrev pub near : I32Point
near = point (pos 0x7fff_fffe) (pos 0x7fff_fffd)

pub outside_is_on : ray_of least most (point_of near) ≡ On
unfolding ray_of ray_at touches lt of_int eq div sub
outside_is_on = refl

pub outside_is_off : seg near least most ≡ Off false
unfolding seg on_z counts_z amid_z cross
outside_is_off = refl

-- an infinite x: level segment (0, 0) to (10, 0) and point (∞, 5), which is above it: on, by floats, since both ratios are infinite. So a filter that leaves out what lies below the point must not leave out a level segment.
pub level_below_is_on : ray_of (point (pos 0) (pos 0)) (point (pos 10) (pos 0)) (record { x = inf false; y = fin false 5 (pos 0) }) ≡ On
unfolding ray_of ray_at touches lt of_int eq div sub
level_below_is_on = refl
