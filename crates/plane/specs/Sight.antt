-- Document 01, "Exact geometry" and M9 to M11: what a point sees of a segment. It is on it; or it is not, and the segment counts or does not.
-- Assumes nothing.
use Rattle.std.specs.Prelude.{Bool}
use Rattle.plane.specs.declared.Seen.{Seen}
use Rattle.plane.specs.declared.Seen.TheVariants as S

-- it is the code's type
abbrev pub Sight : Type 0
Sight = Seen

-- on the segment (M9: on)
pattern abbrev pub On : Sight
On = S.On

-- not on it, and whether the segment counts (true is M10: counts; false is M11: neither); of many, whether an odd number counts
pattern abbrev pub Off : Bool → Sight
Off counts = S.Off counts
