use mathlib.Core.Path.{◌≡◌}
use mathlib.Core.Bool.{true, false}
use Prim.Native.Nat.{◌+◌, ◌-◌}
use Rattle.reader_ways.specs.Ways.{way_of}
use Rattle.reader_zones.specs.Zones.{poly_of, first_so}
use Rattle.reader_zones.proofs.polys_from.Given as goal

abbrev pub invariant-loop-i : goal.invariant-loop-i
invariant-loop-i l =
    first_so (poly_of (way_of l.way) l.o l.s l.p) true false (l.from + l.count - l.i) l.i ≡ first_so (poly_of (way_of l.way) l.o l.s l.p) true false l.count l.from
