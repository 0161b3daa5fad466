use mathlib.Core.Path.{◌≡◌}
use mathlib.Core.Bool.{true, false}
use Prim.Native.Nat.{◌+◌, ◌-◌}
use Rattle.reader_rings.specs.Rings.{ring_contains}
use Rattle.reader_ways.specs.Ways.{way_of}
use Rattle.reader_zones.specs.Zones.{first_so}
use Rattle.reader_zones.proofs.holes_out.Given as goal

abbrev pub invariant-loop-i : goal.invariant-loop-i
invariant-loop-i l =
    first_so (ring_contains (way_of l.way) l.o l.s l.p false) false true (l.from + (l.count - 1) - l.i) l.i ≡ first_so (ring_contains (way_of l.way) l.o l.s l.p false) false true (l.count - 1) l.from
