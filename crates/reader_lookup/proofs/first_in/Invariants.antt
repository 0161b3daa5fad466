use Prim.Native.Nat.{◌+◌, ◌-◌}
use mathlib.Core.Path.{◌≡◌}
use Rattle.reader_lookup.specs.Asking.{hit_at, first_hit}
use Rattle.reader_ways.specs.Ways.{way_of}
use Rattle.reader_lookup.proofs.first_in.Given as goal

abbrev pub invariant-loop-place : goal.invariant-loop-place
invariant-loop-place l =
    first_hit (hit_at (way_of l.way) l.o l.s l.p l.c.grid) (l.c.from + l.c.count - l.place) l.place ≡ first_hit (hit_at (way_of l.way) l.o l.s l.p l.c.grid) l.c.count l.c.from
