use mathlib.Core.Path.{◌≡◌}
use Rattle.reader_ways.specs.Ways.{way_of}
use Rattle.reader_rings.specs.Rings.{ops_from}
use Rattle.answer.specs.Walks.{add}
use Prim.Native.Nat.{◌+◌, ◌-◌, ◌*◌, ◌≤◌}
use Rattle.reader_rings.proofs.ops_from.Given as goal

-- and no op adds more points than a group has
abbrev pub invariant-loop-i : goal.invariant-loop-i
invariant-loop-i l =
    (add l.odd (ops_from (way_of l.way) l.o l.s l.p (l.from + (l.count - 1) - l.i) l.i l.z) ≡ ops_from (way_of l.way) l.o l.s l.p (l.count - 1) l.from l.initial.z)
    × (l.z.sum ≤ l.initial.z.sum + 0x1_0000_0000 * (l.i - l.from))
