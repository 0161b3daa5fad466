use Prim.Native.Nat.{◌≤◌, ◌<◌, ◌-◌, ◌+◌, ◌*◌, ◌/◌}
use mathlib.Core.Path.{◌≡◌}
use lib.ListN.{length}
use Rattle.reader_table.specs.Table.{sections}
use Rattle.reader_table.specs.Steps.{Placed, Split}
use Rattle.reader_table.proofs.units.settled.Given as goal

abbrev pub invariant-loop-base : goal.invariant-loop-base
invariant-loop-base l =
    (l.end ≡ length l.t.s.now / 4)
    × (l.n ≤ sections l.t.s.now)
    × (l.base < 0x2_0000_0000)
    × Placed l.t.s.now l.n
    × Split l.t.s.now l.n (16 + 4 * sections l.t.s.now) l.base

abbrev pub decreases-loop-base : goal.decreases-loop-base
decreases-loop-base l = l.end - l.base
