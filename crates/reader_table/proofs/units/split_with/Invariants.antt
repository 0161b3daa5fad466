use Prim.Native.Nat.{◌+◌, ◌*◌}
use mathlib.Core.Path.{◌≡◌}
use lib.ListN.{length}
use Rattle.reader_table.specs.Steps.{MarkedBy, Split}
use Rattle.reader_table.proofs.units.split_with.Given as goal

abbrev pub invariant-loop-i : goal.invariant-loop-i
invariant-loop-i l = (length l.map ≡ length l.initial.map) × MarkedBy l.t.s.now l.i l.base l.map × Split l.t.s.now l.i l.base (l.base + 8 * length l.initial.map)
