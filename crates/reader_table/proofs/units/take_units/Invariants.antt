use Prim.Native.Nat.{◌≤◌, ◌<◌, ◌-◌, ◌*◌}
use mathlib.Core.Path.{◌≡◌}
use lib.ListN.{length}
use Rattle.reader_table.specs.Steps.{Taken}
use Rattle.reader_table.proofs.units.take_units.Given as goal

abbrev pub invariant-loop-k : goal.invariant-loop-k
invariant-loop-k l = (length l.map ≡ length l.initial.map) × (l.to ≤ 8 * length l.initial.map) × (l.to < 0x1_0000_0000) × Taken l.initial.map l.map l.from l.k

abbrev pub decreases-loop-k : goal.decreases-loop-k
decreases-loop-k l = l.to - l.k
