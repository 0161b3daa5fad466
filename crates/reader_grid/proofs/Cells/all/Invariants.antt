use Prim.Native.Nat.{◌-◌, ◌+◌, ◌*◌}
use mathlib.Core.Path.{◌≡◌}
use Rattle.answer.specs.Checks.{each}
use Rattle.reader_grid.specs.Grid.{cell_check}
use Rattle.reader_grid.proofs.Cells.all.Given as goal

abbrev pub invariant-loop-i : goal.invariant-loop-i
invariant-loop-i l = each (cell_check l.self.s.now l.self.at (l.self.at + 4 * l.self.count) l.self.total l.self.zones) (l.self.count - l.i) l.i ≡ each (cell_check l.self.s.now l.self.at (l.self.at + 4 * l.self.count) l.self.total l.self.zones) l.self.count 0
