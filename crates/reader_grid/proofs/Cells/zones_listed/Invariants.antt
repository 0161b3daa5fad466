use mathlib.Core.Path.{◌≡◌}
use Prim.Native.Nat.{◌-◌, ◌+◌, ◌*◌}
use Rattle.answer.specs.Checks.{each}
use Rattle.reader_grid.specs.Grid.{candidate_check}
use Rattle.reader_grid.proofs.Cells.zones_listed.Given as goal

abbrev pub invariant-loop-j : goal.invariant-loop-j
invariant-loop-j l = each (candidate_check l.self.s.now (l.self.at + 4 * l.self.count + 2 * l.from) l.self.zones) (l.n - l.j) l.j ≡ each (candidate_check l.self.s.now (l.self.at + 4 * l.self.count + 2 * l.from) l.self.zones) l.n 0
