use Prim.Native.Nat.{◌-◌}
use mathlib.Core.Path.{◌≡◌}
use Rattle.answer.specs.Checks.{each}
use Rattle.reader_table.specs.Table.{apart_at}
use Rattle.reader_table.proofs.Table.apart_before.Given as goal

abbrev pub invariant-loop-j : goal.invariant-loop-j
invariant-loop-j l = each (apart_at l.self.s.now l.i) (l.i - l.j) l.j ≡ each (apart_at l.self.s.now l.i) l.i 0
