use Prim.Native.Nat.{◌-◌}
use mathlib.Core.Path.{◌≡◌}
use Rattle.answer.specs.Checks.{seek}
use Rattle.reader_table.specs.Table.{is_type}
use Rattle.reader_table.proofs.Table.find.Given as goal

abbrev pub invariant-loop-i : goal.invariant-loop-i
invariant-loop-i l = seek (is_type l.self.s.now l.t) (l.n - l.i) l.i ≡ seek (is_type l.self.s.now l.t) l.n 0
