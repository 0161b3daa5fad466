use Prim.Native.Nat.{◌-◌}
use mathlib.Core.Path.{◌≡◌}
use Rattle.answer.specs.Checks.{each}
use Rattle.reader_table.specs.Table.{sections, entry_check, entries_check}
use Rattle.reader_table.specs.Steps.{Settled}
use Rattle.reader_table.proofs.Table.entries.Given as goal

abbrev pub invariant-loop-i : goal.invariant-loop-i
invariant-loop-i l = (l.i-end ≡ sections l.self.s.now) × (each (entry_check l.self.s.now) (l.i-end - l.i) l.i ≡ entries_check l.self.s.now) × Settled l.self.s.now l.k
