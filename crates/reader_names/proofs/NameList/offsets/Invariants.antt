use Prim.Native.Nat.{◌-◌, ◌+◌}
use mathlib.Core.Path.{◌≡◌}
use Rattle.answer.specs.Checks.{each}
use Rattle.reader_names.specs.Names.{prior, offset_check}
use Rattle.reader_names.proofs.NameList.offsets.Given as goal

abbrev pub invariant-loop-i : goal.invariant-loop-i
invariant-loop-i l = (l.prev ≡ prior l.self.s.now l.self.at l.i) × (each (offset_check l.self.s.now l.self.at l.self.n) (l.self.n + 1 - l.i) l.i ≡ each (offset_check l.self.s.now l.self.at l.self.n) (l.self.n + 1) 0)
