use Prim.Native.Nat.{◌-◌}
use mathlib.Core.Path.{◌≡◌}
use Rattle.answer.specs.Checks.{each}
use Rattle.reader_names.specs.Names.{text_at}
use Rattle.reader_names.proofs.NameList.texts.Given as goal

abbrev pub invariant-loop-i : goal.invariant-loop-i
invariant-loop-i l = each (text_at l.self.s.now l.self.at l.self.n) (l.self.n - l.i) l.i ≡ each (text_at l.self.s.now l.self.at l.self.n) l.self.n 0
