use Prim.Native.Nat.{◌-◌}
use mathlib.Core.Path.{◌≡◌}
use Rattle.answer.specs.Checks.{each}
use Rattle.reader_dirs.specs.Dirs.{group_check_at}
use Rattle.reader_dirs.proofs.ChunkDir.groups.Given as goal

abbrev pub invariant-loop-i : goal.invariant-loop-i
invariant-loop-i l = each (group_check_at l.self.s.now l.g l.self.d) (l.g.count - l.i) l.i ≡ each (group_check_at l.self.s.now l.g l.self.d) l.g.count 0
