use Prim.Native.Nat.{◌-◌, ◌+◌, ◌*◌, ◌≤◌}
use mathlib.Core.Path.{◌≡◌}
use Rattle.reader_dirs.specs.Dirs.{count_at}
use Rattle.basics.specs.Total.{total}
use Rattle.reader_dirs.proofs.ChunkDir.points_of.Given as goal

abbrev pub invariant-loop-j : goal.invariant-loop-j
invariant-loop-j l = (l.sum ≤ 65_535 * (l.j - l.from)) × (l.sum + total (count_at l.self.s.now l.self.d) (l.to - l.j) l.j ≡ total (count_at l.self.s.now l.self.d) (l.to - l.from) l.from)
