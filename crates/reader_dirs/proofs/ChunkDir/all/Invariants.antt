use Prim.Native.Nat.{◌-◌}
use mathlib.Core.Path.{◌≡◌}
use Rattle.answer.specs.Checks.{each}
use Rattle.reader_dirs.specs.Dirs.{least_off, chunk_check_at}
use Rattle.reader_dirs.proofs.ChunkDir.all.Given as goal

abbrev pub invariant-loop-i : goal.invariant-loop-i
invariant-loop-i l = (l.least ≡ least_off l.self.s.now l.self.d l.i) × (each (chunk_check_at l.self.s.now l.self.d l.points) (l.self.d.count - l.i) l.i ≡ each (chunk_check_at l.self.s.now l.self.d l.points) l.self.d.count 0)
