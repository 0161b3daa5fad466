use Prim.Native.Nat.{◌+◌, ◌*◌}
use mathlib.Core.Path.{◌≡◌}
use Rattle.reader_stripes.specs.Steps.{box_at, depth_in}
use Rattle.reader_stripes.proofs.Reading.{Adding}
use Rattle.reader_stripes.proofs.chunks_need.Given as goal

abbrev pub invariant-loop-i : goal.invariant-loop-i
invariant-loop-i l = (l.i-end ≡ l.c.first + l.c.count) × Adding (box_at l.o l.s l.group l.c.striping) (depth_in l.c.striping) (5 + 3 * l.c.striping.k) 256 l.c.count l.c.first l.sum l.i
