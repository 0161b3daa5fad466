use Prim.Native.Nat.{◌-◌}
use mathlib.Core.Path.{◌≡◌}
use Rattle.reader_room.specs.Steps.{chunks_count}
use Rattle.reader_room.proofs.count_chunks.Given as goal

abbrev pub invariant-loop-i : goal.invariant-loop-i
invariant-loop-i l = chunks_count l.o l.s (l.to - l.i) l.i l.sofar.1 l.sofar.0 ≡ chunks_count l.o l.s l.fn.count l.fn.first l.fn.before l.fn.sides
