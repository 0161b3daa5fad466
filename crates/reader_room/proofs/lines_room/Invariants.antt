use Prim.Native.Nat.{◌-◌}
use mathlib.Core.Path.{◌≡◌}
use Rattle.reader_room.specs.Steps.{lines_room}
use Rattle.reader_room.proofs.lines_room.Given as goal

abbrev pub invariant-loop-i : goal.invariant-loop-i
invariant-loop-i l = lines_room l.o l.s l.start (l.to - l.i) l.i l.q l.n ≡ lines_room l.o l.s l.start l.fn.count l.fn.first l.fn.exit l.fn.sides
