use Prim.Native.Nat.{◌+◌, ◌-◌}
use Rattle.reader_outline.specs.Held.{spots}
use Rattle.reader_outline.proofs.Turning.{Turning}
use Rattle.reader_outline.proofs.turn_round.Given as goal

abbrev pub invariant-loop-d : goal.invariant-loop-d
invariant-loop-d l = Turning (spots l.initial.held) (spots l.held) l.from l.to (l.from + l.d) (l.to - l.d)
