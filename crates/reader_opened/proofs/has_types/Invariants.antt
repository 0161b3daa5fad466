use Prim.Native.Nat.{◌-◌}
use mathlib.Core.Path.{◌≡◌}
use Rattle.answer.specs.Checks.{each}
use Rattle.reader_opened.specs.Opened.{present_at}
use Rattle.reader_opened.proofs.has_types.Given as goal

abbrev pub invariant-loop-t : goal.invariant-loop-t
invariant-loop-t l = each (present_at l.table.s.now) (8 - l.t) l.t ≡ each (present_at l.table.s.now) 7 1
