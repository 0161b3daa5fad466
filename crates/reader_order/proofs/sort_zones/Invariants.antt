use Prim.Native.Nat.{◌*◌}
use Rattle.reader_named.specs.Asked.{name_or}
use Rattle.reader_order.proofs.Shift.{Sorting}
use Rattle.reader_order.proofs.sort_zones.Given as goal

abbrev pub invariant-loop-block : goal.invariant-loop-block
invariant-loop-block l = Sorting (name_or l.o l.s) l.initial.zones l.zones (256 * l.block)
