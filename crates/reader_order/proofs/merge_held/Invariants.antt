use Prim.Native.Nat.{◌-◌}
use lib.ListN.{length}
use Rattle.reader_named.specs.Asked.{name_or}
use Rattle.reader_order.proofs.Merged.{Merging}
use Rattle.reader_order.proofs.merge_held.Given as goal

abbrev pub invariant-loop-j : goal.invariant-loop-j
invariant-loop-j l = Merging (name_or l.o l.s) l.initial.zones l.held l.zones (length l.initial.zones - length l.held) l.end l.j
