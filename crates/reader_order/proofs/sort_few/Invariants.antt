use Rattle.reader_named.specs.Asked.{name_or}
use Rattle.reader_order.proofs.Shift.{Sorting}
use Rattle.reader_order.proofs.sort_few.Given as goal

abbrev pub invariant-loop-k : goal.invariant-loop-k
invariant-loop-k l = Sorting (name_or l.o l.s) l.initial.zones l.zones l.k
