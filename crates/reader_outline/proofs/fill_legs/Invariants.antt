use Rattle.reader_outline.proofs.Legs.{Legging}
use Rattle.reader_outline.proofs.fill_legs.Given as goal

abbrev pub invariant-loop-i : goal.invariant-loop-i
invariant-loop-i l = Legging l.o l.s l.held l.first l.count l.n l.i
