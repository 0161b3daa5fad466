use Rattle.reader_outline.proofs.Rows.{Rowing}
use Rattle.reader_outline.proofs.fill_chunks.Given as goal

abbrev pub invariant-loop-i : goal.invariant-loop-i
invariant-loop-i l = Rowing l.o l.s l.initial.held l.held l.k l.first l.count l.n l.i
