use Rattle.reader_stripes.proofs.Laying.{Laying}
use Rattle.reader_stripes.proofs.Loops.{chunks_left}
use Rattle.reader_stripes.proofs.put_chunks.Given as goal

abbrev pub invariant-loop-j : goal.invariant-loop-j
invariant-loop-j l = Laying l.initial.numbers l.from (chunks_left l.o l.s l.c.striping l.c.count l.c.first l.stripe 0) (chunks_left l.o l.s l.c.striping l.c.count l.c.first l.stripe l.j) l.at l.numbers
