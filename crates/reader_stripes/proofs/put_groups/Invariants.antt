use Rattle.reader_stripes.proofs.Loops.{Entering}
use Rattle.reader_stripes.proofs.put_groups.Given as goal

abbrev pub invariant-loop-i : goal.invariant-loop-i
invariant-loop-i l = Entering l.o l.s l.initial.numbers l.place l.i l.numbers
