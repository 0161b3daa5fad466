use Rattle.reader_outline.proofs.Area.{Summing}
use Rattle.reader_outline.proofs.doubled_area.Given as goal

abbrev pub invariant-loop-i : goal.invariant-loop-i
invariant-loop-i l = Summing l.held l.k l.sum l.i
