use Rattle.reader_table.specs.Steps.{Placed}
use Rattle.reader_table.proofs.units.placed_run.Given as goal

abbrev pub invariant-loop-i : goal.invariant-loop-i
invariant-loop-i l = Placed l.t.s.now l.i
