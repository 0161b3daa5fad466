use Rattle.reader_map.proofs.Spots.{RingRow}
use Rattle.reader_map.proofs.write_ring.Given as goal

abbrev pub invariant-loop-i : goal.invariant-loop-i
invariant-loop-i l = RingRow l.held l.k l.back l.from l.initial.out l.mark l.i l.at l.out
