use Rattle.checksum.specs.Crc32.{Filled}
use Rattle.crc.proofs.fill.Given as goal

abbrev pub invariant-loop-i : goal.invariant-loop-i
invariant-loop-i l = Filled l.t l.i
