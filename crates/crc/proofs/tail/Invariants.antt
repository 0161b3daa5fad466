use mathlib.Core.Path.{◌≡◌}
use lib.ListN.{drop}
use Rattle.checksum.specs.Crc32.{bytes}
use Rattle.crc.proofs.tail.Given as goal

abbrev pub invariant-loop-b : goal.invariant-loop-b
invariant-loop-b l = bytes l.c0 l.s ≡ bytes l.c (drop l.b-index l.s)
