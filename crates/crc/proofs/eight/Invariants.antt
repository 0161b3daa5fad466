use mathlib.Core.Path.{◌≡◌}
use Prim.Native.Nat.{◌-◌}
use Rattle.checksum.specs.Crc32.{steps}
use Rattle.crc.proofs.eight.Given as goal

abbrev pub invariant-loop : goal.invariant-loop
invariant-loop l = steps (8 - l.counter) l.rest ≡ steps 8 l.c
