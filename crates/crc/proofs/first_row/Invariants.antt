use Prim.Native.Nat.{◌^◌}
use Rattle.crc.specs.Steps.{First}
use Rattle.crc.proofs.first_row.Given as goal

abbrev pub invariant-loop-k : goal.invariant-loop-k
invariant-loop-k l = First l.t (2 ^ l.k)
