use Prim.Native.Nat.{◌+◌, ◌^◌}
use Rattle.crc.specs.Steps.{First}
use Rattle.crc.proofs.doubled.Given as goal

abbrev pub invariant-loop-j : goal.invariant-loop-j
invariant-loop-j l = First l.t (2 ^ l.k + l.j)
