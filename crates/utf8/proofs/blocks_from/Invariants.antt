use Prim.Native.Nat.{◌+◌, ◌*◌}
use Rattle.utf8.specs.Steps.{Plain}
use Rattle.utf8.proofs.blocks_from.Given as goal

abbrev pub invariant-loop-k : goal.invariant-loop-k
invariant-loop-k l = Plain l.s l.i (l.i + 32 * l.k)
