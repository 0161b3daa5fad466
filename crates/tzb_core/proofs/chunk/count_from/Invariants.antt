use Rattle.std.proofs.Common.{◌≡◌, ◌-◌}
use Rattle.chunks.specs.Along.{along}
use Rattle.chunks.specs.Count.{counter}
use Rattle.tzb_core.proofs.chunk.count_from.Given as goal

abbrev pub invariant-loop : goal.invariant-loop
invariant-loop l = along counter l.s (l.count - l.counter) l.q l.at l.n ≡ along counter l.s l.count l.initial.q l.initial.at l.sides
