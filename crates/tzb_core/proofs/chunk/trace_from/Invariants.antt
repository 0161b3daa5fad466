use Rattle.std.proofs.Common.{◌≡◌, ◌-◌}
use Rattle.boxes.specs.Box.{in_box}
use Rattle.chunks.specs.Along.{along}
use Rattle.chunks.specs.Trace.{also, tracer}
use Rattle.tzb_core.proofs.chunk.trace_from.Given as goal

abbrev pub invariant-loop : goal.invariant-loop
invariant-loop l = also l.inside (along (tracer l.b) l.s (l.count - l.counter) l.q l.at) ≡ also (in_box l.b l.initial.q) (along (tracer l.b) l.s l.count l.initial.q l.initial.at)
