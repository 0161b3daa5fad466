use Rattle.std.proofs.Common.{◌≡◌, ◌-◌, true}
use Rattle.answer.specs.Walks.{add}
use Rattle.plane.specs.Domain.{in_domain}
use Rattle.chunks.specs.Steps.{onward}
use Rattle.tzb_core.proofs.chunk.scan_from.Given as goal

abbrev pub invariant-loop : goal.invariant-loop
invariant-loop l = record {
  inside : in_domain l.q ≡ true;
  whole : add l.odd (onward l.s l.p (l.count - l.counter) l.q l.at) ≡ onward l.s l.p l.count l.initial.q l.initial.at;
}
