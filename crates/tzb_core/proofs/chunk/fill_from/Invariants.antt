use Rattle.std.proofs.Common.{◌≡◌, ◌+◌, ◌-◌, ◌*◌, ◌≤◌, length}
use Rattle.answer.specs.Answers.{outcome}
use Rattle.chunks.specs.Steps.{points_from, put, read_from}
use Rattle.tzb_core.proofs.chunk.fill_from.Given as goal

abbrev pub invariant-loop-i : goal.invariant-loop-i
invariant-loop-i l = record {
  check : outcome (points_from l.s (l.count - l.i) l.q l.at) ≡ outcome (points_from l.s l.count l.initial.q l.initial.at);
  memory : 2 + 2 * l.count ≤ length l.initial.out
      → put l.out (2 + 2 * l.i) (read_from l.s (l.count - l.i) l.q l.at) ≡ put l.initial.out 2 (read_from l.s l.count l.initial.q l.initial.at);
}
