-- `reader_cover::is_last` meets its contract: the points are read, and the last is the same, or not.
-- Assumes nothing.
use mathlib.Core.Path.{◌≡◌, ◌∙◌}
use Rattle.std.proofs.Common.{rules}
use Rattle.plane.specs.Segment.{same_point}
use Rattle.answer.specs.Answers.{holds}
use Rattle.reader_chunks.specs.Chunks.{trace_at}
use Rattle.reader_cover.proofs.Traces.{trace_last}
use Rattle.reader_cover.proofs.is_last.Goals as goal

pub returns : goal.returns
unfolding holds
returns c =
    let a = c.args in
    let k : c.is_ok_and.result ≡ holds (λ t. same_point a.q t.1) (trace_at a.o a.s.now a.index) = search rules in
    k ∙ trace_last a.o a.s.now a.index a.q
