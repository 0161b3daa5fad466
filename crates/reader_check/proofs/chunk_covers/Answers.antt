-- `reader_check::chunk_covers` meets its contract: all points are read and lie in the box, or not.
-- Assumes nothing.
use mathlib.Core.Path.{◌≡◌, ◌∙◌}
use Rattle.std.proofs.Common.{rules}
use Rattle.answer.specs.Answers.{holds}
use Rattle.reader_chunks.specs.Chunks.{trace_at}
use Rattle.reader_cover.proofs.Traces.{trace_covers}
use Rattle.reader_check.proofs.chunk_covers.Goals as goal

pub returns : goal.returns
unfolding holds
returns c =
    let a = c.args in
    let k : c.is_ok_and.result ≡ holds (λ t. t.0) (trace_at a.o a.s.now a.index) = search rules in
    k ∙ trace_covers a.o a.s.now a.index
