-- `reader_chunks::trace_in` meets its contract: the range, then the points.
-- Assumes nothing.
use mathlib.Core.Path.{ap, ◌∙◌}
use Rattle.answer.specs.Answers.{behind}
use Rattle.reader_chunks.proofs.ChunksLaws.{trace_is}
use Rattle.reader_chunks.proofs.trace_in.Goals as goal

pub returns : goal.returns
returns c = c.behind.ensures ∙ ap (behind c.args.a) c.trace_chunk.ensures ∙ trace_is _ _ _ _ _ _ c.in_ok-c.ensures
