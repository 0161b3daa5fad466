-- `reader_chunks::count_in` meets its contract: the range, then the count.
-- Assumes nothing.
use mathlib.Core.Path.{ap, ◌∙◌}
use Rattle.answer.specs.Answers.{behind}
use Rattle.reader_chunks.proofs.ChunksLaws.{count_is}
use Rattle.reader_chunks.proofs.count_in.Goals as goal

pub returns : goal.returns
returns c = c.behind.ensures ∙ ap (behind c.args.a) c.count_chunk.ensures ∙ count_is _ _ _ _ _ _ _ c.in_ok-b.ensures
