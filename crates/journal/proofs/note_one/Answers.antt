-- `note_one` meets its contract: there is room for the entry.
-- Assumes nothing.
use Rattle.journal.proofs.AnsweredLaws.{laid_is}
use Rattle.journal.proofs.note_one.Goals as goal

pub returns : goal.returns
returns c =
    laid_is c.args.opening c.args.file.now c.position_at-q.result _ c.args.out.now _ c.position_at-q.ensures c.requires.1 c.note.ensures.memory
