-- `is_offered` meets its contract: three alone.
-- Assumes nothing.
use Rattle.answer.proofs.CheckLaws.{same_is}
use Rattle.tzb_journal.proofs.is_offered.Goals as goal

pub returns : goal.returns
returns c = same_is _ _
