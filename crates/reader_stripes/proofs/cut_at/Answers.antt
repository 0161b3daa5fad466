-- `cut_at` meets its contract: the group as it is cut, or nothing.
-- Assumes nothing.
use Rattle.reader_stripes.proofs.BuildingLaws.{cut_none, cut_is}
use Rattle.reader_stripes.proofs.cut_at.Goals as goal

pub returns-in-Ok : goal.returns-in-Ok
returns-in-Ok c = cut_is _ _ _ _ _ c.in-Ok.ensures c.of.ensures.0 c.of.ensures.1 c.of.ensures.2

pub returns-in-Err : goal.returns-in-Err
returns-in-Err c = cut_none _ _ _ _ _ c.in-Err.ensures c.of-in-Err.ensures.1 c.of-in-Err.ensures.2
