-- `pass_at` meets its contract: the next record, then the chunk.
-- Assumes nothing.
use mathlib.Core.Path.{refl}
use Rattle.reader_groups.proofs.Remembering.{kept_at, next_own, leaves_off, dropped_arm}
use Rattle.reader_groups.proofs.GroupsLaws.{pass_is}
use Rattle.reader_groups.proofs.pass_at.Goals as goal

pub returns-in-Off : goal.returns-in-Off
returns-in-Off c =
    let a = c.args in (
      pass_is _ _ _ _ _ _ c.in_ok-record.ensures _ (dropped_arm _ _ _ c.in-Off.is c.in_ok-joined_to.ensures.0),
      (refl, kept_at c.in-Off.first _ _ (next_own a.o a.s.now a.c.index c.in_ok-record.record) (leaves_off _ _ _ _ c.in-Off.is c.in_ok-joined_to.ensures.1)),
    )
