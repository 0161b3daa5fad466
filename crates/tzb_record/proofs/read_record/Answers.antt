-- `tzb_record::read_record` meets its contract: the length, then the fields.
-- Assumes nothing.
use mathlib.Core.Path.{◌∙◌}
use Rattle.tzb_record.proofs.LayoutLaws.{record_none, record_is}
use Rattle.tzb_record.proofs.read_record.Goals as goal

pub returns-then-bytes-ne-RECORD_WIDE : goal.returns-then-bytes-ne-RECORD_WIDE
returns-then-bytes-ne-RECORD_WIDE c = c.fail.ensures ∙ record_none _ c.if-bytes-ne-RECORD_WIDE.true

pub returns : goal.returns
returns c = record_is _ _ c.if-bytes-ne-RECORD_WIDE.false c.opened_in.ensures
