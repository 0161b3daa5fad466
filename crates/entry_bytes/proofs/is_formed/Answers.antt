-- `is_formed` meets its contract: by the reason.
-- Assumes nothing.
use Rattle.entries.proofs.FormsLaws.{formed_answer, formed_none, formed_some}
use Rattle.entry_bytes.proofs.is_formed.Goals as goal

pub returns-then-reason-eq0 : goal.returns-then-reason-eq0
returns-then-reason-eq0 c = formed_answer _ _ c.if-reason-eq0.true _ c.has_zones_form.ensures

pub returns-then-is_empty : goal.returns-then-is_empty
returns-then-is_empty c = formed_none _ _ c.if-reason-eq0.false _ c.is_empty.ensures c.if-is_empty.true

pub returns-else-is_empty : goal.returns-else-is_empty
returns-else-is_empty c = formed_some _ _ c.if-reason-eq0.false _ c.is_empty.ensures c.if-is_empty.false
