-- `all_different` meets its contract: what is left answers as all zones do.
-- Assumes nothing.
use Rattle.entries.proofs.FormsLaws.{different_no, different_on, different_end}
use Rattle.entry_bytes.proofs.all_different.Goals as goal

pub returns-then-contains : goal.returns-then-contains
returns-then-contains c = different_no _ _ _ _ _ c.in-Some.ensures.cases.0 c.loop-zone.invariant c.contains.ensures.value c.if-contains.true

pub loop-zone-preserved : goal.loop-zone-preserved
loop-zone-preserved c = different_on _ _ _ _ _ c.in-Some.ensures.cases.0 c.loop-zone.invariant c.contains.ensures.value c.if-contains.false

pub returns : goal.returns
returns c = different_end _ _ c.in_default.ensures.cases c.loop-zone.invariant
