-- `lettering::lay` meets its contract: the first i bytes stand.
-- Assumes nothing.
use mathlib.Core.Path.{refl, sym}
use Rattle.answer.proofs.OverLaws.{over_none, next_laid, all_laid}
use Rattle.lettering.proofs.lay.Goals as goal

pub loop-i-init : goal.loop-i-init
loop-i-init c = sym (over_none _ _)

pub loop-i-preserved : goal.loop-i-preserved
loop-i-preserved c = next_laid _ _ _ _ _ _ c.loop-i-test.true c.loop-i.invariant c.put.ensures.1

pub returns : goal.returns
returns c = (refl, all_laid _ _ _ _ _ c.loop-i-test.false c.loop-i.invariant)
