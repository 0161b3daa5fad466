-- `answer::claim` meets its contract: each branch is one case of the definition.
-- Assumes nothing.
use mathlib.Core.Path.{sym, ◌∙◌}
use Rattle.answer.proofs.CheckLaws.{yes, nay}
use Rattle.answer.proofs.claim.Goals as goal

pub returns-then-holds : goal.returns-then-holds
returns-then-holds c = sym (yes _ _ c.if-holds.true)

pub returns-else-holds : goal.returns-else-holds
returns-else-holds c = c.fail.ensures ∙ sym (nay _ _ c.if-holds.false)
