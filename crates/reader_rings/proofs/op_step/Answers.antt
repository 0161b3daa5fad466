-- `op_step` meets its contract: the group, then its walk.
-- Assumes nothing.
use native.Mathlib.Omega.{arith}
use mathlib.Core.Path.{sym, ap, ◌∙◌}
use Rattle.answer.specs.Answers.{ok}
use Rattle.reader_rings.proofs.RingsLaws.{step_is}
use Rattle.reader_rings.proofs.op_step.Goals as goal

pub returns-in-Off : goal.returns-in-Off
returns-in-Off c =
    (step_is _ _ _ _ _ _ _ (ap ok c.turned_in-t.ensures ∙ c.in_ok-word.ensures.0) _ (ap ok (sym c.in-Off.is) ∙ c.in_ok-turn_walk.ensures), omega arith)
