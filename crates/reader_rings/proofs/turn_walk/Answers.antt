-- `turn_walk` meets its contract: a group beside the point, by its ends alone.
-- Assumes nothing.
use mathlib.Core.Path.{sym, ap, ◌∙◌}
use Rattle.answer.specs.Answers.{ok}
use Rattle.reader_rings.proofs.RingsLaws.{walk_past, turn_past}
use Rattle.reader_rings.proofs.turn_walk.Goals as goal

pub returns-in-Some : goal.returns-in-Some
returns-in-Some c =
    turn_past _ _ _ _ _ _ _ (ap ok (sym c.in-Off.is) ∙ c.in_ok-joint.ensures) _ (walk_past _ _ _ _ _ _ _ (c.lies_beside.ensures c.args.way _ _ _) _ c.in-Some.is) _ c.plus.ensures
