-- `turn_round` meets its contract. The loop's invariant: what is left turned round gives the whole.
-- Assumes nothing.
use Rattle.reader_outline.proofs.Spots.{spots_room}
use Rattle.reader_outline.proofs.Turning.{turning_start, turning_next, turning_done}
use Rattle.reader_outline.proofs.turn_round.Goals as goal

pub loop-d-init : goal.loop-d-init
loop-d-init c = turning_start _ _ _ c.requires.0 (spots_room _ _ c.requires.1)

pub loop-d-preserved : goal.loop-d-preserved
loop-d-preserved c =
    turning_next _ _ _ _ _ c.requires.0 c.loop-d.invariant c.loop-d-test.true _ _ c.point_at-p.ensures c.point_at-q.ensures _ _ c.put_at.ensures c.put_at-in-loop-d.ensures

pub returns : goal.returns
returns c = turning_done _ _ _ _ _ c.requires.0 c.loop-d.invariant c.loop-d-test.false
