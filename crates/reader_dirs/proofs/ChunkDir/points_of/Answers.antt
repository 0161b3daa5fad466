-- `points_of` meets its contract: the counts added so far and those left make the whole.
-- Assumes nothing.
use native.Mathlib.Omega.{arith}
use Rattle.reader_dirs.proofs.Loops.{total_next, total_end}
use Rattle.reader_dirs.proofs.ChunkDir.points_of.Goals as goal

pub loop-j-preserved : goal.loop-j-preserved
loop-j-preserved c = (omega (arith, c.loop-j.invariant.0), total_next _ _ _ _ _ _ c.loop-j.invariant.1 (omega arith) c.count_at-sum.ensures.0)

pub returns : goal.returns
returns c = total_end _ _ _ _ _ c.loop-j.invariant.1 (omega arith)
