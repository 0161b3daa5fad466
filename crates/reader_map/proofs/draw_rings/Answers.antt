-- `draw_rings` meets its contract: what remains, laid from here, is the whole.
-- Assumes nothing.
use native.Mathlib.Omega.{arith}
use Rattle.std.proofs.Common.{rules}
use Rattle.reader_map.specs.Steps.{side_text}
use Rattle.reader_map.proofs.Onward.{drawn_same, row_start, row_along, row_on, row_off, row_drawn}
use Rattle.reader_map.proofs.draw_rings.Goals as goal

pub loop-i-init : goal.loop-i-init
loop-i-init c = row_along row_start (omega arith)

pub draw_ring-requires : goal.draw_ring-requires
draw_ring-requires c =
    (c.requires.0, omega (arith, c.loop-i-test.true, c.requires.2), omega (arith, c.loop-i.invariant.room, c.requires.3))

pub returns-in_err-at : goal.returns-in_err-at
unfolding side_text
returns-in_err-at c =
    drawn_same (row_off c.loop-i.invariant (omega (arith, c.loop-i-test.true)) c.draw_ring.ensures _ c.in_err-at.was _ _ _) (search rules)

pub loop-i-preserved : goal.loop-i-preserved
unfolding side_text
loop-i-preserved c =
    row_along (row_on c.loop-i.invariant (omega (arith, c.loop-i-test.true)) c.draw_ring.ensures c.put-next.ensures.0 c.put-next.ensures.1 (omega arith) _ c.in_ok-at.was) (omega arith)

pub returns : goal.returns
returns c =
    row_drawn c.loop-i.invariant (omega (arith, c.loop-i-test.false)) c.put.ensures.0 c.put.ensures.1 _ (omega arith)
