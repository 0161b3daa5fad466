-- `sort_zones` meets its contract. The loop's invariant: the zones of the first blocks are in order, the others as they were.
-- Assumes nothing.
use Rattle.reader_order.proofs.Shift.{sort_end}
use Rattle.reader_order.proofs.Merged.{blocks_start, prefix_in_order, block_on}
use native.Mathlib.Omega.{arith}
use Rattle.reader_order.proofs.sort_zones.Goals as goal

pub loop-block-init : goal.loop-block-init
loop-block-init c = blocks_start _ _

pub add_block-requires-clause-zones_value : goal.add_block-requires-clause-zones_value
add_block-requires-clause-zones_value c =
    prefix_in_order _ _ _ _ c.loop-block.invariant _ (omega (arith, c.min.ensures, c.loop-block-test.true, c.div_ceil-block-end.ensures)) (omega (arith, c.min.ensures))

pub loop-block-preserved : goal.loop-block-preserved
loop-block-preserved c =
    block_on _ _ _ _ c.loop-block.invariant _ (omega (arith, c.min.ensures, c.loop-block-test.true, c.div_ceil-block-end.ensures)) (omega (arith, c.min.ensures)) _ _ c.min.ensures (omega arith) _ c.add_block.ensures

pub returns : goal.returns
returns c = sort_end _ _ _ _ c.loop-block.invariant (omega (arith, c.loop-block-test.false, c.loop-block.auto.zones, c.div_ceil-block-end.ensures))
