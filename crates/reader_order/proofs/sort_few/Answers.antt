-- `sort_few` meets its contract. The loop's invariant: the first k zones are in order, the others as they were.
-- Assumes nothing.
use Rattle.reader_order.proofs.Shift.{sort_start, first_in_order, sort_on, sort_end}
use native.Mathlib.Omega.{arith}
use Rattle.reader_order.proofs.sort_few.Goals as goal

pub loop-k-init : goal.loop-k-init
loop-k-init c = sort_start _ _

pub settle-requires-clause-zones_value : goal.settle-requires-clause-zones_value
settle-requires-clause-zones_value c = first_in_order _ _ _ _ c.loop-k.invariant (omega (arith, c.loop-k-test.true, c.loop-k.auto.zones))

pub loop-k-preserved : goal.loop-k-preserved
loop-k-preserved c = sort_on _ _ _ _ c.loop-k.invariant (omega (arith, c.loop-k-test.true, c.loop-k.auto.zones)) _ c.settle.ensures

pub returns : goal.returns
returns c = sort_end _ _ _ _ c.loop-k.invariant (omega (arith, c.loop-k-test.false, c.loop-k.auto.zones))
