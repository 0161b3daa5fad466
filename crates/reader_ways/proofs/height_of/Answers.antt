-- `height_of` meets its contract: the floor within the domain's heights, 0 outside.
-- Assumes nothing.
use Rattle.reader_ways.proofs.Heights.{height_small, height_fits, height_is, height_none}
use Rattle.reader_ways.proofs.height_of.Goals as goal

pub floor-requires : goal.floor-requires
floor-requires c = height_small _ c.if-y.true

pub overflow_cast-result : goal.overflow_cast-result
overflow_cast-result c = height_fits c.floor.result c.floor.ensures.1

pub returns-then-y : goal.returns-then-y
returns-then-y c = height_is c.floor.result c.floor.ensures.1 _ c.if-y.true c.floor.ensures.0

pub returns-else-y : goal.returns-else-y
returns-else-y c = height_none _ c.if-y.false
