-- `last` meets its contract: the sum and the difference fit 32 bits.
-- Assumes nothing.
use native.Mathlib.Omega.{arith}
use mir.Syntax.{w32}
use Rattle.reader_grid.proofs.Numbers.{wide_fits, sum_fits, last_fits, last_is}
use Rattle.reader_grid.proofs.last.Goals as goal

pub overflow_cast-result : goal.overflow_cast-result
overflow_cast-result c = wide_fits w32 _ (omega arith) c.ranges.first

pub overflow_add-result : goal.overflow_add-result
overflow_add-result c = sum_fits c.args.first c.args.count c.ranges.first (omega arith)

pub overflow_sub-result : goal.overflow_sub-result
overflow_sub-result c = last_fits c.args.first c.args.count c.ranges.first (omega arith)

pub returns : goal.returns
returns c = last_is c.args.first c.args.count c.ranges.first (omega arith)
