-- `area` meets its contract: a product of two u16 fits.
-- Assumes nothing.
use mathlib.Core.Path.{refl}
use Rattle.reader_grid.proofs.Checking.{area_fits}
use native.Mathlib.Omega.{arith}
use Rattle.reader_grid.proofs.area.Goals as goal

pub overflow_mul-result : goal.overflow_mul-result
overflow_mul-result c = record { fits = omega (arith, area_fits c.args.cols c.args.rows (omega arith) (omega arith)) }

pub returns : goal.returns
returns c = (refl, area_fits c.args.cols c.args.rows (omega arith) (omega arith))
