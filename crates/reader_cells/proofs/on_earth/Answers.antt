-- `on_earth` meets its contract: four comparisons, which no NaN and no infinity passes.
-- Assumes nothing.
use mathlib.Core.Path.{ap₂}
use mathlib.Core.Bool.{◌&&◌}
use Rattle.reader_cells.specs.Asked.{on_earth}
use Rattle.reader_cells.proofs.Bounds.{within_180, within_90}
use Rattle.reader_cells.proofs.on_earth.Goals as goal

pub returns : goal.returns
unfolding on_earth
returns c = ap₂ ◌&&◌ (within_180 c.args.lng) (within_90 c.args.lat)
