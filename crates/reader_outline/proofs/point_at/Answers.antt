-- `point_at` meets its contract: two numbers that lie side by side.
-- Assumes nothing.
use mathlib.Core.Path.{ap₂, ◌∙◌}
use mir.Syntax.{w32}
use Rattle.basics.specs.Signed.{back}
use Rattle.plane.specs.Places.{point}
use Rattle.reader_outline.proofs.Spots.{spot_is}
use Rattle.reader_outline.proofs.point_at.Goals as goal

pub returns : goal.returns
returns c =
    let a = c.args in
    ap₂ point (back w32 _ c.result-1.given) (back w32 _ c.result-2-1.given) ∙ spot_is a.i a.held.now c.requires
