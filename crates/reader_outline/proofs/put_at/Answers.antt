-- `put_at` meets its contract: two numbers side by side are written.
-- Assumes nothing.
use mathlib.Core.Path.{ap, ap₂, ◌∙◌}
use lib.ListN.{set}
use mir.Syntax.{w32}
use Rattle.basics.specs.Signed.{back}
use Rattle.plane.specs.Places.{point}
use Rattle.reader_outline.specs.Held.{spots}
use Rattle.reader_outline.proofs.Spots.{spot_put}
use Rattle.reader_outline.proofs.put_at.Goals as goal

pub returns : goal.returns
returns c =
    let told = c.struct_told-2-1.given in
    let a = c.args in
    spot_put a.i a.held.now _ _ c.requires ∙ ap (set (spots a.held.now) a.i) (ap₂ point (back w32 a.q.x told.0.1) (back w32 a.q.y told.1.0.1))
