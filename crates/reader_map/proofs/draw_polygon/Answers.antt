-- `draw_polygon` meets its contract: its record is there, and names the rings that are drawn.
-- Assumes nothing.
use native.Mathlib.Omega.{arith}
use mathlib.Core.Path.{refl}
use Rattle.reader_map.proofs.Onward.{drawn_as}
use Rattle.reader_map.proofs.Parts.{poly_there, poly_in, poly_fits, poly_text}
use Rattle.reader_map.proofs.draw_polygon.Goals as goal

pub returns-in_err-v : goal.returns-in_err-v
returns-in_err-v c = absurd (poly_there _ _ c.requires.0.sound _ c.requires.1 _ c.in_err-v.ensures)

pub draw_rings-requires : goal.draw_rings-requires
draw_rings-requires c =
    (c.requires.0, omega arith, poly_in _ _ c.requires.0.sound _ c.requires.1 _ c.in_ok-v.ensures _ refl, c.requires.2)

pub returns : goal.returns
returns c =
    let e = c.in_ok-v.ensures in
    drawn_as c.draw_rings.ensures _ _ _ (poly_fits _ _ c.requires.0.sound _ c.requires.1 _ e _ refl) (poly_text _ _ c.requires.0.sound _ c.requires.1 _ e _ refl) (omega arith)
