-- `draw_zone` meets its contract: the head, the polygons that its record names, the tail.
-- Assumes nothing.
use native.Mathlib.Omega.{arith}
use mathlib.Core.Path.{refl, sym, ◌∙◌}
use Rattle.std.proofs.Common.{rules}
use Rattle.geojson.specs.Text.{head_text, tail_text}
use Rattle.answer.proofs.OverLaws.{wrote, being, ◌behind◌}
use Rattle.reader_map.proofs.Onward.{drawn_so, drawn_no, drawn_same, drawn_was, drawn_not}
use Rattle.reader_map.proofs.Parts.{zone_there, zone_in_law, zone_fits_law, zone_text_law}
use Rattle.reader_map.proofs.draw_zone.Goals as goal

pub returns-in_err-v : goal.returns-in_err-v
returns-in_err-v c = absurd (zone_there _ _ c.requires.0.sound _ c.requires.1 _ c.in_err-v.ensures)

pub draw_polygons-requires : goal.draw_polygons-requires
draw_polygons-requires c =
    (c.requires.0, omega arith, zone_in_law _ _ c.requires.0.sound _ c.requires.1 _ c.in_ok-v.ensures _ refl, omega (arith, c.head-from.ensures.0))

pub returns-in_err-e : goal.returns-in_err-e
returns-in_err-e c =
    let n = drawn_not c.draw_polygons.ensures _ c.in_err-e.was in
    drawn_same (drawn_no _ n.1 (sym (zone_fits_law _ _ c.requires.0.sound _ c.requires.1 _ c.in_ok-v.ensures _ refl) ∙ n.0)) (search rules)

pub tail-requires : goal.tail-requires
tail-requires c =
    let w = drawn_was c.draw_polygons.ensures _ c.in_ok-e.was in
    omega (arith, w.1.next, w.2, c.head-from.ensures.0)

pub returns : goal.returns
returns c =
    let e = c.in_ok-v.ensures in
    let n = drawn_was c.draw_polygons.ensures _ c.in_ok-e.was in
    let all = wrote {a = head_text} c.head-from.ensures.0 c.head-from.ensures.1 behind n.1 behind wrote {a = tail_text} c.tail.ensures.0 c.tail.ensures.1 in
    drawn_so (sym (zone_fits_law _ _ c.requires.0.sound _ c.requires.1 _ e _ refl) ∙ n.0) (being (zone_text_law _ _ c.requires.0.sound _ c.requires.1 _ e _ refl) all)
    (omega (arith, c.head-from.ensures.0, n.1.next, n.2, c.tail.ensures.0))
