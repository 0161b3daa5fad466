-- `lettering::position` meets its contract: two decimals between brackets, a comma between them.
-- Assumes nothing.
use mathlib.Core.Path.{ap}
use lib.Signed.{nat_abs-le}
use mir.Syntax.{w32}
use mir.ValLaws.{to_z-of_z}
use Rattle.plane.specs.Places.{point}
use Rattle.geojson.specs.Decimals.{decimal}
use Rattle.geojson.specs.Text.{position_text}
use Rattle.answer.proofs.OverLaws.{near, wrote, being, ◌behind◌}
use Rattle.geojson.proofs.Lengths.{position_most}
use Rattle.lettering.proofs.position.Goals as goal

pub returns : goal.returns
unfolding position_text
returns c =
    let x = to_z-of_z w32 c.args.x c.ranges.x in
    let y = to_z-of_z w32 c.args.y c.ranges.y in
    let small = position_most (point c.args.x c.args.y) (nat_abs-le c.args.x c.ranges.x.sfits) (nat_abs-le c.args.y c.ranges.y.sfits) in
    let w = wrote c.put-first.ensures.0 c.put-first.ensures.1
    behind being (ap decimal x) (wrote c.decimal-comma.ensures.0 c.decimal-comma.ensures.2)
    behind wrote c.put-second.ensures.0 c.put-second.ensures.1
    behind being (ap decimal y) (wrote c.decimal-last.ensures.0 c.decimal-last.ensures.2)
    behind wrote c.put.ensures.0 c.put.ensures.1 in
    (w.next, near _ _ _ _ w.next small, w.is)
