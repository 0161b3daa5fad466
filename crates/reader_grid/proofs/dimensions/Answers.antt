-- `dimensions` meets its contract: the nine comparisons of the definition, each number as its width holds it.
-- Assumes nothing.
use mathlib.Core.Path.{ap, ◌∙◌}
use lib.IntN.{ℤ}
use mir.Syntax.{w16, w32}
use Rattle.reader_grid.specs.Grid.{last_of, dimensions}
use Rattle.basics.specs.Signed.{back}
use Rattle.reader_grid.proofs.dimensions.Goals as goal

pub returns : goal.returns
unfolding dimensions
returns c =
    let g = c.args.g in
    let lng = back w16 g.lng c.struct_told-5-1.given.1.0.1 in
    let lat = back w16 g.lat c.struct_told-6-1.given.1.1.0.1 in
    let east = back w32 c.last.result c.last.type_inv ∙ c.last.ensures ∙ ap (λ (z : ℤ). last_of z g.cols) lng in
    let north = back w32 c.last-2.result c.last-2.type_inv ∙ c.last-2.ensures ∙ ap (λ (z : ℤ). last_of z g.rows) lat in
    rw (lng, lat, east, north)
