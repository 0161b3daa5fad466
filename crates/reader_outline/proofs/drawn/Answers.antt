-- `drawn` meets its contract: too few positions, no area, a hole, or an outer ring.
-- Assumes nothing.
use mathlib.Core.Path.{◌∙◌}
use mir.Syntax.{w64}
use Rattle.basics.specs.Signed.{back}
use Rattle.reader_outline.proofs.Drawing.{zero_is, nonzero_is, drawn_few, drawn_flat, drawn_hole, drawn_outer}
use Rattle.reader_outline.proofs.drawn.Goals as goal

pub returns-then-n-lt4 : goal.returns-then-n-lt4
returns-then-n-lt4 c =
    c.fail.ensures ∙ drawn_few _ _ _ c.requires.n_bound.0 c.requires.n_bound.1 c.if-n-lt4.true

pub returns-then-area-eq0 : goal.returns-then-area-eq0
returns-then-area-eq0 c =
    c.fail-then-area-eq0.ensures ∙ drawn_flat _ _ _ c.requires.n_bound.0 c.requires.n_bound.1 c.if-n-lt4.false _ c.doubled_area-area.ensures (zero_is c.doubled_area-area.result c.doubled_area-area.type_inv c.if-area-eq0.true)

pub returns-then-hole : goal.returns-then-hole
returns-then-hole c =
    drawn_hole _ _ _ c.requires.n_bound.0 c.requires.n_bound.1 c.if-n-lt4.false _ c.doubled_area-area.ensures (nonzero_is c.doubled_area-area.result c.if-area-eq0.false) _ (back w64 _ c.doubled_area-area.type_inv) c.if-hole.true

pub returns-else-hole : goal.returns-else-hole
returns-else-hole c =
    drawn_outer _ _ _ c.requires.n_bound.0 c.requires.n_bound.1 c.if-n-lt4.false _ c.doubled_area-area.ensures (nonzero_is c.doubled_area-area.result c.if-area-eq0.false) _ (back w64 _ c.doubled_area-area.type_inv) c.if-hole.false
