-- `close_ring` meets its contract: closed already, no room for one position more, or closed now.
-- Assumes nothing.
use mathlib.Core.Path.{◌∙◌}
use native.Mathlib.Omega.{arith}
use Rattle.std.proofs.Common.{rules}
use Rattle.plane.specs.Segment.{same_point}
use Rattle.reader_outline.proofs.Stringing.{closed_already, closed_over, closed_now}
use Rattle.reader_outline.proofs.close_ring.Goals as goal

pub returns-then-eq : goal.returns-then-eq
unfolding same_point
returns-then-eq c =
    closed_already _ _ c.requires.k_nonzero c.requires.few c.told-held _ _ c.point_at-a.ensures c.point_at-z.ensures (search rules)

pub returns-then-k-eq10000 : goal.returns-then-k-eq10000
unfolding same_point
returns-then-k-eq10000 c =
    let n = closed_over _ _ c.requires.k_nonzero c.requires.few c.told-held _ _ c.point_at-a.ensures c.point_at-z.ensures (search rules) c.if-k-eq10000.true _ in
    (c.fail.ensures ∙ n.0, n.1)

pub returns : goal.returns
unfolding same_point
returns c =
    closed_now _ _ c.requires.k_nonzero c.requires.few c.told-held _ _ c.point_at-a.ensures c.point_at-z.ensures (search rules) (omega (arith, c.if-k-eq10000.false, c.requires.few)) _ c.put_at.auto.held c.put_at.ensures
