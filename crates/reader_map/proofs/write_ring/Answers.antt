-- `write_ring` meets its contract: what remains, laid from here, is the whole.
-- Assumes nothing.
use mir.Syntax.{w32}
use Rattle.basics.specs.Signed.{back}
use Rattle.reader_map.proofs.Spots.{ring_start, ring_step, ring_done, ring_most}
use Rattle.reader_map.proofs.write_ring.Goals as goal

pub loop-i-init : goal.loop-i-init
loop-i-init c = ring_start _ _ _ _ _

pub loop-i-preserved : goal.loop-i-preserved
loop-i-preserved c =
    ring_step _ _ _ c.requires.2 _ _ _ _ _ _ c.loop-i.invariant c.loop-i-test.true
    _ c.spot-x.ensures.0 _ _ (back w32 _ c.position-arg-in-loop-i-1.given) (back w32 _ c.position-arg-in-loop-i-2-1.given)
    _ _ c.put-next.ensures.0 c.put-next.ensures.1 _ _ c.position-at.ensures.0 c.position-at.ensures.1 c.position-at.ensures.2

pub returns : goal.returns
returns c =
    let pre = c.requires in
    let d = ring_done _ _ _ pre.2 _ _ _ _ _ _ c.loop-i.invariant c.loop-i-test.false pre.0 _ _ c.put.ensures.0 c.put.ensures.1 in
    (d.next, ring_most _ _ _ pre.2 _ _ _ _ _ _ c.loop-i.invariant c.loop-i-test.false pre.0 _ _ c.put.ensures.0 c.put.ensures.1 pre.1, d.is)
