-- `fill_ring` meets its contract: the record, which a sound file has, then the legs, then the ring closed.
-- Assumes nothing.
use Rattle.std.proofs.Common.{rules}
use Rattle.reader_outline.proofs.Legs.{ring_there, ops_there, ring_no, ring_room, ring_closed}
use Rattle.reader_outline.proofs.fill_ring.Goals as goal

pub returns-in_err-v : goal.returns-in_err-v
returns-in_err-v c = absurd (ring_there _ _ c.requires.ready _ c.requires.ring_lt_count _ c.in_err-v.ensures)

pub fill_legs-requires-clause-count_bound : goal.fill_legs-requires-clause-count_bound
fill_legs-requires-clause-count_bound c = ops_there _ _ c.requires.ready _ c.requires.ring_lt_count _ c.in_ok-v.ensures

pub returns-in_err-n : goal.returns-in_err-n
returns-in_err-n c =
    let p = ring_no _ _ c.requires.ready _ c.requires.ring_lt_count _ c.in_ok-v.ensures _ c.in_err-n.ensures.0 c.fill_legs.new.held in
    let e = p.0 in
    (search rules, p.1)

pub close_ring-requires : goal.close_ring-requires
close_ring-requires c =
    let n = ring_room _ _ c.requires.ready _ c.requires.ring_lt_count _ c.in_ok-v.ensures _ c.in_ok-n.ensures.0 in
    record { k_nonzero = n.0; few = n.1 }

pub returns : goal.returns
returns c =
    ring_closed _ _ c.requires.ready _ c.requires.ring_lt_count _ c.in_ok-v.ensures _ c.in_ok-n.ensures.0 _ c.in_ok-n.ensures.1 _ _ c.close_ring.ensures.0 c.close_ring.ensures.1
