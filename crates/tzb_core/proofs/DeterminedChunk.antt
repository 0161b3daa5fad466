-- Any two answers that a promise of the chunk code allows are equal, and so is the lent memory: stated over the contracts themselves.
-- Assumes nothing.
use Rattle.std.proofs.Common.{sym, ◌∙◌}
use Rattle.basics.specs.Determined.{Determined, DeterminedMemory}
use Rattle.tzb_core.proofs.chunk.first_point.Reads as first-point-reads
use Rattle.tzb_core.proofs.chunk.next_point.Reads as next-point-reads
use Rattle.tzb_core.proofs.chunk.scan_chunk.Reads as scan-chunk-reads
use Rattle.tzb_core.proofs.chunk.trace_chunk.Reads as trace-chunk-reads
use Rattle.tzb_core.proofs.chunk.with_side.Reads as with-side-reads
use Rattle.tzb_core.proofs.chunk.count_chunk.Reads as count-chunk-reads
use Rattle.tzb_core.proofs.chunk.decode_points.Reads as decode-points-reads

pub first_point : Determined first-point-reads.Learnt
first_point κ a r r' e e' p q = p ∙ sym q

pub next_point : Determined next-point-reads.Learnt
next_point κ a r r' e e' p q = p ∙ sym q

pub scan_chunk : Determined scan-chunk-reads.Learnt
scan_chunk κ a r r' e e' p q = p ∙ sym q

pub trace_chunk : Determined trace-chunk-reads.Learnt
trace_chunk κ a r r' e e' p q = p ∙ sym q

pub with_side_law : Determined with-side-reads.Learnt
with_side_law κ a r r' e e' p q = p ∙ sym q

pub count_chunk : Determined count-chunk-reads.Learnt
count_chunk κ a r r' e e' p q = p ∙ sym q

pub decode_points : Determined decode-points-reads.Learnt
decode_points κ a r r' e e' p q = p.0 ∙ sym q.0

-- the lent numbers at exit
pub decode_points_memory : DeterminedMemory decode-points-reads.Learnt (λ κ e. e.1.1.0.now)
decode_points_memory κ a r r' e e' p q = p.1 ∙ sym q.1
