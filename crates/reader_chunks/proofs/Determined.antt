-- Any two answers that a promise allows are equal, and so is the lent memory: stated over the contracts themselves.
-- Assumes nothing.
use mathlib.Core.Path.{sym, ◌∙◌}
use Rattle.basics.specs.Determined.{Determined, DeterminedMemory}
use Rattle.reader_chunks.proofs.start_of.Reads as start-of-reads
use Rattle.reader_chunks.proofs.end_of.Reads as end-of-reads
use Rattle.reader_chunks.proofs.first_in.Reads as first-in-reads
use Rattle.reader_chunks.proofs.scan_in.Reads as scan-in-reads
use Rattle.reader_chunks.proofs.trace_in.Reads as trace-in-reads
use Rattle.reader_chunks.proofs.first_at.Reads as first-at-reads
use Rattle.reader_chunks.proofs.trace_at.Reads as trace-at-reads
use Rattle.reader_chunks.proofs.count_at.Reads as count-at-reads
use Rattle.reader_chunks.proofs.decode_chunk_points.Reads as decode-chunk-points-reads
use Rattle.reader_chunks.proofs.check_chunk_points.Reads as check-chunk-points-reads

pub start_of_law : Determined start-of-reads.Learnt
start_of_law κ a r r' e e' p q = p.0 ∙ sym q.0

pub end_of : Determined end-of-reads.Learnt
end_of κ a r r' e e' p q = p ∙ sym q

pub first_in_law : Determined first-in-reads.Learnt
first_in_law κ a r r' e e' p q = p ∙ sym q

pub scan_in_law : Determined scan-in-reads.Learnt
scan_in_law κ a r r' e e' p q = p ∙ sym q

pub trace_in_law : Determined trace-in-reads.Learnt
trace_in_law κ a r r' e e' p q = p ∙ sym q

pub first_at_law : Determined first-at-reads.Learnt
first_at_law κ a r r' e e' p q = p ∙ sym q

pub trace_at_law : Determined trace-at-reads.Learnt
trace_at_law κ a r r' e e' p q = p ∙ sym q

pub count_at_law : Determined count-at-reads.Learnt
count_at_law κ a r r' e e' p q = p ∙ sym q

pub decode_chunk_points : Determined decode-chunk-points-reads.Learnt
decode_chunk_points κ a r r' e e' p q = p.0 ∙ sym q.0

-- the lent numbers at exit
pub decode_chunk_points_memory : DeterminedMemory decode-chunk-points-reads.Learnt (λ κ e. e.1.1.1.0.now)
decode_chunk_points_memory κ a r r' e e' p q = p.1 ∙ sym q.1

pub check_chunk_points : Determined check-chunk-points-reads.Learnt
check_chunk_points κ a r r' e e' p q = p ∙ sym q
