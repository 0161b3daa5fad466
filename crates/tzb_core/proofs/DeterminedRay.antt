-- Any two answers that a promise of the ray test allows are equal: stated over the contracts themselves.
-- Assumes nothing.
use Rattle.std.proofs.Common.{sym, ◌∙◌}
use Rattle.basics.specs.Determined.{Determined}
use Rattle.tzb_core.proofs.raycast.next_up.Reads as next-up-reads
use Rattle.tzb_core.proofs.raycast.raycast_seg.Reads as raycast-seg-reads
use Rattle.tzb_core.proofs.raycast.endpoint_parity.Reads as endpoint-parity-reads
use Rattle.tzb_core.proofs.raycast.to_point.Reads as to-point-reads

pub next_up_law : Determined next-up-reads.Learnt
next_up_law κ a r r' e e' p q = p ∙ sym q

pub raycast_seg : Determined raycast-seg-reads.Learnt
raycast_seg κ a r r' e e' p q = p.0 ∙ sym q.0

pub endpoint_parity : Determined endpoint-parity-reads.Learnt
endpoint_parity κ a r r' e e' p q = p ∙ sym q

pub to_point : Determined to-point-reads.Learnt
to_point κ a r r' e e' p q = p ∙ sym q
