-- Any two answers that a promise allows are equal, and so is the lent memory: stated over the contracts themselves.
-- Assumes nothing.
use mathlib.Core.Path.{sym, ◌∙◌}
use Rattle.basics.specs.Determined.{Determined, DeterminedMemory}
use Rattle.tzb_record.proofs.read_record.Reads as read-record-reads
use Rattle.tzb_record.proofs.write_record.Reads as write-record-reads

pub read_record : Determined read-record-reads.Learnt
read_record κ a r r' e e' p q = p ∙ sym q

pub write_record : Determined write-record-reads.Learnt
write_record κ a r r' e e' p q = p.0 ∙ sym q.0

-- the lent bytes at exit
pub write_record_memory : DeterminedMemory write-record-reads.Learnt (λ κ e. e.1.0.now)
write_record_memory κ a r r' e e' p q = p.1 ∙ sym q.1
