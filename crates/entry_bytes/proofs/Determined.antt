-- Any two answers that a promise allows are equal, and so is the lent memory: stated over the contracts themselves.
-- Assumes nothing.
use mathlib.Core.Path.{sym, ◌∙◌}
use Rattle.basics.specs.Determined.{Determined, DeterminedMemory}
use Rattle.entry_bytes.proofs.all_below.Reads as all-below-reads
use Rattle.entry_bytes.proofs.lay_entry.Reads as lay-entry-reads
use Rattle.entry_bytes.proofs.write_entry.Reads as write-entry-reads
use Rattle.entry_bytes.proofs.is_entry.Reads as is-entry-reads
use Rattle.entry_bytes.proofs.read_entry.Reads as read-entry-reads

pub all_below_law : Determined all-below-reads.Learnt
all_below_law κ a r r' e e' p q = p ∙ sym q

pub lay_entry : Determined lay-entry-reads.Learnt
lay_entry κ a r r' e e' p q = p.0 ∙ sym q.0

-- the lent bytes at exit
pub lay_entry_memory : DeterminedMemory lay-entry-reads.Learnt (λ κ e. e.1.1.1.1.0.now)
lay_entry_memory κ a r r' e e' p q = p.1 ∙ sym q.1

pub write_entry : Determined write-entry-reads.Learnt
write_entry κ a r r' e e' p q = p.0 ∙ sym q.0

-- the lent bytes at exit
pub write_entry_memory : DeterminedMemory write-entry-reads.Learnt (λ κ e. e.1.1.1.1.0.now)
write_entry_memory κ a r r' e e' p q = p.1 ∙ sym q.1

pub is_entry : Determined is-entry-reads.Learnt
is_entry κ a r r' e e' p q = p ∙ sym q

pub read_entry : Determined read-entry-reads.Learnt
read_entry κ a r r' e e' p q = p.0 ∙ sym q.0

-- the lent places at exit
pub read_entry_memory : DeterminedMemory read-entry-reads.Learnt (λ κ e. e.1.1.0.now)
read_entry_memory κ a r r' e e' p q = p.1 ∙ sym q.1
