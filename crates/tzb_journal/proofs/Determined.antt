-- Any two answers that a promise allows are equal, and so is the lent memory: stated over the contracts themselves.
-- Assumes nothing.
use mathlib.Core.Path.{sym, ◌∙◌}
use Rattle.basics.specs.Determined.{Determined, DeterminedMemory}
use Rattle.tzb_journal.proofs.note.Reads as note-reads
use Rattle.tzb_journal.proofs.ask.Reads as ask-reads
use Rattle.tzb_journal.proofs.write.Reads as write-reads
use Rattle.tzb_journal.proofs.read.Reads as read-reads

pub note : Determined note-reads.Learnt
note κ a r r' e e' p q = p.0 ∙ sym q.0

-- the lent bytes at exit
pub note_memory : DeterminedMemory note-reads.Learnt (λ κ e. e.1.1.1.1.0.now)
note_memory κ a r r' e e' p q = p.1 ∙ sym q.1

pub ask : Determined ask-reads.Learnt
ask κ a r r' e e' p q = p.0 ∙ sym q.0

-- the lent bytes at exit
pub ask_memory : DeterminedMemory ask-reads.Learnt (λ κ e. e.1.1.1.1.0.now)
ask_memory κ a r r' e e' p q = p.1 ∙ sym q.1

pub write : Determined write-reads.Learnt
write κ a r r' e e' p q = p.0 ∙ sym q.0

-- the lent bytes at exit
pub write_memory : DeterminedMemory write-reads.Learnt (λ κ e. e.1.1.1.1.0.now)
write_memory κ a r r' e e' p q = p.1 ∙ sym q.1

pub read : Determined read-reads.Learnt
read κ a r r' e e' p q = p.0 ∙ sym q.0

-- the numbers lent for the position at exit, and the places
pub read_memory : DeterminedMemory read-reads.Learnt (λ κ e. e.1.1.0.now)
read_memory κ a r r' e e' p q = p.1.0 ∙ sym q.1.0

pub read_places : DeterminedMemory read-reads.Learnt (λ κ e. e.1.1.1.0.now)
read_places κ a r r' e e' p q = p.1.1 ∙ sym q.1.1
