-- Any two answers that a promise allows are equal, and so is what the lent bytes hold: stated over the contracts themselves.
-- Assumes nothing.
use mathlib.Core.Path.{sym, ◌∙◌}
use Rattle.basics.specs.Determined.{Determined, DeterminedMemory}
use Rattle.lettering.proofs.put.Reads as put_reads
use Rattle.lettering.proofs.decimal.Reads as decimal-reads
use Rattle.lettering.proofs.position.Reads as position-reads
use Rattle.lettering.proofs.head.Reads as head-reads
use Rattle.lettering.proofs.tail.Reads as tail-reads

pub put : Determined put_reads.Learnt
put κ a r r' e e' p q = p.0 ∙ sym q.0

pub put_memory : DeterminedMemory put_reads.Learnt (λ κ e. e.0.now)
put_memory κ a r r' e e' p q = p.1 ∙ sym q.1

pub decimal : Determined decimal-reads.Learnt
decimal κ a r r' e e' p q = p.0 ∙ sym q.0

pub decimal_memory : DeterminedMemory decimal-reads.Learnt (λ κ e. e.0.now)
decimal_memory κ a r r' e e' p q = p.2 ∙ sym q.2

pub position : Determined position-reads.Learnt
position κ a r r' e e' p q = p.0 ∙ sym q.0

pub position_memory : DeterminedMemory position-reads.Learnt (λ κ e. e.0.now)
position_memory κ a r r' e e' p q = p.2 ∙ sym q.2

pub head : Determined head-reads.Learnt
head κ a r r' e e' p q = p.0 ∙ sym q.0

pub head_memory : DeterminedMemory head-reads.Learnt (λ κ e. e.0.now)
head_memory κ a r r' e e' p q = p.1 ∙ sym q.1

pub tail : Determined tail-reads.Learnt
tail κ a r r' e e' p q = p.0 ∙ sym q.0

pub tail_memory : DeterminedMemory tail-reads.Learnt (λ κ e. e.0.now)
tail_memory κ a r r' e e' p q = p.1 ∙ sym q.1
