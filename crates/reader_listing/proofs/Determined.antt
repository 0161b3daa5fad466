-- Any two answers that a promise allows are equal, and so is the lent memory: stated over the contracts themselves.
-- Assumes nothing.
use mathlib.Core.Path.{sym, ◌∙◌}
use Rattle.basics.specs.Determined.{Determined, DeterminedMemory}
use Rattle.reader_listing.proofs.list_in.Reads as list-in-reads
use Rattle.reader_listing.proofs.lookup_into_by.Reads as lookup-into-by-reads
use Rattle.reader_listing.proofs.lookup_into.Reads as lookup-into-reads
use Rattle.reader_listing.proofs.count_into_by.Reads as count-into-by-reads

pub list_in_law : Determined list-in-reads.Learnt
list_in_law κ a r r' e e' p q = p.0 ∙ sym q.0

pub lookup_into_by : Determined lookup-into-by-reads.Learnt
lookup_into_by κ a r r' e e' p q = p.0 ∙ sym q.0

pub lookup_into : Determined lookup-into-reads.Learnt
lookup_into κ a r r' e e' p q = p.0 ∙ sym q.0

pub count_into_by : Determined count-into-by-reads.Learnt
count_into_by κ a r r' e e' p q = p ∙ sym q

-- the lent zones at exit
pub list_in_memory : DeterminedMemory list-in-reads.Learnt (λ κ e. e.1.1.1.1.1.0.now)
list_in_memory κ a r r' e e' p q = p.1 ∙ sym q.1

pub lookup_into_by_memory : DeterminedMemory lookup-into-by-reads.Learnt (λ κ e. e.1.1.1.1.1.0.now)
lookup_into_by_memory κ a r r' e e' p q = p.1 ∙ sym q.1

pub lookup_into_memory : DeterminedMemory lookup-into-reads.Learnt (λ κ e. e.1.1.1.1.0.now)
lookup_into_memory κ a r r' e e' p q = p.1 ∙ sym q.1
