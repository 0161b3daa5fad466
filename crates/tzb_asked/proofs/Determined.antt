-- Any two answers that a promise allows are equal, and so is the lent memory: stated over the contracts themselves.
-- Assumes nothing.
use mathlib.Core.Path.{sym, ◌∙◌}
use Rattle.basics.specs.Determined.{Determined, DeterminedMemory}
use Rattle.tzb_asked.proofs.name_bounds.Reads as name-bounds-reads
use Rattle.tzb_asked.proofs.name_ends.Reads as name-ends-reads
use Rattle.tzb_asked.proofs.candidates.Reads as candidates-reads
use Rattle.tzb_asked.proofs.candidate_at.Reads as candidate-at-reads
use Rattle.tzb_asked.proofs.contains_by.Reads as contains-by-reads
use Rattle.tzb_asked.proofs.decode.Reads as decode-reads
use Rattle.tzb_asked.proofs.check_decode.Reads as check-decode-reads
use Rattle.tzb_asked.proofs.lookup_by.Reads as lookup-by-reads
use Rattle.tzb_asked.proofs.lookup_into_by.Reads as lookup-into-by-reads
use Rattle.tzb_asked.proofs.count_into_by.Reads as count-into-by-reads
use Rattle.tzb_asked.proofs.stripes_need.Reads as stripes-need-reads
use Rattle.tzb_asked.proofs.stripes.Reads as stripes-reads

pub name_bounds : Determined name-bounds-reads.Learnt
name_bounds κ a r r' e e' p q = p ∙ sym q

pub name_ends : Determined name-ends-reads.Learnt
name_ends κ a r r' e e' p q = p.0 ∙ sym q.0

-- the lent numbers at exit
pub name_ends_memory : DeterminedMemory name-ends-reads.Learnt (λ κ e. e.1.1.1.0.now)
name_ends_memory κ a r r' e e' p q = p.1 ∙ sym q.1

pub candidates : Determined candidates-reads.Learnt
candidates κ a r r' e e' p q = p ∙ sym q

pub candidate_at_law : Determined candidate-at-reads.Learnt
candidate_at_law κ a r r' e e' p q = p ∙ sym q

pub contains_by_law : Determined contains-by-reads.Learnt
contains_by_law κ a r r' e e' p q = p ∙ sym q

pub decode : Determined decode-reads.Learnt
decode κ a r r' e e' p q = p.0 ∙ sym q.0

-- the lent numbers at exit
pub decode_memory : DeterminedMemory decode-reads.Learnt (λ κ e. e.1.1.1.0.now)
decode_memory κ a r r' e e' p q = p.1 ∙ sym q.1

pub check_decode : Determined check-decode-reads.Learnt
check_decode κ a r r' e e' p q = p ∙ sym q

pub lookup_by_law : Determined lookup-by-reads.Learnt
lookup_by_law κ a r r' e e' p q = p ∙ sym q

pub lookup_into_by : Determined lookup-into-by-reads.Learnt
lookup_into_by κ a r r' e e' p q = p.0 ∙ sym q.0

-- the lent places at exit
pub lookup_into_by_memory : DeterminedMemory lookup-into-by-reads.Learnt (λ κ e. e.1.1.1.1.1.0.now)
lookup_into_by_memory κ a r r' e e' p q = p.1 ∙ sym q.1

pub count_into_by : Determined count-into-by-reads.Learnt
count_into_by κ a r r' e e' p q = p ∙ sym q

pub stripes_need_law : Determined stripes-need-reads.Learnt
stripes_need_law κ a r r' e e' p q = p ∙ sym q

pub stripes : Determined stripes-reads.Learnt
stripes κ a r r' e e' p q = p.0 ∙ sym q.0

-- the lent numbers at exit
pub stripes_memory : DeterminedMemory stripes-reads.Learnt (λ κ e. e.1.1.0.now)
stripes_memory κ a r r' e e' p q = p.1 ∙ sym q.1
