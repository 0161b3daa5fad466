-- Any two answers that a promise allows are equal, and so are the lent numbers: stated over the contracts themselves.
-- Assumes nothing.
use mathlib.Core.Path.{sym, ◌∙◌}
use Rattle.basics.specs.Determined.{Determined, DeterminedMemory}
use Rattle.reader_stripes.proofs.stripes_need.Reads as stripes-need-reads
use Rattle.reader_stripes.proofs.stripes.Reads as stripes-reads

pub stripes_need_law : Determined stripes-need-reads.Learnt
stripes_need_law κ a r r' e e' p q = p ∙ sym q

pub stripes : Determined stripes-reads.Learnt
stripes κ a r r' e e' p q = p.0 ∙ sym q.0

-- the lent numbers at exit
pub stripes_memory : DeterminedMemory stripes-reads.Learnt (λ κ e. e.1.1.0.now)
stripes_memory κ a r r' e e' p q = p.1 ∙ sym q.1
