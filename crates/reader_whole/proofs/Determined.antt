-- Any two answers that a promise allows are equal, and so is the lent memory: stated over the contracts themselves.
-- Assumes nothing.
use mathlib.Core.Path.{sym, ◌∙◌}
use Rattle.basics.specs.Determined.{Determined, DeterminedMemory}
use Rattle.reader_whole.proofs.whole_list.Reads as whole-list-reads

pub whole_list_law : Determined whole-list-reads.Learnt
whole_list_law κ a r r' e e' p q = p.0 ∙ sym q.0

-- the lent zones at exit
pub whole_list_memory : DeterminedMemory whole-list-reads.Learnt (λ κ e. e.1.1.1.0.now)
whole_list_memory κ a r r' e e' p q = p.1 ∙ sym q.1
