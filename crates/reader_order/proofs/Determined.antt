-- Any two answers that a promise allows are equal, and so is the lent memory: stated over the contracts themselves.
-- Assumes nothing.
use mathlib.Core.Path.{refl, sym, ◌∙◌}
use Rattle.basics.specs.Determined.{Determined, DeterminedMemory}
use Rattle.reader_order.proofs.sort_zones.Reads as sort-zones-reads

pub sort_zones : Determined sort-zones-reads.Learnt
sort_zones κ a r r' e e' p q = refl

-- the lent zones at exit
pub sort_zones_memory : DeterminedMemory sort-zones-reads.Learnt (λ κ e. e.1.1.0.now)
sort_zones_memory κ a r r' e e' p q = p ∙ sym q
