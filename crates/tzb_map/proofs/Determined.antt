-- Any two answers that a promise allows are equal, and so is the lent memory: stated over the contracts themselves.
-- Assumes nothing.
use mathlib.Core.Path.{sym, ◌∙◌}
use Rattle.basics.specs.Determined.{Determined, DeterminedMemory}
use Rattle.tzb_map.proofs.map_length.Reads as map-length-reads
use Rattle.tzb_map.proofs.map.Reads as map-reads

pub map_length : Determined map-length-reads.Learnt
map_length κ a r r' e e' p q = p ∙ sym q

pub map : Determined map-reads.Learnt
map κ a r r' e e' p q = p.0 ∙ sym q.0

-- the lent bytes at exit
pub map_memory : DeterminedMemory map-reads.Learnt (λ κ e. e.1.1.0.now)
map_memory κ a r r' e e' p q = p.1 ∙ sym q.1
