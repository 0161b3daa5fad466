-- Any two answers that a promise allows are equal, and so is the lent memory: stated over the contracts themselves.
-- Assumes nothing.
use mathlib.Core.Path.{sym, ◌∙◌}
use Rattle.basics.specs.Determined.{Determined, DeterminedMemory}
use Rattle.reader_map.proofs.map_size.Reads as map-size-reads
use Rattle.reader_map.proofs.map_into.Reads as map-into-reads

pub map_size : Determined map-size-reads.Learnt
map_size κ a r r' e e' p q = p ∙ sym q

pub map_into : Determined map-into-reads.Learnt
map_into κ a r r' e e' p q = p.0 ∙ sym q.0

-- the lent bytes at exit
pub map_into_memory : DeterminedMemory map-into-reads.Learnt (λ κ e. e.1.1.1.0.now)
map_into_memory κ a r r' e e' p q = p.1 ∙ sym q.1
