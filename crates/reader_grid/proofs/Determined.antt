-- Any two answers that a promise allows are equal: stated over the contracts themselves.
-- Assumes nothing.
use mathlib.Core.Path.{sym, ◌∙◌}
use Rattle.basics.specs.Determined.{Determined}
use Rattle.reader_grid.proofs.grid.Reads as grid-reads
use Rattle.reader_grid.proofs.area.Reads as area-reads

pub grid : Determined grid-reads.Learnt
grid κ a r r' e e' p q = p ∙ sym q

pub area : Determined area-reads.Learnt
area κ a r r' e e' p q = p.0 ∙ sym q.0
