-- Any two answers that the promise allows are equal: stated over the contract itself.
-- Assumes nothing.
use Rattle.std.proofs.Common.{sym, ◌∙◌}
use Rattle.basics.specs.Determined.{Determined}
use Rattle.floors.proofs.floor.Reads as floor-reads

pub floor : Determined floor-reads.Learnt
floor κ a r r' e e' p q = p.0 ∙ sym q.0
