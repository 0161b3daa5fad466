-- Any two answers that a promise allows are equal: stated over the contracts themselves.
-- Assumes nothing.
use mathlib.Core.Path.{sym, ◌∙◌}
use Rattle.basics.specs.Determined.{Determined}
use Rattle.reader_rings.proofs.ring_contains.Reads as ring-contains-reads

pub ring_contains_law : Determined ring-contains-reads.Learnt
ring_contains_law κ a r r' e e' p q = p ∙ sym q
