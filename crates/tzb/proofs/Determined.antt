-- Any two answers that a promise allows are equal: stated over the contract itself.
-- Assumes nothing.
use mathlib.Core.Path.{sym, ◌∙◌}
use Rattle.basics.specs.Determined.{Determined}
use Rattle.tzb.proofs.full_check.Reads as full-check-reads
use Rattle.tzb.proofs.open.Reads as open-reads

pub opens : Determined open-reads.Learnt
opens κ a r r' e e' p q = p ∙ sym q

pub checks : Determined full-check-reads.Learnt
checks κ a r r' e e' p q = p ∙ sym q
