-- Any two answers that a promise allows are equal: stated over the contract itself.
-- Assumes nothing.
use mathlib.Core.Path.{sym, ◌∙◌}
use Rattle.basics.specs.Determined.{Determined}
use Rattle.utf8.proofs.utf8_ok.Reads as utf8-ok-reads

pub utf8_ok : Determined utf8-ok-reads.Learnt
utf8_ok κ a r r' e e' p q = p ∙ sym q
