-- Any two answers that a promise allows are equal: stated over the contracts themselves.
-- Assumes nothing.
use mathlib.Core.Path.{sym, ◌∙◌}
use Rattle.basics.specs.Determined.{Determined}
use Rattle.texts.proofs.comes_before.Reads as comes-before-reads

pub comes_before_law : Determined comes-before-reads.Learnt
comes_before_law κ a r r' e e' p q = p ∙ sym q
