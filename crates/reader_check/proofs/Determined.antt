-- Any two answers that a promise allows are equal: stated over the contract itself.
-- Assumes nothing.
use mathlib.Core.Path.{sym, ◌∙◌}
use Rattle.basics.specs.Determined.{Determined}
use Rattle.reader_check.proofs.broken_rule.Reads as broken-rule-reads

pub broken_rule : Determined broken-rule-reads.Learnt
broken_rule κ a r r' e e' p q = p ∙ sym q
