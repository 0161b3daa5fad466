-- Any two answers that a promise allows are equal: stated over the contracts themselves.
-- Assumes nothing.
use mathlib.Core.Path.{sym, ◌∙◌}
use Rattle.basics.specs.Determined.{Determined}
use Rattle.reader_names.proofs.names.Reads as names-reads

pub names : Determined names-reads.Learnt
names κ a r r' e e' p q = p ∙ sym q
