-- Any two answers that a promise allows are equal: stated over the contract itself.
-- Assumes nothing.
use mathlib.Core.Path.{sym, ◌∙◌}
use Rattle.basics.specs.Determined.{Determined}
use Rattle.reader_ways.proofs.scan_by.Reads as scan-by-reads

pub scan_by : Determined scan-by-reads.Learnt
scan_by κ a r r' e e' p q = p ∙ sym q
