-- Any two answers that a promise allows are equal: stated over the contracts themselves.
-- Assumes nothing.
use mathlib.Core.Path.{sym, ◌∙◌}
use Rattle.basics.specs.Determined.{Determined}
use Rattle.reader_zones.proofs.timezone_contains.Reads as timezone-contains-reads
use Rattle.reader_zones.proofs.contains_by.Reads as contains-by-reads
use Rattle.reader_zones.proofs.contains.Reads as contains-reads

pub timezone_contains : Determined timezone-contains-reads.Learnt
timezone_contains κ a r r' e e' p q = p ∙ sym q

pub contains_by_law : Determined contains-by-reads.Learnt
contains_by_law κ a r r' e e' p q = p ∙ sym q

pub contains : Determined contains-reads.Learnt
contains κ a r r' e e' p q = p ∙ sym q
