-- Any two answers that a promise allows are equal: stated over the contracts themselves.
-- Assumes nothing.
use mathlib.Core.Path.{sym, ◌∙◌}
use Rattle.basics.specs.Determined.{Determined}
use Rattle.reader_dirs.proofs.chunks.Reads as chunks-reads
use Rattle.reader_dirs.proofs.groups.Reads as groups-reads

pub chunks : Determined chunks-reads.Learnt
chunks κ a r r' e e' p q = p ∙ sym q

pub groups : Determined groups-reads.Learnt
groups κ a r r' e e' p q = p ∙ sym q
