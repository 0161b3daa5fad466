-- Any two answers that a promise allows are equal: stated over the contracts themselves.
-- Assumes nothing.
use mathlib.Core.Path.{sym, ◌∙◌}
use Rattle.basics.specs.Determined.{Determined}
use Rattle.reader_lookup.proofs.lookup_by.Reads as lookup-by-reads
use Rattle.reader_lookup.proofs.lookup.Reads as lookup-reads
use Rattle.reader_lookup.proofs.scaled_at.Reads as scaled-at-reads
use Rattle.reader_lookup.proofs.hit_at.Reads as hit-at-reads

pub lookup_by_law : Determined lookup-by-reads.Learnt
lookup_by_law κ a r r' e e' p q = p ∙ sym q

pub lookup : Determined lookup-reads.Learnt
lookup κ a r r' e e' p q = p ∙ sym q

pub scaled_at : Determined scaled-at-reads.Learnt
scaled_at κ a r r' e e' p q = p ∙ sym q

pub hit_at_law : Determined hit-at-reads.Learnt
hit_at_law κ a r r' e e' p q = p ∙ sym q
