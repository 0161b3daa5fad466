-- Any two answers that a promise allows are equal: stated over the contracts themselves.
-- Assumes nothing.
use mathlib.Core.Path.{sym, ◌∙◌}
use Rattle.basics.specs.Determined.{Determined}
use Rattle.reader_opened.proofs.present.Reads as present-reads
use Rattle.reader_opened.proofs.flag.Reads as flag-reads
use Rattle.reader_opened.proofs.zone_length.Reads as zone-length-reads
use Rattle.reader_opened.proofs.lengths.Reads as lengths-reads
use Rattle.reader_opened.proofs.counts.Reads as counts-reads
use Rattle.reader_opened.proofs.grid_of.Reads as grid-of-reads
use Rattle.reader_opened.proofs.read_sections.Reads as read-sections-reads
use Rattle.reader_opened.proofs.opened_of.Reads as opened-of-reads

pub present : Determined present-reads.Learnt
present κ a r r' e e' p q = p ∙ sym q

pub flag : Determined flag-reads.Learnt
flag κ a r r' e e' p q = p ∙ sym q

pub zone_length : Determined zone-length-reads.Learnt
zone_length κ a r r' e e' p q = p ∙ sym q

pub lengths : Determined lengths-reads.Learnt
lengths κ a r r' e e' p q = p ∙ sym q

pub counts : Determined counts-reads.Learnt
counts κ a r r' e e' p q = p ∙ sym q

pub grid_of_law : Determined grid-of-reads.Learnt
grid_of_law κ a r r' e e' p q = p ∙ sym q

pub read_sections : Determined read-sections-reads.Learnt
read_sections κ a r r' e e' p q = p ∙ sym q

pub opened_of : Determined opened-of-reads.Learnt
opened_of κ a r r' e e' p q = p ∙ sym q
