-- Any two answers that a promise allows are equal: stated over the contracts themselves.
-- Assumes nothing.
use mathlib.Core.Path.{sym, ◌∙◌}
use Rattle.basics.specs.Determined.{Determined}
use Rattle.reader_table.proofs.Table.count.Reads as count-reads
use Rattle.reader_table.proofs.Table.seen.Reads as seen-reads
use Rattle.reader_table.proofs.Table.entries.Reads as entries-reads
use Rattle.reader_table.proofs.Table.section.Reads as section-reads

pub count : Determined count-reads.Learnt
count κ a r r' e e' p q = p.0 ∙ sym q.0

pub seen : Determined seen-reads.Learnt
seen κ a r r' e e' p q = p ∙ sym q

pub entries : Determined entries-reads.Learnt
entries κ a r r' e e' p q = p ∙ sym q

pub section : Determined section-reads.Learnt
section κ a r r' e e' p q = p ∙ sym q
