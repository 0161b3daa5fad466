-- Any two answers that a promise allows are equal: stated over the contracts themselves, as a caller learns them.
-- Assumes nothing.
use mathlib.Core.Path.{sym, ◌∙◌}
use Rattle.basics.specs.Determined.{Determined}
use Rattle.reader_groups.proofs.after.Reads as after-reads
use Rattle.reader_groups.proofs.scan_alone.Reads as scan-alone-reads
use Rattle.reader_groups.proofs.scan_group.Reads as scan-group-reads

pub after : Determined after-reads.Learnt
after κ a r r' e e' p q = p ∙ sym q

pub scan_alone : Determined scan-alone-reads.Learnt
scan_alone κ a r r' e e' p q = p ∙ sym q

pub scan_group : Determined scan-group-reads.Learnt
scan_group κ a r r' e e' p q = p ∙ sym q
