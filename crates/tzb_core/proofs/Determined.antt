-- Any two answers that a promise allows are equal: stated over the contracts themselves.
-- Assumes nothing.
use Rattle.std.proofs.Common.{sym, ◌∙◌}
use Rattle.basics.specs.Determined.{Determined}
use Rattle.tzb_core.proofs.delta.add_delta.Reads as add-delta-reads
use Rattle.tzb_core.proofs.varint.unzigzag.Reads as unzigzag-reads
use Rattle.tzb_core.proofs.varint.Place.new.Reads as new-reads
use Rattle.tzb_core.proofs.varint.Place.at.Reads as at-reads
use Rattle.tzb_core.proofs.varint.Place.at_end.Reads as at-end-reads
use Rattle.tzb_core.proofs.varint.Place.varint.Reads as varint-reads

pub add_delta_law : Determined add-delta-reads.Learnt
add_delta_law κ a r r' e e' p q = p ∙ sym q

pub unzigzag : Determined unzigzag-reads.Learnt
unzigzag κ a r r' e e' p q = p ∙ sym q

pub new_law : Determined new-reads.Learnt
new_law κ a r r' e e' p q = p ∙ sym q

pub at_law : Determined at-reads.Learnt
at_law κ a r r' e e' p q = p ∙ sym q

pub at_end_law : Determined at-end-reads.Learnt
at_end_law κ a r r' e e' p q = p ∙ sym q

pub varint : Determined varint-reads.Learnt
varint κ a r r' e e' p q = p ∙ sym q
