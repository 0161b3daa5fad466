-- Any two answers that a promise allows are equal: stated over the contracts themselves, as a caller learns them.
-- Assumes nothing.
use mathlib.Core.Path.{sym, ◌∙◌}
use Rattle.basics.specs.Determined.{Determined}
use Rattle.reader_records.proofs.list_at.Reads as list-at-reads
use Rattle.reader_records.proofs.tz_at.Reads as tz-at-reads
use Rattle.reader_records.proofs.poly_at.Reads as poly-at-reads
use Rattle.reader_records.proofs.ring_at.Reads as ring-at-reads
use Rattle.reader_records.proofs.op_at.Reads as op-at-reads
use Rattle.reader_records.proofs.group_place.Reads as group-place-reads
use Rattle.reader_records.proofs.group_at.Reads as group-at-reads
use Rattle.reader_records.proofs.chunk_at.Reads as chunk-at-reads
use Rattle.reader_records.proofs.group_in.Reads as group-in-reads
use Rattle.reader_records.proofs.chunk_in.Reads as chunk-in-reads
use Rattle.reader_records.proofs.group_rule.Reads as group-rule-reads
use Rattle.reader_records.proofs.chunk_rule.Reads as chunk-rule-reads
use Rattle.reader_records.proofs.count_rule.Reads as count-rule-reads

pub list_at_law : Determined list-at-reads.Learnt
list_at_law κ a r r' e e' p q = p ∙ sym q

pub tz_at_law : Determined tz-at-reads.Learnt
tz_at_law κ a r r' e e' p q = p ∙ sym q

pub poly_at_law : Determined poly-at-reads.Learnt
poly_at_law κ a r r' e e' p q = p ∙ sym q

pub ring_at_law : Determined ring-at-reads.Learnt
ring_at_law κ a r r' e e' p q = p ∙ sym q

pub op_at_law : Determined op-at-reads.Learnt
op_at_law κ a r r' e e' p q = p ∙ sym q

pub group_place_law : Determined group-place-reads.Learnt
group_place_law κ a r r' e e' p q = p ∙ sym q

pub group_at_law : Determined group-at-reads.Learnt
group_at_law κ a r r' e e' p q = p ∙ sym q

pub chunk_at_law : Determined chunk-at-reads.Learnt
chunk_at_law κ a r r' e e' p q = p ∙ sym q

pub group_in_law : Determined group-in-reads.Learnt
group_in_law κ a r r' e e' p q = p ∙ sym q

pub chunk_in_law : Determined chunk-in-reads.Learnt
chunk_in_law κ a r r' e e' p q = p ∙ sym q

pub group_rule_law : Determined group-rule-reads.Learnt
group_rule_law κ a r r' e e' p q = p ∙ sym q

pub chunk_rule_law : Determined chunk-rule-reads.Learnt
chunk_rule_law κ a r r' e e' p q = p ∙ sym q

pub count_rule_law : Determined count-rule-reads.Learnt
count_rule_law κ a r r' e e' p q = p ∙ sym q
