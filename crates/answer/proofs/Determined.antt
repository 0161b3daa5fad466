-- Any two answers that a promise allows are equal: stated over the contracts themselves, as a caller learns them.
-- Assumes nothing.
use mathlib.Core.Path.{sym, ◌∙◌}
use denote.RattleType.{RattleType}
use denote.Param.Laws.{Laws}
use Rattle.basics.specs.Determined.{Determined}
use Rattle.answer.proofs.refuse.Reads as refuse-reads
use Rattle.answer.proofs.Refusal.placed_at.Reads as placed-at-reads
use Rattle.answer.proofs.Refusal.counted_from.Reads as counted-from-reads
use Rattle.answer.proofs.fail.Reads as fail-reads
use Rattle.answer.proofs.claim.Reads as claim-reads
use Rattle.answer.proofs.plus.Reads as plus-reads

pub refuse : Determined refuse-reads.Learnt
refuse κ a r r' e e' p q = p ∙ sym q

pub placed_at_law : Determined placed-at-reads.Learnt
placed_at_law κ a r r' e e' p q = p ∙ sym q

pub counted_from_law : Determined counted-from-reads.Learnt
counted_from_law κ a r r' e e' p q = p ∙ sym q

pub fail : (T : RattleType) (L : Laws T) → Determined (fail-reads.Learnt T L)
fail T L κ a r r' e e' p q = p ∙ sym q

pub claim : Determined claim-reads.Learnt
claim κ a r r' e e' p q = p ∙ sym q

pub plus : Determined plus-reads.Learnt
plus κ a r r' e e' p q = p ∙ sym q
