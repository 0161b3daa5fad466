-- Any two answers that a promise allows are equal: stated over the contracts themselves.
-- Assumes nothing.
use mathlib.Core.Path.{sym, ◌∙◌}
use Rattle.basics.specs.Determined.{Determined}
use Rattle.reader_head.proofs.text_end.Reads as text-end-reads
use Rattle.reader_head.proofs.head.Reads as head-reads

pub text_end : Determined text-end-reads.Learnt
text_end κ a r r' e e' p q = p.0 ∙ sym q.0

pub head : Determined head-reads.Learnt
head κ a r r' e e' p q = p ∙ sym q
