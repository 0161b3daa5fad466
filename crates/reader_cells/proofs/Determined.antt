-- Any two answers that a promise allows are equal: stated over the contracts themselves.
-- Assumes nothing.
use mathlib.Core.Path.{sym, ◌∙◌}
use Rattle.basics.specs.Determined.{Determined}
use Rattle.reader_cells.proofs.candidates.Reads as candidates-reads
use Rattle.reader_cells.proofs.candidate_at.Reads as candidate-at-reads

pub candidates : Determined candidates-reads.Learnt
candidates κ a r r' e e' p q = p ∙ sym q

pub candidate_at_law : Determined candidate-at-reads.Learnt
candidate_at_law κ a r r' e e' p q = p ∙ sym q
