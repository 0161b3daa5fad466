-- `text_end` meets its contract: the first zero of the part, or its end.
-- Assumes nothing.
use mathlib.Core.Path.{sym, ◌∙◌}
use Rattle.reader_head.proofs.HeadLaws.{zero_found, zero_missed}
use Rattle.reader_head.proofs.text_end.Goals as goal

pub returns-in-Some : goal.returns-in-Some
returns-in-Some c = zero_found _ _ _ c.requires.0 c.requires.1 _ (sym c.in-Some.is ∙ c.first_zero.ensures)

pub returns-in-None : goal.returns-in-None
returns-in-None c = zero_missed _ _ _ c.requires.0 c.requires.1 (sym c.in-None.is ∙ c.first_zero.ensures)
