-- `fields::inside` meets its contract: no sum is made that could overflow.
-- Assumes nothing.
use mathlib.Core.Path.{◌∙◌}
use borrow.Author.Tests.{lt-leb}
use Rattle.fields.proofs.LoadsLaws.{too_few, inside_by}
use Rattle.fields.proofs.inside.Goals as goal

pub returns-then-n-raw : goal.returns-then-n-raw
returns-then-n-raw c = inside_by _ _ _ c.if-n-raw.true

pub returns-else-n-raw : goal.returns-else-n-raw
returns-else-n-raw c = lt-leb _ _ c.if-n-raw.false ∙ too_few _ _ _ c.if-n-raw.false
