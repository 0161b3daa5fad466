-- `before_zone` meets its contract: the two names are compared.
-- Assumes nothing.
use mathlib.Core.Path.{ap, ◌∙◌}
use Rattle.texts.specs.Spelled.{comes_before}
use Rattle.reader_order.proofs.before_zone.Goals as goal

pub returns : goal.returns
returns c = c.comes_before.ensures ∙ ap (comes_before _) c.name.ensures.result_value
