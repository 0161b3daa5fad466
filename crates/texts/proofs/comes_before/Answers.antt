-- `comes_before` meets its contract: behind the equal front it is the library's order.
-- Assumes nothing.
use mathlib.Core.Path.{◌∙◌}
use Rattle.texts.proofs.Bytes.{library_from}
use Rattle.texts.proofs.comes_before.Goals as goal

pub returns : goal.returns
returns c = library_from c.args.a.now c.args.b.now c.same_front-i.result c.lt.result c.lt.ensures ∙ c.same_front-i.ensures.b_value
