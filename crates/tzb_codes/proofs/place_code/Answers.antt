-- `place_code` meets its contract: a place, or none.
-- Assumes nothing.
use mathlib.Core.Path.{◌∙◌}
use mir.Syntax.{w64}
use Rattle.basics.specs.Signed.{back}
use Rattle.tzb_codes.proofs.CodesLaws.{placed}
use Rattle.tzb_codes.proofs.place_code.Goals as goal

pub returns : goal.returns
returns c = back w64 _ c.unwrap_or.type_inv ∙ c.unwrap_or.ensures ∙ placed _ _ c.try_from.ensures
