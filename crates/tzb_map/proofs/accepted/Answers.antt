-- `tzb_map::accepted` meets its contract: a rule that is broken is told with 47.
-- Assumes nothing.
use native.Mathlib.Omega.{arith}
use Rattle.tzb_map.proofs.MapLaws.{accepted_broken}
use Rattle.tzb_map.proofs.accepted.Goals as goal

pub returns-in_default : goal.returns-in_default
returns-in_default c = accepted_broken _ _ c.in_ok-o.ensures _ c.broken_rule.ensures (omega arith) _ c.refuse.ensures
