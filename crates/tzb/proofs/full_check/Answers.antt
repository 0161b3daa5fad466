-- `full_check` meets its contract: a rule that is broken is no 0.
-- Assumes nothing.
use native.Mathlib.Omega.{arith}
use Rattle.tzb.proofs.FullCheckLaws.{full_broken}
use Rattle.tzb.proofs.full_check.Goals as goal

pub returns-in_default : goal.returns-in_default
returns-in_default c = full_broken _ _ c.in_ok-o.ensures _ c.broken_rule.ensures (omega arith) _ c.refuse.ensures
