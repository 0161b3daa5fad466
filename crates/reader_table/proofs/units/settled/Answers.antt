-- `units::settled` meets its contract: the windows gone through have no unit that two entries have in common.
-- Assumes nothing.
use mathlib.Core.Path.{refl}
use Rattle.reader_table.proofs.Windows.{split_start, split_join, placed_fewer, settle}
use native.Mathlib.Omega.{arith}
use Rattle.std.proofs.Common.{rules}
use Rattle.reader_table.proofs.units.settled.Goals as goal

pub loop-base-init : goal.loop-base-init
loop-base-init c = (refl, search rules, omega arith, c.placed_run-n.ensures.1, split_start _ _ _ _ (omega arith))

pub loop-base-preserved : goal.loop-base-preserved
loop-base-preserved c =
    let l = c.loop-base.invariant in
    let r = c.split_in-n.ensures in
    (search rules, omega arith, omega arith, placed_fewer _ _ _ l.3 r.0, split_join _ _ _ _ _ _ l.4 r.0 r.1)

pub returns : goal.returns
returns c = settle _ _ _ c.args.t.headed c.loop-base.invariant.3 c.loop-base.invariant.4 (omega arith)
