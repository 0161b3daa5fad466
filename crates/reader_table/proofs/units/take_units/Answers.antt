-- `units::take_units` meets its contract: the units gone through were free and are marked, and no mark is taken away.
-- Assumes nothing.
use mathlib.Core.Path.{refl, sym}
use mathlib.Core.Bool.{true≢false}
use Rattle.reader_table.proofs.Marks.{take_none, take_on, take_end}
use native.Mathlib.Omega.{arith}
use Rattle.std.proofs.Common.{rules}
use Rattle.reader_table.proofs.units.take_units.Goals as goal

pub loop-k-init : goal.loop-k-init
loop-k-init c = (refl, search rules, search rules, take_none _ _)

pub returns-then-old-bits-ne0 : goal.returns-then-old-bits-ne0
returns-then-old-bits-ne0 c = λ e. absurd (true≢false (sym e))

pub loop-k-preserved : goal.loop-k-preserved
loop-k-preserved c =
    (search rules, search rules, search rules, take_on _ _ _ _ c.loop-k.invariant.3 _ c.bits_from-t.ensures (omega arith) c.if-old-bits-ne0.false)

pub returns : goal.returns
returns c = λ e. take_end _ _ _ _ _ c.loop-k.invariant.3 c.loop-k-test.false
