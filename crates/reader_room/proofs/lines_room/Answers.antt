-- `reader_room::lines_room` meets its contract: with what is counted so far, the ops that are left tell as all do.
-- Assumes nothing.
use native.Mathlib.Omega.{arith}
use Rattle.std.proofs.Common.{rules}
use Rattle.reader_room.proofs.StepsLaws.{lines_start_law, lines_end, lines_no, lines_enough, lines_on}
use Rattle.reader_room.proofs.lines_room.Goals as goal

pub loop-i-init : goal.loop-i-init
loop-i-init c = lines_start_law _ _ _ _ _ _ _ _ (omega arith)

pub returns-in_err-v : goal.returns-in_err-v
returns-in_err-v c =
    let e = lines_no _ _ _ _ _ _ _ _ c.loop-i.invariant c.loop-i-test.true _ c.in_err-v.ensures in
    search rules

pub returns-then-n-ge3 : goal.returns-then-n-ge3
returns-then-n-ge3 c =
    lines_enough _ _ _ _ _ _ _ _ c.loop-i.invariant c.loop-i-test.true _ c.in_ok-v.ensures _ c.with_side-n.ensures c.if-n-ge3.true

pub loop-i-preserved : goal.loop-i-preserved
loop-i-preserved c =
    lines_on _ _ _ _ _ _ _ _ c.loop-i.invariant c.loop-i-test.true _ c.in_ok-v.ensures _ c.with_side-n.ensures c.if-n-ge3.false

pub returns : goal.returns
returns c = lines_end _ _ _ _ _ _ _ _ c.loop-i.invariant c.loop-i-test.false _ c.with_side.ensures
