-- `reader_room::count_chunks` meets its contract: with what is counted so far, the chunks that are left tell as all do.
-- Assumes nothing.
use native.Mathlib.Omega.{arith}
use Rattle.std.proofs.Common.{rules}
use Rattle.reader_room.proofs.StepsLaws.{chunks_start_law, chunks_end, chunks_no, chunks_enough, chunks_on}
use Rattle.reader_room.proofs.count_chunks.Goals as goal

pub loop-i-init : goal.loop-i-init
loop-i-init c = chunks_start_law _ _ _ _ _ _ _ (omega arith)

pub returns-in_err-sofar : goal.returns-in_err-sofar
returns-in_err-sofar c =
    let e = chunks_no _ _ _ _ _ _ _ c.loop-i.invariant c.loop-i-test.true _ c.in_err-sofar.ensures in
    search rules

pub returns-then-sofar-ge3 : goal.returns-then-sofar-ge3
returns-then-sofar-ge3 c = chunks_enough _ _ _ _ _ _ _ c.loop-i.invariant c.loop-i-test.true _ c.in_ok-sofar.ensures c.if-sofar-ge3.true

pub loop-i-preserved : goal.loop-i-preserved
loop-i-preserved c = chunks_on _ _ _ _ _ _ _ c.loop-i.invariant c.loop-i-test.true _ c.in_ok-sofar.ensures c.if-sofar-ge3.false

pub returns : goal.returns
returns c = chunks_end _ _ _ _ _ _ _ c.loop-i.invariant c.loop-i-test.false
