-- `chunks_need` meets its contract: a sum that goes on.
-- Assumes nothing.
use native.Mathlib.Omega.{arith}
use Rattle.std.proofs.Common.{rules}
use Rattle.reader_stripes.proofs.Reading.{adding_no, adding_on, adding_end, adding_most}
use Rattle.reader_stripes.proofs.chunks_need.Goals as goal

pub returns-in_err-sum : goal.returns-in_err-sum
returns-in_err-sum c =
    let v = c.loop-i.invariant in
    let p = adding_no _ _ _ _ _ _ _ _ v.1 (omega (arith, v.0, c.loop-i-test.true)) _ c.in_err-sum.ensures.0 in
    search rules

pub loop-i-preserved : goal.loop-i-preserved
loop-i-preserved c =
    let v = c.loop-i.invariant in
    (v.0, adding_on _ _ _ _ _ _ _ _ v.1 (omega (arith, v.0, c.loop-i-test.true)) _ c.in_ok-sum.ensures.0 (omega (arith, c.in_ok-sum.ensures.1, c.args.c.few)))

pub returns : goal.returns
returns c =
    let v = c.loop-i.invariant in
    (adding_end _ _ _ _ _ _ _ _ v.1 (omega (arith, v.0, c.loop-i-test.false)), omega (arith, adding_most _ _ _ _ _ _ _ _ v.1 (omega (arith, v.0, c.loop-i-test.false)), c.args.c.few, c.args.c.chunks))
