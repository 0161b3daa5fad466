-- `stripes_need` meets its contract: a sum that goes on.
-- Assumes nothing.
use native.Mathlib.Omega.{arith}
use mathlib.Core.Path.{◌∙◌}
use Rattle.std.proofs.Common.{rules}
use Rattle.reader_stripes.proofs.Reading.{adding_no, adding_on, adding_end}
use Rattle.reader_stripes.proofs.BuildingLaws.{need_sum}
use Rattle.reader_stripes.proofs.stripes_need.Goals as goal

pub returns-in_err-sum : goal.returns-in_err-sum
returns-in_err-sum c =
    let p = adding_no _ _ _ _ _ _ _ _ c.loop-i.invariant (omega (arith, c.loop-i-test.true)) _ c.in_err-sum.ensures.0 ∙ need_sum c.args.o c.args.s.now in
    search rules

pub loop-i-preserved : goal.loop-i-preserved
loop-i-preserved c =
    adding_on _ _ _ _ _ _ _ _ c.loop-i.invariant (omega (arith, c.loop-i-test.true)) _ c.in_ok-sum.ensures.0 c.in_ok-sum.ensures.1

pub returns : goal.returns
returns c = adding_end _ _ _ _ _ _ _ _ c.loop-i.invariant (omega (arith, c.loop-i-test.false)) ∙ need_sum _ _
