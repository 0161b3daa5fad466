-- `reader_cover::sum_of_ops` meets its contract: the sum so far and what is left to add are the whole.
-- Assumes nothing.
use native.Mathlib.Omega.{arith}
use Rattle.std.proofs.Common.{rules}
use Rattle.reader_cover.proofs.Sums.{adds_start, adds_no, adds_on, adds_end}
use Rattle.reader_cover.proofs.sum_of_ops.Goals as goal

pub loop-j-init : goal.loop-j-init
loop-j-init c = record { few = omega arith; adds = adds_start _ _ _ _ _ (omega arith) }

pub returns-in_err-g : goal.returns-in_err-g
returns-in_err-g c = let e = adds_no _ _ _ _ _ _ c.loop-j.invariant.adds c.loop-j-test.true _ c.in_err-g.ensures in search rules

pub loop-j-preserved : goal.loop-j-preserved
loop-j-preserved c =
    record {
      few = omega arith;
      adds = adds_on _ _ _ _ _ _ c.loop-j.invariant.adds c.loop-j-test.true _ c.in_ok-g.ensures;
    }

pub returns : goal.returns
returns c = adds_end _ _ _ _ _ _ c.loop-j.invariant.adds c.loop-j-test.false
