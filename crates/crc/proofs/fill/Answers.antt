-- The other tables: before each turn the entries below i are right.
-- Assumes nothing.
use mathlib.Core.Path.{◌≡◌, refl}
use native.Mathlib.Omega.{arith}
use Rattle.std.proofs.Common.{rules}
use Rattle.crc.proofs.Front.{back, more, later}
use Rattle.crc.proofs.fill.Goals as goal

pub loop-i-init : goal.loop-i-init
loop-i-init c = back c.first_row.new.t (search rules) c.first_row.ensures

pub loop-i-preserved : goal.loop-i-preserved
loop-i-preserved c =
    let v = c.loop-i in
    more v.t v.i _ (omega arith) v.invariant (later v.t v.i _ _ (omega arith) v.invariant refl refl)

pub returns : goal.returns
returns c =
    let e : c.loop-i.i ≡ 4096 = omega arith in
    rw e at c.loop-i.invariant
