-- The first table: before each turn the entries below 2 ^ k are right.
-- Assumes nothing.
use mathlib.Core.Path.{◌≡◌}
use native.Mathlib.Omega.{arith}
use Rattle.crc.proofs.Front.{begun}
use Rattle.crc.proofs.first_row.Goals as goal

pub loop-k-init : goal.loop-k-init
loop-k-init c = begun c.args.t.now c.requires

pub returns : goal.returns
returns c =
    let e : c.loop-k.k ≡ 8 = omega arith in
    rw e at c.loop-k.invariant
