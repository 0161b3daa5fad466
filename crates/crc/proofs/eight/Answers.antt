-- Eight bits leave, one after the other.
-- Assumes nothing.
use mathlib.Core.Path.{◌≡◌, ap, ◌∙◌}
use Prim.Native.Nat.{suc, ◌+◌, ◌-◌}
use native.Mathlib.Omega.{arith}
use Rattle.checksum.specs.Crc32.{steps}
use Rattle.crc.proofs.eight.Goals as goal

pub loop-preserved : goal.loop-preserved
unfolding steps
loop-preserved c =
    let i = c.loop.counter in
    let e : 8 - i ≡ suc (8 - (i + 1)) = omega arith in
    ap (steps (8 - (i + 1))) c.one-rest.ensures ∙ rw e at c.loop.invariant

pub returns : goal.returns
unfolding steps
returns c =
    let e : 8 - c.loop.counter ≡ 0 = omega arith in
    rw e at c.loop.invariant
