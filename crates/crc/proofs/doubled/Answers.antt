-- Twice as many entries: before each turn those below 2 ^ k + j are right.
-- Assumes nothing.
use mathlib.Core.Path.{◌≡◌, subst}
use Prim.Native.Nat.{◌+◌, ◌^◌}
use native.Mathlib.Omega.{arith}
use Rattle.crc.specs.Steps.{First}
use Rattle.crc.proofs.Front.{one_shifted, doubles, twice}
use Rattle.crc.proofs.doubled.Goals as goal

pub loop-j-init : goal.loop-j-init
loop-j-init c =
    let e : 2 ^ c.args.k ≡ 2 ^ c.args.k + 0 = omega arith in
    subst (First c.args.t.now) e c.requires.1

pub loop-j-preserved : goal.loop-j-preserved
loop-j-preserved c =
    doubles c.loop-j.t c.args.k c.loop-j.j _ c.eight-x.result c.requires.0 (one_shifted _ c.requires.0) c.loop-j-test.true c.loop-j.invariant c.eight-x.ensures

pub returns : goal.returns
returns c =
    let v = c.loop-j in
    let k = c.args.k in
    let e : 2 ^ k + v.j ≡ 2 ^ (k + 1) = omega (arith, twice k, one_shifted k c.requires.0) in
    subst (First v.t) e v.invariant
