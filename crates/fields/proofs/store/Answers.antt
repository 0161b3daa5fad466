-- `fields::store` meets its contract: the bytes still to come, laid behind those that stand, are all of them. Once over the width.
-- Assumes nothing.
use Prim.Native.Nat.{◌-◌}
use native.Mathlib.Omega.{arith}
use mathlib.Core.Path.{◌∙◌}
use Rattle.fields.proofs.StoresLaws.{digits_all, digits_on, digits_end}
use Rattle.fields.proofs.store.Goals as goal

pub loop-i-init : goal.loop-i-init
loop-i-init c = digits_all _ _ _ _

pub loop-i-preserved : goal.loop-i-preserved
loop-i-preserved c =
    let l = c.loop-i in
    let a = c.args in
    digits_on l.out a.at a.width l.rest l.i (omega arith) ∙ l.invariant

pub returns : goal.returns
returns c =
    let l = c.loop-i in
    let a = c.args in
    digits_end a.out.now l.out a.at a.width a.number _ (a.width - l.i) _ c.requires (omega arith) l.invariant
