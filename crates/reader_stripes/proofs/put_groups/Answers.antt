-- `put_groups` meets its contract: what is left, laid from here on.
-- Assumes nothing.
use native.Mathlib.Omega.{arith}
use mathlib.Core.Path.{refl}
use Rattle.reader_stripes.proofs.Loops.{entering_start, entering_same, entering_on, entering_place, entering_end}
use Rattle.reader_stripes.proofs.put_groups.Goals as goal

pub loop-i-init : goal.loop-i-init
loop-i-init c = entering_start _ _ _ _ refl

pub put_group-requires : goal.put_group-requires
put_group-requires c = omega (arith, entering_same _ _ _ _ _ _ c.loop-i.invariant, c.loop-i-test.true, c.requires)

pub overflow_add-place : goal.overflow_add-place
overflow_add-place c =
    omega (arith, c.loop-i.invariant.few, c.loop-i-test.true, c.cut_at.result.few)

pub loop-i-preserved : goal.loop-i-preserved
loop-i-preserved c =
    entering_on _ _ _ _ _ _ c.loop-i.invariant c.loop-i-test.true _ c.cut_at.ensures _ c.put_group.ensures _ refl

pub shape_of-numbers : goal.shape_of-numbers
shape_of-numbers c = entering_same _ _ _ _ _ _ c.loop-i.invariant

pub returns : goal.returns
returns c = (entering_place _ _ _ _ _ _ c.loop-i.invariant c.loop-i-test.false, entering_end _ _ _ _ _ _ c.loop-i.invariant c.loop-i-test.false)
