-- `put_stripes` meets its contract: what is left, laid from here on.
-- Assumes nothing.
use native.Mathlib.Omega.{arith}
use mathlib.Core.Path.{refl}
use Rattle.reader_stripes.proofs.Laying.{going_start, going_same, going_room, going_on, going_end, room_first}
use Rattle.reader_stripes.proofs.Loops.{stripes_all, stripes_on, stripes_off}
use Rattle.reader_stripes.proofs.put_stripes.Goals as goal

pub loop-i-init : goal.loop-i-init
loop-i-init c = going_start _ _ _ _ (stripes_all _ _ _ _ refl)

pub put_one-q-requires : goal.put_one-q-requires
put_one-q-requires c =
    (omega (arith, c.loop-i-test.true), room_first _ _ _ _ _ (stripes_on _ _ _ _ c.loop-i-test.true) (going_room _ _ _ _ _ _ c.loop-i.invariant c.requires))

pub loop-i-preserved : goal.loop-i-preserved
loop-i-preserved c = going_on _ _ _ _ _ _ c.loop-i.invariant c.requires _ _ _ _ (stripes_on _ _ _ _ c.loop-i-test.true) c.put_one-q.ensures

pub shape_of-numbers : goal.shape_of-numbers
shape_of-numbers c = going_same _ _ _ _ _ _ c.loop-i.invariant

pub returns : goal.returns
returns c = going_end _ _ _ _ _ _ c.loop-i.invariant (stripes_off _ _ _ _ c.loop-i-test.false)
