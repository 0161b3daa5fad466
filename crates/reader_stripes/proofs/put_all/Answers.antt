-- `put_all` meets its contract: the groups' entries; then what is left, laid from here on.
-- Assumes nothing.
use mathlib.Core.Path.{refl, ap, ◌∙◌}
use Rattle.stripes.specs.Numbers.{all_stripes}
use Rattle.reader_stripes.proofs.Laying.{going_start, going_same, going_room, going_on, going_end, room_first}
use Rattle.reader_stripes.proofs.Built.{groups_room, stripes_room, all_put}
use Rattle.reader_stripes.proofs.Loops.{groups_all, stripes_cut, stripes_none}
use Rattle.reader_stripes.proofs.put_all.Goals as goal

pub put_groups-requires : goal.put_groups-requires
put_groups-requires c =
    groups_room c.args.o c.args.s.now c.args.numbers.now c.requires

pub loop-i-init : goal.loop-i-init
loop-i-init c = going_start _ _ _ _ (ap all_stripes (groups_all _ _))

pub put_stripes-q-requires : goal.put_stripes-q-requires
put_stripes-q-requires c =
    room_first _ _ _ _ _ (stripes_cut _ _ _ c.loop-i-test.true _ c.cut_at-c.ensures) (going_room _ _ _ _ _ _ c.loop-i.invariant (stripes_room _ _ _ c.requires _ _ refl refl c.put_groups.ensures.0 _ c.put_groups.ensures.1))

pub loop-i-preserved : goal.loop-i-preserved
loop-i-preserved c =
    going_on _ _ _ _ _ _ c.loop-i.invariant (stripes_room _ _ _ c.requires _ _ refl refl c.put_groups.ensures.0 _ c.put_groups.ensures.1) _ _ _ _ (stripes_cut _ _ _ c.loop-i-test.true _ c.cut_at-c.ensures) c.put_stripes-q.ensures

pub shape_of-numbers : goal.shape_of-numbers
shape_of-numbers c =
    going_same _ _ _ _ _ _ c.loop-i.invariant ∙ c.put_groups.auto.numbers

pub returns : goal.returns
returns c =
    all_put _ _ _ c.requires _ _ refl refl c.put_groups.ensures.0 _ c.put_groups.ensures.1 _ _ (going_end _ _ _ _ _ _ c.loop-i.invariant (stripes_none _ _ _ c.loop-i-test.false))
