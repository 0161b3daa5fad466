-- `fill_leg` meets its contract: the op, its group, where the leg starts, then the group's points. In a sound file op and group are there.
-- Assumes nothing.
use mathlib.Core.Path.{refl}
use Rattle.reader_outline.proofs.Legs.{op_there, group_there, chunks_there, leg_filled}
use Rattle.reader_outline.proofs.fill_leg.Goals as goal

pub returns-in_err-w : goal.returns-in_err-w
returns-in_err-w c = absurd (op_there _ _ c.requires.ready _ c.requires.op_lt_count _ c.in_err-w.ensures)

pub returns-in_err-g : goal.returns-in_err-g
returns-in_err-g c =
    absurd (group_there _ _ c.requires.ready _ c.requires.op_lt_count _ c.in_ok-w.ensures _ c.in_err-g.ensures)

pub fill_group-requires-clause-count_bound : goal.fill_group-requires-clause-count_bound
fill_group-requires-clause-count_bound c = chunks_there _ _ c.requires.ready _ c.requires.op_lt_count _ c.in_ok-w.ensures _ c.in_ok-g.ensures

pub returns : goal.returns
returns c =
    leg_filled _ _ c.requires.ready _ c.requires.op_lt_count _ c.in_ok-w.ensures _ c.in_ok-g.ensures _ refl _ _ _ c.entry_of.ensures _ c.leg_start-j.ensures _ _ c.fill_group.ensures.0 c.fill_group.ensures.1
