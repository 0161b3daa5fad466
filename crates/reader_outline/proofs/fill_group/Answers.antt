-- `fill_group` meets its contract: the chunks' points, then turned round where that is asked.
-- Assumes nothing.
use mathlib.Core.Path.{◌∙◌}
use Rattle.std.proofs.Common.{rules}
use Rattle.reader_outline.proofs.Sides.{side_no, turn_room, side_stored, side_turned}
use Rattle.reader_outline.proofs.fill_group.Goals as goal

pub returns-in_err-n : goal.returns-in_err-n
returns-in_err-n c =
    let p = side_no _ _ _ _ _ _ c.told-held c.requires.few _ c.in_err-n.ensures.0 c.fill_chunks.new.held in
    let e = p.0 in
    (search rules, p.1)

pub turn_round-requires : goal.turn_round-requires
turn_round-requires c =
    turn_room _ _ c.args.g c.args.turned _ _ c.told-held c.requires.few _ c.in_ok-n.ensures.0 _ c.fill_chunks.array_long c.in_ok-n.ensures.1

pub returns-then-turned : goal.returns-then-turned
returns-then-turned c =
    side_turned _ _ _ _ _ _ c.told-held c.requires.few _ c.in_ok-n.ensures.0 _ c.fill_chunks.array_long c.in_ok-n.ensures.1 c.if-turned.true _ (c.turn_round.auto.held ∙ c.fill_chunks.array_long) c.turn_round.ensures

pub returns-else-turned : goal.returns-else-turned
returns-else-turned c =
    side_stored _ _ _ _ _ _ c.told-held c.requires.few _ c.in_ok-n.ensures.0 _ c.fill_chunks.array_long c.in_ok-n.ensures.1 c.if-turned.false
