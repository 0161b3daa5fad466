-- `map_into` meets its contract: all is measured before the first byte is written.
-- Assumes nothing.
use mathlib.Core.Path.{ap}
use lib.ListN.{length}
use Rattle.std.proofs.Common.{rules}
use Rattle.answer.specs.Answers.{how_many, left}
use Rattle.reader_map.proofs.Asking.{room_no, room_short, size_zone, into_done}
use Rattle.reader_map.proofs.map_into.Goals as goal

pub returns-in_err-n : goal.returns-in_err-n
returns-in_err-n c =
    let e = room_no _ (length c.args.out.now) _ c.in_err-n.ensures in
    let m = ap how_many e in
    record { result_value = search rules; memory = ap (left c.args.out.now) e }

pub returns-in_err-claim : goal.returns-in_err-claim
returns-in_err-claim c =
    let e = room_short _ (length c.args.out.now) _ c.in_ok-n.ensures _ c.in_err-claim.ensures in
    let m = ap how_many e in
    record { result_value = search rules; memory = ap (left c.args.out.now) e }

pub draw-requires : goal.draw-requires
draw-requires c = (c.requires, size_zone _ _ _ _ c.in_ok-n.ensures)

pub returns : goal.returns
returns c =
    let d = into_done _ _ _ _ c.in_ok-n.ensures _ c.in_ok-claim.ensures _ _ _ c.draw.ensures in
    record { result_value = d.0; memory = d.1 }
