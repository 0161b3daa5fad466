-- `tzb_map::map` meets its contract: the file, accepted, then the text in lent memory.
-- Assumes nothing.
use Rattle.std.proofs.Common.{rules}
use Rattle.tzb_map.proofs.MapLaws.{is_ready, map_fault, map_none, map_drawn}
use Rattle.tzb_map.proofs.map.Goals as goal

pub returns-in_err-o : goal.returns-in_err-o
returns-in_err-o c =
    let t = map_fault c.args.file.now c.args.zone c.args.out.now _ c.in_err-o.ensures in
    let e = t.0 in
    record { result_value = search rules; memory = t.1 }

pub map_into-requires : goal.map_into-requires
map_into-requires c = is_ready _ _ c.in_ok-o.ensures

pub returns-in_err-map_into : goal.returns-in_err-map_into
returns-in_err-map_into c =
    let t = map_none c.args.file.now c.args.zone c.args.out.now _ c.in_ok-o.ensures _ c.in_err-map_into.ensures.memory _ c.in_err-map_into.ensures.result_value in
    let e = t.0 in
    record { result_value = search rules; memory = t.1 }

pub returns : goal.returns
returns c =
    let t = map_drawn c.args.file.now c.args.zone c.args.out.now _ c.in_ok-o.ensures _ c.in_ok-map_into.ensures.memory _ c.in_ok-map_into.ensures.result_value in
    record { result_value = t.0; memory = t.1 }
