-- `tzb_map::map_length` meets its contract: the file, accepted, then the text's length.
-- Assumes nothing.
use Rattle.std.proofs.Common.{rules}
use Rattle.tzb_map.proofs.MapLaws.{is_ready, length_fault, length_none, length_is}
use Rattle.tzb_map.proofs.map_length.Goals as goal

pub returns-in_err-o : goal.returns-in_err-o
returns-in_err-o c =
    let e = length_fault c.args.file.now c.args.zone _ c.in_err-o.ensures in
    search rules

pub map_size-requires : goal.map_size-requires
map_size-requires c = is_ready _ _ c.in_ok-o.ensures

pub returns-in_err-map_size : goal.returns-in_err-map_size
returns-in_err-map_size c =
    let e = length_none c.args.file.now c.args.zone _ c.in_ok-o.ensures _ c.in_err-map_size.ensures in
    search rules

pub returns : goal.returns
returns c = length_is _ _ _ c.in_ok-o.ensures _ c.in_ok-map_size.ensures
