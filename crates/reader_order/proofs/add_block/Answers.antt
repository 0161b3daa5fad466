-- `add_block` meets its contract: the last zones are sorted, and put into those before them if there are any.
-- Assumes nothing.
use Rattle.reader_named.specs.Asked.{name_or}
use Rattle.reader_order.proofs.Merged.{held_in_order, held_room, front_in_order}
use Rattle.reader_order.proofs.add_block.Goals as goal

pub merge_held-requires : goal.merge_held-requires
merge_held-requires c =
    let name = name_or c.args.o c.args.s.now in
    let room = c.requires.k_in_bounds.0 in
    let held = c.copy_from_slice.ensures.after in
    record {
      room = held_room name c.args.zones.now _ room _ c.sort_few.ensures _ held;
      zones_value = front_in_order name c.args.zones.now _ room _ c.sort_few.ensures _ held c.requires.zones_value;
      held_value = held_in_order name c.args.zones.now _ room _ c.sort_few.ensures _ held;
    }
