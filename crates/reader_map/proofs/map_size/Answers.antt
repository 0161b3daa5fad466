-- `map_size` meets its contract: 45, or what is drawn is counted.
-- Assumes nothing.
use Rattle.std.proofs.Common.{rules}
use Rattle.reader_map.proofs.Asking.{size_over, size_in, size_is}
use Rattle.reader_map.proofs.map_size.Goals as goal

pub returns-in_err-claim : goal.returns-in_err-claim
returns-in_err-claim c =
    let e = size_over c.args.o c.args.s.now c.args.zone _ c.in_err-claim.ensures in
    search rules

pub draw-requires : goal.draw-requires
draw-requires c = (c.requires, size_in c.args.o c.args.s.now c.args.zone c.in_ok-claim.ensures)

pub returns : goal.returns
returns c = size_is _ _ _ (size_in c.args.o c.args.s.now c.args.zone c.in_ok-claim.ensures) _ _ _ _ c.draw.ensures
