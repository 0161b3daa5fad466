-- `units::own_bit` meets its contract.
-- Assumes nothing.
use Rattle.reader_table.proofs.Marks.{own_is}
use Rattle.reader_table.proofs.units.own_bit.Goals as goal

pub returns : goal.returns
returns c = own_is _
