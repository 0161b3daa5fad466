-- `units::take_entry` meets its contract: the units of an entry that lie in the window are those from one place of the map to another.
-- Assumes nothing.
use Rattle.reader_table.proofs.Windows.{taken_by}
use native.Mathlib.Omega.{arith}
use Rattle.reader_table.proofs.units.take_entry.Goals as goal

pub returns : goal.returns
returns c =
    λ t. taken_by _ _ _ _ _ _ _ _ _ (omega arith) (omega arith) c.clip-from.ensures c.clip-to.ensures (c.take_units.ensures t)
