-- `units::bits_from` meets its contract: the bits of eight units that share a byte, or of one.
-- Assumes nothing.
use Rattle.reader_table.proofs.Marks.{all_bits, one_bit}
use native.Mathlib.Omega.{arith}
use Rattle.reader_table.proofs.units.bits_from.Goals as goal

pub returns-then-k-to : goal.returns-then-k-to
returns-then-k-to c = all_bits _ (omega arith)

pub returns : goal.returns
returns c = one_bit _ _ c.own_bit.ensures
