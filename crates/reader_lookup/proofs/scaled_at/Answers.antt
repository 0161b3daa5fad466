-- `scaled_at` meets its contract: one product for each coordinate.
-- Assumes nothing.
use mathlib.Core.Path.{refl}
use lib.Ieee.{of_int, of_bits}
use Rattle.reader_lookup.specs.Asking.{scaled}
use Rattle.reader_lookup.proofs.scaled_at.Goals as goal

pub returns : goal.returns
unfolding scaled of_bits of_int
returns c = refl
