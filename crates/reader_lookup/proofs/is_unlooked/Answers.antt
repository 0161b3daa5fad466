-- `is_unlooked` meets its contract: one candidate, the flag, and four comparisons.
-- Assumes nothing.
use mathlib.Core.Path.{refl}
use lib.Ieee.{of_int, of_bits, neg}
use Rattle.answer.specs.Checks.{same}
use Rattle.reader_lookup.specs.Asking.{unlooked}
use Rattle.reader_lookup.proofs.is_unlooked.Goals as goal

pub returns : goal.returns
unfolding unlooked same neg of_bits of_int
returns c = refl
