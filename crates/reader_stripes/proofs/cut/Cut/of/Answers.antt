-- `Cut::of` makes what a cut promises: a height, and no more than 256 stripes of 65,535 chunks.
-- Assumes nothing.
use native.Mathlib.Omega.{arith}
use Rattle.reader_stripes.proofs.BuildingLaws.{cut_well}
use Rattle.reader_stripes.proofs.cut.Cut.of.Goals as goal

pub invariant_of-result : goal.invariant_of-result
invariant_of-result c =
    let w = cut_well _ _ _ c.striping_of.ensures in
    record { high = w.0; few = w.1; chunks = omega arith }
