-- `chunk_need` meets its contract: 49 of what has stripes, or in how many it stands.
-- Assumes nothing.
use native.Mathlib.Omega.{arith}
use Rattle.std.proofs.Common.{rules}
use Rattle.reader_stripes.proofs.BuildingLaws.{box_out, box_in_law}
use Rattle.reader_stripes.proofs.chunk_need.Goals as goal

pub returns-in_err-claim : goal.returns-in_err-claim
returns-in_err-claim c =
    let a = c.args in
    let p = box_out a.o a.s.now a.group a.c.striping a.i _ c.in_ok-b.ensures (omega arith) _ c.within_height.ensures _ c.in_err-claim.ensures in
    search rules

pub returns : goal.returns
returns c = (
  box_in_law _ _ _ _ _ _ c.in_ok-b.ensures (omega arith) _ c.within_height.ensures _ c.in_ok-claim.ensures _ (omega (arith, c.from.ensures, c.depth.ensures.0)),
  omega (arith, c.from.ensures, c.depth.ensures.1),
)
