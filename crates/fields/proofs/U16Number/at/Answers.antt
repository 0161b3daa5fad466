-- The bytes that stand at the place, joined.
-- Assumes nothing.
use native.Mathlib.Omega.{arith}
use Rattle.fields.proofs.Join.{one, more}
use Rattle.fields.proofs.U16Number.at.Goals as goal

pub returns : goal.returns
returns c =
    let s = c.args.s.now in
    let at = c.args.at in
    omega (arith, c.from_le_bytes.ensures, one s at, more 1 s at)
