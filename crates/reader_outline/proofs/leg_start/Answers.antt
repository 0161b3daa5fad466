-- `leg_start` meets its contract: there is no position yet, the last is where the leg is entered, or it is not.
-- Assumes nothing.
use native.Mathlib.Omega.{arith}
use Prim.Native.Nat.{ℕ}
use mathlib.Core.Path.{◌≡◌, sym, subst}
use Rattle.std.proofs.Common.{rules}
use Rattle.plane.specs.Segment.{same_point}
use Rattle.reader_outline.specs.Steps.{Starts}
use Rattle.reader_outline.proofs.Stringing.{starts_none, starts_same, starts_apart}
use Rattle.reader_outline.proofs.leg_start.Goals as goal
use Rattle.reader_outline.proofs.leg_start.Goals.{else-k-gt0-via-then-k-gt0+else-eq, else-k-gt0-via-else-k-gt0}

pub returns-then-eq : goal.returns-then-eq
unfolding same_point
returns-then-eq c = starts_same _ _ c.if-k-gt0.true (omega (arith, c.told-held)) _ _ c.point_at.ensures (search rules)

pub returns : goal.returns
unfolding same_point
returns c = elim c.else-k-gt0.branch [ else-k-gt0-via-then-k-gt0+else-eq w ↦ starts_apart _ _ w.if-k-gt0.true (omega (arith, c.told-held)) _ _ w.point_at.ensures (search rules) | else-k-gt0-via-else-k-gt0 w ↦ let z : c.args.k ≡ 0 = omega arith in subst (λ (j : ℕ). Starts c.args.held.now c.args.k c.args.e j) (sym z) (starts_none _ _ _ z) ]
