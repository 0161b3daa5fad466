-- `lettering::hundred_thousandths` meets its contract: past the end only measured, else the whole part, the point and five places.
-- Assumes nothing.
use Prim.Native.Nat.{ℕ, ◌+◌, ◌/◌}
use native.Mathlib.Omega.{arith}
use mathlib.Core.Path.{sym, ap}
use Rattle.geojson.specs.Decimals.{hundred_thousandths}
use Rattle.answer.proofs.OverLaws.{over_past, wrote, ◌behind◌}
use Rattle.geojson.proofs.Lengths.{digits_most, places_placed}
use Rattle.lettering.proofs.hundred_thousandths.Goals as goal

pub returns-then-out-at : goal.returns-then-out-at
returns-then-out-at c = (ap (λ (k : ℕ). c.args.at + k) c.long.ensures.0, sym (over_past _ _ _ c.if-out-at.true))

pub put-first-requires : goal.put-first-requires
put-first-requires c = omega (arith, digits_most 4 (c.args.n / 100_000) (omega arith))

pub places-requires : goal.places-requires
places-requires c = (omega arith, omega (arith, digits_most 4 (c.args.n / 100_000) (omega arith)))

pub returns : goal.returns
unfolding hundred_thousandths
returns c =
    let w = wrote c.digits-point.ensures.0 c.digits-point.ensures.1
    behind wrote c.put-first.ensures.0 c.put-first.ensures.1
    behind wrote (places_placed 5 _ _ _ c.places.ensures.0) c.places.ensures.1 in
    (w.next, w.is)
