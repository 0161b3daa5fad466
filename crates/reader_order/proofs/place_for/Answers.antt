-- `place_for` meets its contract. The loop's invariant: the place lies from low to high, and so does the next to look at.
-- Assumes nothing.
use Rattle.reader_order.proofs.Halving.{halving_start, halving_end, halves_down, halves_up}
use native.Mathlib.Omega.{arith}
use Rattle.reader_order.proofs.place_for.Goals as goal
use Rattle.reader_order.proofs.place_for.Goals.{then-before_zone, else-before_zone}

pub loop-low-init : goal.loop-low-init
loop-low-init c =
    (halving_start _ _ _ c.requires, λ h. (h, omega arith))

pub overflow_sub-middle : goal.overflow_sub-middle
overflow_sub-middle c = omega (arith, c.loop-low.invariant.1 c.loop-low-test.true)

pub offset_bounds-zones-middle : goal.offset_bounds-zones-middle
offset_bounds-zones-middle c = omega (arith, c.loop-low.invariant.1 c.loop-low-test.true)

pub bounds-zones-middle : goal.bounds-zones-middle
bounds-zones-middle c = omega (arith, c.loop-low.invariant.1 c.loop-low-test.true)

pub overflow_sub-after : goal.overflow_sub-after
overflow_sub-after c =
    let aim = c.loop-low.invariant.1 c.loop-low-test.true in
    elim c.if-before_zone.branch [ then-before_zone w ↦ omega (arith, aim) | else-before_zone w ↦ omega (arith, aim) ]

pub overflow_add-after-in-loop-low : goal.overflow_add-after-in-loop-low
overflow_add-after-in-loop-low c =
    let aim = c.loop-low.invariant.1 c.loop-low-test.true in
    elim c.if-before_zone.branch [ then-before_zone w ↦ omega (arith, aim) | else-before_zone w ↦ omega (arith, aim) ]

pub loop-low-smaller : goal.loop-low-smaller
loop-low-smaller c =
    let aim = c.loop-low.invariant.1 c.loop-low-test.true in
    elim c.if-before_zone.branch [ then-before_zone w ↦ omega (arith, aim) | else-before_zone w ↦ omega (arith, aim) ]

pub loop-low-preserved : goal.loop-low-preserved
loop-low-preserved c =
    let aim = c.loop-low.invariant.1 c.loop-low-test.true in (
      elim c.if-before_zone.branch [
        | then-before_zone w ↦ halves_down _ _ _ _ _ c.loop-low.invariant.0 _ (omega (arith, aim)) _ c.before_zone.ensures _ _ w.if-before_zone.true w.low-is w.high-is
        | else-before_zone w ↦ halves_up _ _ _ _ _ c.loop-low.invariant.0 _ (omega (arith, aim)) _ c.before_zone.ensures _ _ w.if-before_zone.false (omega (arith, aim, w.low-is)) w.high-is
      ],
      λ h. (omega (arith, h), omega (arith, h)),
    )

pub returns : goal.returns
returns c = halving_end _ _ _ _ _ c.loop-low.invariant.0 c.loop-low-test.false
