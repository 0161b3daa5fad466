-- `delta::add_delta` meets its contract: a sum that fits, and one that does not.
-- Assumes nothing.
use Rattle.std.proofs.Common.{◌≡◌, ℤ, ◌+ℤ◌, sym, ap, ◌∙◌, w32, w64, SFits, to_z, of_z}
use mir.ValLaws.{to_z-of_z}
use Rattle.answer.specs.Answers.{ok}
use Rattle.chunks.specs.Delta.{fits32}
use Rattle.chunks.proofs.Sums.{widen, wide_eq, sums_fit, fits_small}
use Rattle.chunks.proofs.DeltaLaws.{sum_fits, sum_over}
use Rattle.tzb_core.proofs.delta.add_delta.Goals as goal

-- the sum of two i32, as it is held
held : (a b : ℤ) → SFits w32 a → SFits w32 b → to_z w64 (of_z w64 (to_z w64 (of_z w64 (to_z w32 (of_z w32 a))) +ℤ to_z w64 (of_z w64 (to_z w32 (of_z w32 b))))) ≡ a +ℤ b
held a b h k = rw (wide_eq h, wide_eq k) (to_z-of_z w64 _ (sums_fit h k))

pub overflow_cast-x : goal.overflow_cast-x
overflow_cast-x c = rw (to_z-of_z w32 _ c.ranges.prev) (widen c.ranges.prev)

pub overflow_cast-x-2 : goal.overflow_cast-x-2
overflow_cast-x-2 c = rw (to_z-of_z w32 _ c.ranges.delta) (widen c.ranges.delta)

pub overflow_add-x : goal.overflow_add-x
overflow_add-x c = rw (wide_eq c.ranges.prev, wide_eq c.ranges.delta) (sums_fit c.ranges.prev c.ranges.delta)

pub overflow_cast-result : goal.overflow_cast-result
unfolding fits32
overflow_cast-result c = fits_small _ c.if-x.true

pub returns-then-x : goal.returns-then-x
unfolding fits32
returns-then-x c = ap ok (to_z-of_z w32 _ (fits_small _ c.if-x.true)) ∙ sum_fits _ _ _ (held _ _ c.ranges.prev c.ranges.delta) c.if-x.true

pub returns : goal.returns
unfolding fits32
returns c =
    let a = c.ranges in
    c.fail.ensures ∙ sum_over _ _ (sym (ap fits32 (held _ _ a.prev a.delta)) ∙ c.if-x.false)
