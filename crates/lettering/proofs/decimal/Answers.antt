-- `lettering::decimal` meets its contract: the minus where the number is below 0, and the number without its sign behind it.
-- Assumes nothing.
use native.Mathlib.Nat.{add-zero}
use mathlib.Core.Path.{◌≡◌, refl, sym, ap, ◌∙◌}
use mathlib.Core.Bool.{true, false, true≢false}
use mathlib.Core.List.{[]}
use borrow.Author.Tests.{ltb-true}
use native.Mathlib.Omega.{arith}
use lib.IntN.{ℤ, pos, negsuc, nat_abs}
use lib.Signed.{lt_z, nat_abs-le}
use mir.Syntax.{w32}
use mir.ValLaws.{to_z-of_z}
use Rattle.geojson.specs.Ascii.{ascii}
use Rattle.geojson.specs.Decimals.{hundred_thousandths, minus, decimal}
use Rattle.answer.proofs.OverLaws.{over_none, near, wrote, being, ◌behind◌}
use Rattle.geojson.proofs.Lengths.{decimal_most}
use Rattle.lettering.proofs.decimal.Goals as goal

-- what stands before the number
sign_below : (z : ℤ) → lt_z z (pos 0) ≡ true → ascii "-" ≡ minus z
sign_below (pos n) h = absurd (omega (arith, ltb-true n 0 h))
sign_below (negsuc n) h = refl

sign_above : (z : ℤ) → lt_z z (pos 0) ≡ false → [] ≡ minus z
sign_above (pos n) h = refl
sign_above (negsuc n) h = absurd (true≢false h)

pub returns-then-x-lt0 : goal.returns-then-x-lt0
unfolding decimal
returns-then-x-lt0 c =
    let x = to_z-of_z w32 c.args.x c.ranges.x in
    let w = being (sign_below c.args.x (ap (λ (z : ℤ). lt_z z (pos 0)) (sym x) ∙ c.if-x-lt0.true)) (wrote c.put-whole.ensures.0 c.put-whole.ensures.1)
    behind being (ap hundred_thousandths (c.unsigned_abs.ensures.value ∙ ap nat_abs x)) (wrote c.hundred_thousandths.ensures.0 c.hundred_thousandths.ensures.1) in
    (w.next, near _ _ _ _ w.next (decimal_most c.args.x (nat_abs-le c.args.x c.ranges.x.sfits)), w.is)

pub returns : goal.returns
unfolding decimal
returns c =
    let x = to_z-of_z w32 c.args.x c.ranges.x in
    let w = being (sign_above c.args.x (ap (λ (z : ℤ). lt_z z (pos 0)) (sym x) ∙ c.if-x-lt0.false)) (wrote (sym (add-zero _)) (sym (over_none _ _)))
    behind being (ap hundred_thousandths (c.unsigned_abs-2.ensures.value ∙ ap nat_abs x)) (wrote c.hundred_thousandths-2.ensures.0 c.hundred_thousandths-2.ensures.1) in
    (w.next, near _ _ _ _ w.next (decimal_most c.args.x (nat_abs-le c.args.x c.ranges.x.sfits)), w.is)
