-- `raycast::next_up` meets its contract: each return is one case of the definition; the pattern made is no NaN's.
-- Assumes nothing.
use Rattle.std.proofs.Common.{ℕ, not, T, sym, refl, ap, subst, eq-eqb, ne_eqb}
use lib.Ieee.{binary64, of_bits, nan_bits}
use Rattle.rounding.specs.Upward.{next_up}
use Rattle.tzb_core.proofs.Pattern.{not_nan, step_not_nan}
use Rattle.basics.specs.Picked.{yes_is, no_is}
use Rattle.tzb_core.proofs.raycast.next_up.Goals as goal

pub returns-then-x : goal.returns-then-x
unfolding next_up
returns-then-x c = yes_is _ _ _ _ c.if-x.true refl

pub float_to_bits-b : goal.float_to_bits-b
float_to_bits-b c = not_nan c.args.x c.if-x.false

pub returns-then-b-eq9218868437227405312 : goal.returns-then-b-eq9218868437227405312
unfolding next_up
returns-then-b-eq9218868437227405312 c = no_is _ _ _ _ c.if-x.false (yes_is _ _ _ _ (eq-eqb _ _ c.if-b-eq9218868437227405312.true) refl)

pub float_from_bits-result : goal.float_from_bits-result
float_from_bits-result c = subst (λ (b : ℕ). T (not (nan_bits binary64 b))) (sym c.step.ensures) (step_not_nan c.args.x (subst T (sym c.well_formed.0.1) tt) c.if-x.false (ne_eqb _ _ c.if-b-eq9218868437227405312.false))

pub returns : goal.returns
unfolding next_up
returns c = no_is _ _ _ _ c.if-x.false (no_is _ _ _ _ (ne_eqb _ _ c.if-b-eq9218868437227405312.false) (ap (of_bits binary64) c.step.ensures))
