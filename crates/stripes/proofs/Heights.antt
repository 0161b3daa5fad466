-- Heights: how far one lies above another, by naturals.
-- Assumes nothing.
use Prim.Native.Nat.{ℕ, ◌+◌, ◌-◌, ◌≤◌}
use native.Mathlib.Omega.{arith}
use mathlib.Core.Path.{◌≡◌, ◌∙◌}
use mathlib.Core.Bool.{true}
use lib.IntN.{ℤ, pos, negsuc, nat_abs, ◌-ℤ◌}
use lib.Signed.{le_z}
use Rattle.basics.specs.Whole.{Is, shift, shift_is, is_minus, le_is}
use Rattle.stripes.specs.Stripes.{or_zero, above}

or_zero_law : (z : ℤ) (p q : ℕ) → Is z p q → or_zero z ≡ p - q
or_zero_law (pos n) p q h = omega arith
or_zero_law (negsuc n) p q h = omega arith

-- both heights, moved up by n until they are natural
module _ (n : ℕ) (least y : ℤ) (h : nat_abs least ≤ n) (k : nat_abs y ≤ n) where
  apart : Is (y -ℤ least) (shift n y + n) (n + shift n least)
  apart = is_minus y least (shift n y) n (shift n least) n (shift_is n y k) (shift_is n least h)

  pub above_by_law : above least y ≡ shift n y - shift n least
  above_by_law = or_zero_law (y -ℤ least) (shift n y + n) (n + shift n least) apart ∙ omega arith

-- from the greater of two heights the way down to the least is no shorter
pub above_rises : (least a b : ℤ) → le_z a b ≡ true → above least a ≤ above least b
above_rises least a b h =
    let n = nat_abs least + nat_abs a + nat_abs b in
    omega (arith, above_by_law n least a (omega arith) (omega arith), above_by_law n least b (omega arith) (omega arith), le_is a b (shift n a) (shift n b) n (shift_is n a (omega arith)) (shift_is n b (omega arith)) h)
