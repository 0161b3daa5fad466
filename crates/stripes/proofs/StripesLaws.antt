-- What follows from the definitions of stripes: a height's stripe is one of the group's, and the greater height has no lesser one; a box stands in the stripe of each of its heights.
-- Assumes nothing.
use Prim.Native.Nat.{ℕ, zero, suc, ◌-◌, ◌*◌, ◌/◌, ◌≤◌, ◌<◌, min, max}
use native.Mathlib.Omega.{arith}
use native.Mathlib.Nat.{div-zero, div-mul-le_self, le-div_iff_mul-le, mul-le-mul_right, min-eq_right, mul_comm}
use mathlib.Core.Path.{◌≡◌, refl, sym, ◌∙◌}
use mathlib.Core.Bool.{true}
use borrow.Author.Tests.{lt-ltb, le-ltb, le-leb}
use lib.IntN.{ℤ}
use lib.Signed.{le_z}
use Rattle.basics.specs.Truth.{and_i}
use Rattle.boxes.specs.declared.BBox.{BBox}
use Rattle.stripes.specs.declared.Striping.{Striping}
use Rattle.stripes.specs.Stripes.{stripe_count, above, striping_of, stripe_of, stands_in}
use Rattle.stripes.proofs.Heights.{above_rises}

div_rises : (a b d : ℕ) → a ≤ b → a / d ≤ b / d
div_rises a b zero h = omega (arith, div-zero a)
div_rises a b (suc d) h = (le-div_iff_mul-le {k = suc d} {x = a / suc d} {y = b} (omega arith)).1 (omega (arith, div-mul-le_self a (suc d)))

min_rises : (a b c : ℕ) → a ≤ b → min a c ≤ min b c
min_rises a b c h = omega arith

-- ---- the stripe of a height
module _ (t : Striping) (y : ℤ) where
  pub stripe_below : 0 < t.k → stripe_of t y < t.k
  unfolding stripe_of
  stripe_below h = omega arith

  -- at the group's height and above it
  pub stripe_last : (up last : ℕ) → up ≡ above t.least y → t.height ≤ up → last ≡ t.k - 1 → 0 < t.height → 0 < t.k → (last ≡ stripe_of t y) × (last < t.k)
  unfolding stripe_of
  stripe_last up last e h l p q =
      let k : t.height ≤ above t.least y = omega (arith, e, h) in
      let m : t.k ≤ above t.least y * t.k / t.height = (le-div_iff_mul-le {k = t.height} {x = t.k} p).1 (omega (arith, mul-le-mul_right t.k k, mul_comm t.height t.k)) in
      (l ∙ sym (min-eq_right (omega arith)), omega arith)

pub stripe_rises : (t : Striping) (a b : ℤ) → le_z a b ≡ true → stripe_of t a ≤ stripe_of t b
unfolding stripe_of
stripe_rises t a b h = min_rises _ _ (t.k - 1) (div_rises _ _ t.height (mul-le-mul_right t.k (above_rises t.least a b h)))

-- ---- where a chunk stands
pub stands_at : (t : Striping) (y : ℤ) (b : BBox) → le_z b.miny y ≡ true → le_z y b.maxy ≡ true → stands_in t (stripe_of t y) b ≡ true
unfolding stands_in
stands_at t y b h k = and_i _ _ (le-leb _ _ (stripe_rises t b.miny y h)) (le-leb _ _ (stripe_rises t y b.maxy k))

-- ---- how many stripes
pub no_stripes : (n : ℕ) → n < 2 → (0 ≡ stripe_count n) × (0 ≤ 256)
unfolding stripe_count
no_stripes n h = rw (lt-ltb n 2 h) (refl, omega arith)

pub some_stripes : (n r : ℕ) → 2 ≤ n → r ≡ max 1 (min (n / 4) 256) → (r ≡ stripe_count n) × (r ≤ 256)
unfolding stripe_count
some_stripes n r h e = rw (le-ltb n 2 h) (e, omega arith)

-- ---- how a group is cut: its height is never 0, and it has stripes exactly where it has two chunks or more
pub height_some : (b : BBox) (n : ℕ) → 0 < (striping_of b n).height
unfolding striping_of
height_some b n = omega arith

pub stripes_some : (b : BBox) (n : ℕ) → 2 ≤ n → 0 < (striping_of b n).k
unfolding striping_of
stripes_some b n h = omega (arith, (some_stripes n (max 1 (min (n / 4) 256)) h refl).0)

pub stripes_none : (b : BBox) (n : ℕ) → n < 2 → (striping_of b n).k ≡ 0
unfolding striping_of
stripes_none b n h = sym (no_stripes n h).0
