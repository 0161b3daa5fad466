-- Laws of specs/Domain, as proofs cite them. Nothing here need be believed.
-- Assumes nothing.
use Prim.Native.Nat.{ℕ, zero, suc, ◌≤◌}
use native.Mathlib.Omega.{arith}
use mathlib.Core.Path.{◌≡◌}
use mathlib.Core.Bool.{true, false≢true}
use borrow.Author.Tests.{leb-true}
use lib.Dec.{leb}
use lib.IntN.{ℤ, pos, negsuc, nat_abs}
use Rattle.basics.specs.Truth.{and_l, and_r}
use Rattle.plane.specs.declared.I32Point.{I32Point}
use Rattle.plane.specs.Domain.{within, in_domain}

-- ---- the sizes of a point in the domain
size : (n : ℕ) (z : ℤ) → within n z ≡ true → nat_abs z ≤ n
size zero (pos m) h = leb-true m zero (and_r (leb zero m) (leb m zero) h)
size zero (negsuc m) h = absurd (false≢true h)
size (suc n) (pos m) h = leb-true m (suc n) h
size (suc n) (negsuc m) h = omega (arith, leb-true m n (and_l (leb m n) true h))

module _ (q : I32Point) (h : in_domain q ≡ true) where
  pub domain_x : nat_abs q.x ≤ 18_000_000
  unfolding in_domain
  domain_x = size 18_000_000 q.x (and_l (within 18_000_000 q.x) (within 9_000_000 q.y) h)

  pub domain_y : nat_abs q.y ≤ 9_000_000
  unfolding in_domain
  domain_y = size 9_000_000 q.y (and_r (within 18_000_000 q.x) (within 9_000_000 q.y) h)
