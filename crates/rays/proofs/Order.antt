-- Floats made of whole numbers in the domain compare as the whole numbers do.
-- Assumes nothing.
use mathlib.Core.Path.{◌≡◌, sym, ap, ap₂, ◌∙◌}
use Prim.Native.Nat.{ℕ, ◌≤◌}
use native.Mathlib.Nat.{le_trans}
use native.Mathlib.Omega.{arith}
use mathlib.Core.Bool.{true}
use lib.Dec.{lit≤}
use lib.IntN.{ℤ, pos, negsuc, sub_ℕ, nat_abs}
use lib.Signed.{lt_z, le_z}
use lib.Ieee.{binary64, lt, le, of_int}
use Rattle.basics.specs.Whole.{is_sub, is_unique, shift, shift_is, lt_test, le_test}
use Rattle.rounding.specs.Ints.{diff}
use Rattle.plane.specs.declared.I32Point.{I32Point}
use Rattle.plane.specs.Segment.{above}
use Rattle.plane.specs.Domain.{in_domain}
use Rattle.rays.specs.Ray.{above_of}
use Rattle.rays.proofs.Floats.{at, In, lt_at, le_at}
use Rattle.plane.specs.Places.{point_of}
use Rattle.plane.proofs.DomainLaws.{domain_y}

-- each number by its natural
abbrev pub nat : ℤ → ℕ
nat z = shift 18_000_000 z

pub nat_in : (z : ℤ) → nat_abs z ≤ 18_000_000 → In (nat z)
nat_in (pos n) h = omega arith
nat_in (negsuc n) h = omega arith

pub nat_at : (z : ℤ) → nat_abs z ≤ 18_000_000 → of_int binary64 z ≡ at (nat z)
unfolding diff
nat_at z h = ap (of_int binary64) (is_unique z (sub_ℕ (nat z) 18_000_000) (nat z) 18_000_000 (shift_is 18_000_000 z h) (is_sub (nat z) 18_000_000))

module _ (m n : ℤ) (h : nat_abs m ≤ 18_000_000) (k : nat_abs n ≤ 18_000_000) where
  pub le_float : le (of_int binary64 m) (of_int binary64 n) ≡ le_z m n
  le_float = ap₂ le (nat_at m h) (nat_at n k) ∙ le_at (nat m) (nat n) (nat_in m h) (nat_in n k) ∙ sym (le_test m n (nat m) (nat n) 18_000_000 (shift_is 18_000_000 m h) (shift_is 18_000_000 n k))

  pub lt_float : lt (of_int binary64 m) (of_int binary64 n) ≡ lt_z m n
  lt_float = ap₂ lt (nat_at m h) (nat_at n k) ∙ lt_at (nat m) (nat n) (nat_in m h) (nat_in n k) ∙ sym (lt_test m n (nat m) (nat n) 18_000_000 (shift_is 18_000_000 m h) (shift_is 18_000_000 n k))

-- which of two points of the domain is above the other
pub above_float : (p q : I32Point) → in_domain p ≡ true → in_domain q ≡ true → above_of (point_of p) q ≡ above p q
unfolding above_of above
above_float p q h k = lt_float p.y q.y (le_trans (domain_y p h) (lit≤ tt)) (le_trans (domain_y q k) (lit≤ tt))
