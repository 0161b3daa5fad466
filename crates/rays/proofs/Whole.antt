-- The exact segment test by the naturals: what plane's `seg` says of numbers in the domain, each by its natural.
-- Assumes nothing.
use mathlib.Core.Path.{◌≡◌, ap, ap₂, ◌∙◌}
use mathlib.Core.Bool.{Bool, ◌&&◌, ◌||◌, cond}
use Prim.Native.Nat.{◌≤◌}
use lib.Dec.{ltb, leb}
use lib.IntN.{ℤ, nat_abs}
use lib.Signed.{lt_z, le_z}
use Rattle.basics.specs.Whole.{Is, shift_is, lt_test, le_test, zero_test, pos_test, neg_test}
use Rattle.plane.specs.Segment.{cross, amid_z, on_z, counts_z}
use Rattle.plane.proofs.Turns.{plus, less, cross_is}
use Rattle.rays.proofs.Sides.{amid, on_n, counts_n}
use Rattle.rays.proofs.Order.{nat}

abbrev pub Near : ℤ → Type 0
Near z = nat_abs z ≤ 18_000_000

lt_nat : (x y : ℤ) → Near x → Near y → lt_z x y ≡ ltb (nat x) (nat y)
lt_nat x y h k = lt_test x y (nat x) (nat y) 18_000_000 (shift_is 18_000_000 x h) (shift_is 18_000_000 y k)

le_nat : (x y : ℤ) → Near x → Near y → le_z x y ≡ leb (nat x) (nat y)
le_nat x y h k = le_test x y (nat x) (nat y) 18_000_000 (shift_is 18_000_000 x h) (shift_is 18_000_000 y k)

amid_nat : (u v w : ℤ) → Near u → Near v → Near w → amid_z u v w ≡ amid (nat u) (nat v) (nat w)
unfolding amid_z
amid_nat u v w a b c =
    ap (λ (t : Bool). cond t (le_z u w && le_z w v) (le_z v w && le_z w u)) (lt_nat u v a b)
    ∙ ap₂ (λ (x y : Bool). cond (ltb (nat u) (nat v)) x y) (ap₂ ◌&&◌ (le_nat u w a c) (le_nat w v c b)) (ap₂ ◌&&◌ (le_nat v w b c) (le_nat w u c a))

module _ (ax ay bx by px py : ℤ) (iax : Near ax) (iay : Near ay) (ibx : Near bx) (iby : Near by) (ipx : Near px) (ipy : Near py) where
  turned : Is (cross ax ay bx by px py) (plus (nat ax) (nat ay) (nat bx) (nat by) (nat px) (nat py)) (less (nat ax) (nat ay) (nat bx) (nat by) (nat px) (nat py))
  turned = cross_is ax ay bx by px py 18_000_000 (nat ax) (nat ay) (nat bx) (nat by) (nat px) (nat py) (shift_is 18_000_000 ax iax) (shift_is 18_000_000 ay iay) (shift_is 18_000_000 bx ibx) (shift_is 18_000_000 by iby) (shift_is 18_000_000 px ipx) (shift_is 18_000_000 py ipy)

  pub on_nat : on_z ax ay bx by px py ≡ on_n (nat ax) (nat ay) (nat bx) (nat by) (nat px) (nat py)
  unfolding on_z on_n
  on_nat =
      ap₂ ◌&&◌ (zero_test (cross ax ay bx by px py) (plus (nat ax) (nat ay) (nat bx) (nat by) (nat px) (nat py)) (less (nat ax) (nat ay) (nat bx) (nat by) (nat px) (nat py)) turned)
      (ap₂ ◌&&◌ (amid_nat ax bx px iax ibx ipx) (amid_nat ay by py iay iby ipy))

  pub counts_nat : counts_z ax ay bx by px py ≡ counts_n (nat ax) (nat ay) (nat bx) (nat by) (nat px) (nat py)
  unfolding counts_z counts_n
  counts_nat =
      let p = plus (nat ax) (nat ay) (nat bx) (nat by) (nat px) (nat py) in
      let l = less (nat ax) (nat ay) (nat bx) (nat by) (nat px) (nat py) in
      ap₂ ◌||◌
      (ap₂ ◌&&◌ (ap₂ ◌&&◌ (le_nat ay py iay ipy) (lt_nat py by ipy iby)) (pos_test (cross ax ay bx by px py) p l turned))
      (ap₂ ◌&&◌ (ap₂ ◌&&◌ (le_nat by py iby ipy) (lt_nat py ay ipy iay)) (neg_test (cross ax ay bx by px py) p l turned))
