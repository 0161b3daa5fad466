-- A point's height where a box of the domain is level with it: the floor of its y, between the box's least y and its greatest. Nothing here need be believed.
-- Assumes nothing.
use Prim.Native.Nat.{ℕ, ◌+◌, ◌*◌, ◌≤◌, ◌<◌}
use native.Mathlib.Omega.{arith}
use native.Mathlib.Nat.{mul-pos, mul-le-mul_right}
use mathlib.Core.Path.{◌≡◌, refl, sym, ap}
use mathlib.Core.Bool.{Bool, true, false, ◌&&◌, ◌||◌, true≢false, false≢true}
use borrow.Author.Tests.{lt-ltb, ltb-false, eq-eqb}
use lib.Dec.{ltb, eqb}
use lib.IntN.{pos, neg_ℤ, nat_abs}
use lib.Signed.{le_z}
use lib.Ieee.{Float, nan, inf, fin, binary64, up, down, lt, eq, le, of_int}
use lib.Ieee.Fits.{down_pos}
use lib.Ieee.Exact.{HasValue}
use lib.Ieee.Back.{round_whole}
use Rattle.basics.specs.Truth.{and_i, and_l, and_r}
use Rattle.plane.specs.declared.Point.{Point}
use Rattle.plane.specs.Domain.{in_domain}
use Rattle.plane.proofs.DomainLaws.{domain_y}
use Rattle.boxes.specs.declared.BBox.{BBox}
use Rattle.boxes.specs.Box.{float, spans, relevant, ordered, least, greatest, box_in_domain}
use Rattle.floors.specs.Floor.{floor_of}
use Rattle.floors.specs.Steps.{Small}
use Rattle.floors.proofs.Compared.{floor_from, floor_upto, between_small}
use Rattle.reader_ways.specs.Ways.{height_of}

-- ---- a float of size at most q lies between -q and q
-- a is at most b, tested as floats are: less, or else the same
at_most : (a b : ℕ) (x : Bool) → a ≤ b → (a ≡ b → x ≡ true) → ltb a b || x ≡ true
at_most a b x h f = pick (ltb a b) refl
  where
    pick : (t : Bool) → ltb a b ≡ t → t || x ≡ true
    pick true e = refl
    pick false e = f (omega (arith, ltb-false a b e))

same : (a b : ℕ) → a ≡ b → eqb a b && true ≡ true
same a b e = rw (eq-eqb a b e)

-- n / d is 9,000,000, and m / e is at most that: each over both denominators
module _ (n d m e : ℕ) (v : n * 1 ≡ 9_000_000 * d) (h : m ≤ 9_000_000 * e) (p : 0 < d) (q : 0 < e) where
  above_both : m * d ≤ n * e
  above_both =
      let f : n * e ≡ 9_000_000 * d * e = ap (λ (k : ℕ). k * e) (omega arith) in
      omega (arith, f, mul-le-mul_right d h)

  above_none : 0 < n * e
  above_none =
      let f : n * e ≡ 9_000_000 * d * e = ap (λ (k : ℕ). k * e) (omega arith) in
      omega (arith, f, mul-pos p q)

from_least : (f y : Float) → HasValue f true 9_000_000 1 → Small y → le f y ≡ true
unfolding le lt eq
from_least nan y v s = absurd v
from_least (inf t) y v s = absurd v
from_least (fin false n d) y v s = absurd (false≢true v.0)
from_least (fin true n d) nan v s = absurd (false≢true s.is_finite)
from_least (fin true n d) (inf t) v s = absurd (false≢true s.is_finite)
from_least (fin true n d) (fin false m e) v s =
    let h : 0 < n * up d * down e = above_none (n * up d) (down d) (m * up e) (down e) v.1 s.small (down_pos d) (down_pos e) in
    rw (lt-ltb 0 (n * up d * down e + m * up e * down d) (omega arith))
from_least (fin true n d) (fin true m e) v s =
    at_most (m * up e * down d) (n * up d * down e) _ (above_both (n * up d) (down d) (m * up e) (down e) v.1 s.small (down_pos d) (down_pos e)) (λ k. same (n * up d * down e) (m * up e * down d) (sym k))

to_greatest : (f y : Float) → HasValue f false 9_000_000 1 → Small y → le y f ≡ true
unfolding le lt eq
to_greatest nan y v s = absurd v
to_greatest (inf t) y v s = absurd v
to_greatest (fin true n d) y v s = absurd (true≢false v.0)
to_greatest (fin false n d) nan v s = absurd (false≢true s.is_finite)
to_greatest (fin false n d) (inf t) v s = absurd (false≢true s.is_finite)
to_greatest (fin false n d) (fin true m e) v s =
    let h : 0 < n * up d * down e = above_none (n * up d) (down d) (m * up e) (down e) v.1 s.small (down_pos d) (down_pos e) in
    rw (lt-ltb 0 (m * up e * down d + n * up d * down e) (omega arith))
to_greatest (fin false n d) (fin false m e) v s =
    at_most (m * up e * down d) (n * up d * down e) _ (above_both (n * up d) (down d) (m * up e) (down e) v.1 s.small (down_pos d) (down_pos e)) (same (m * up e * down d) (n * up d * down e))

small_spans : (y : Float) → Small y → spans (neg_ℤ (pos 9_000_000)) (pos 9_000_000) y ≡ true
unfolding of_int
small_spans y s = and_i _ _ (from_least _ y (round_whole binary64 true 9_000_000 (omega arith)) s) (to_greatest _ y (round_whole binary64 false 9_000_000 (omega arith)) s)

-- ---- a box of the domain
module _ (b : BBox) (d : box_in_domain b ≡ true) where
  pub least_small : nat_abs b.miny ≤ 9_000_000
  unfolding box_in_domain
  least_small = domain_y (least b) (and_l (in_domain (least b)) _ (and_r (ordered b) _ d))

  pub greatest_small : nat_abs b.maxy ≤ 9_000_000
  unfolding box_in_domain
  greatest_small = domain_y (greatest b) (and_r (in_domain (least b)) _ (and_r (ordered b) _ d))

-- that is level with the point
module _ (b : BBox) (p : Point) (d : box_in_domain b ≡ true) (r : relevant b p ≡ true) where
  from : le (float b.miny) p.y ≡ true
  unfolding relevant
  from = and_l (le (float b.miny) p.y) _ (and_l (spans b.miny b.maxy p.y) _ r)

  upto : le p.y (float b.maxy) ≡ true
  unfolding relevant
  upto = and_r (le (float b.miny) p.y) _ (and_l (spans b.miny b.maxy p.y) _ r)

  small : Small p.y
  small = between_small b.miny b.maxy p.y (least_small b d) (greatest_small b d) from upto

  -- its height is a floor
  height_floor : height_of p.y ≡ floor_of p.y
  unfolding height_of
  height_floor = rw (small_spans p.y small)

  -- between the box's heights
  pub height_from : le_z b.miny (height_of p.y) ≡ true
  height_from = rw height_floor (floor_from b.miny p.y from small.is_finite (least_small b d))

  pub height_upto : le_z (height_of p.y) b.maxy ≡ true
  height_upto = rw height_floor (floor_upto b.maxy p.y upto small.is_finite (greatest_small b d))
