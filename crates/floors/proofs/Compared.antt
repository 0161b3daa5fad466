-- A whole number of the domain, made a float and compared with a float, is compared with the float's floor.
-- Assumes nothing.
use Rattle.std.proofs.Common.{◌≡◌, ℕ, zero, suc, ◌*◌, ◌<◌, ◌≤◌, Bool, true, false, ◌||◌, eqb, ltb, ℤ, pos, negsuc, nat_abs, sym, refl, ap, ◌∙◌, subst, le_trans, mul-le-mul_right, le_of_mul-le-mul_right, arith, ltb-true, eqb-true, le-leb}
use mathlib.Core.Bool.{false≢true}
use lib.Signed.{le_z}
use lib.Ieee.{Float, nan, inf, fin, binary64, up, down, below, level, lt, eq, le, of_int}
use lib.Ieee.Scale.{finite}
use lib.Ieee.Fits.{down_pos}
use lib.Ieee.Positive.{num, den}
use lib.Ieee.Exact.{HasValue}
use lib.Ieee.Back.{round_whole}
use Rattle.basics.specs.Truth.{and_l, and_r}
use Rattle.floors.specs.Floor.{signed, not_above, floor_of}
use Rattle.floors.specs.Steps.{Small}
use Rattle.floors.proofs.FloorMeans.{not_below, floor_greatest, floor_least}

-- ---- two sizes with their signs: the first is at most the second
abbrev Upto : Bool → ℕ → Bool → ℕ → Type 0
Upto false a false b = a ≤ b
Upto false a true b = (a ≡ 0) × (b ≡ 0)
Upto true a false b = Unit
Upto true a true b = b ≤ a

either : {A : Type 0} (a b : Bool) → (a ≡ true → A) → (b ≡ true → A) → a || b ≡ true → A
either true b f g h = f refl
either false b f g h = g h

-- as floats are compared
compared : (s : Bool) (a : ℕ) (t : Bool) (b : ℕ) → below s a t b || level s a t b ≡ true → Upto s a t b
compared false a false b h =
    either (ltb a b) _ (λ l. omega (arith, ltb-true a b l)) (λ l. omega (arith, eqb-true a b (and_l (eqb a b) _ l))) h
compared false a true b h =
    let e = eqb-true a b (and_l (eqb a b) _ h) in
    let z = eqb-true a 0 (and_r (eqb a b) _ h) in
    (z, sym e ∙ z)
compared true a false b h = tt
compared true a true b h =
    either (ltb b a) _ (λ l. omega (arith, ltb-true b a l)) (λ l. omega (arith, eqb-true a b (and_l (eqb a b) _ l))) h

-- both were so many times greater
cancelled : (s : Bool) (a : ℕ) (t : Bool) (b k : ℕ) → 0 < k → Upto s (a * k) t (b * k) → Upto s a t b
cancelled false a false b k p h = le_of_mul-le-mul_right h p
cancelled false a true b k p h = (nothing a k p h.0, nothing b k p h.1)
  where
    nothing : (a k : ℕ) → 0 < k → a * k ≡ 0 → a ≡ 0
    nothing zero k p h = refl
    nothing (suc a) k p h = absurd (omega arith)
cancelled true a false b k p h = tt
cancelled true a true b k p h = le_of_mul-le-mul_right h p

-- as whole numbers are compared
whole_upto : (s : Bool) (a : ℕ) (t : Bool) (b : ℕ) → Upto s a t b → le_z (signed s a) (signed t b) ≡ true
whole_upto false a false b h = le-leb a b h
whole_upto false a true zero h = le-leb a 0 (omega arith)
whole_upto false a true (suc b) h = absurd (omega arith)
whole_upto true zero false b h = le-leb 0 b (omega arith)
whole_upto true (suc a) false b h = refl
whole_upto true zero true zero h = refl
whole_upto true zero true (suc b) h = absurd (omega arith)
whole_upto true (suc a) true zero h = refl
whole_upto true (suc a) true (suc b) h = le-leb b a (omega arith)

-- ---- a float f that is a whole number, beside another one
module _ (s : Bool) (q : ℕ) where
  -- n / c is q / 1, over the other's denominator d
  over : (n c d : ℕ) → n * 1 ≡ q * c → n * d ≡ q * d * c
  over n c d v = let e : n ≡ q * c = omega arith in ap (λ (k : ℕ). k * d) e ∙ omega arith

  from_value : (f : Float) → HasValue f s q 1 → (t : Bool) (m : ℕ) (e : ℤ) → le f (fin t m e) ≡ true → Upto s (q * down e) t (m * up e)
  unfolding le lt eq
  from_value nan v t m e h = absurd v
  from_value (inf r) v t m e h = absurd v
  from_value (fin r n d) v t m e h =
      cancelled s (q * down e) t (m * up e) (down d) (down_pos d)
      (subst (λ (i : Bool). Upto i (q * down e * down d) t (m * up e * down d)) v.0
      (subst (λ (i : ℕ). Upto r i t (m * up e * down d)) (over (n * up d) (down d) (down e) v.1)
      (compared r (n * up d * down e) t (m * up e * down d) h)))

  upto_value : (f : Float) → HasValue f s q 1 → (t : Bool) (m : ℕ) (e : ℤ) → le (fin t m e) f ≡ true → Upto t (m * up e) s (q * down e)
  unfolding le lt eq
  upto_value nan v t m e h = absurd v
  upto_value (inf r) v t m e h = absurd v
  upto_value (fin r n d) v t m e h =
      cancelled t (m * up e) s (q * down e) (down d) (down_pos d)
      (subst (λ (i : Bool). Upto t (m * up e * down d) i (q * down e * down d)) v.0
      (subst (λ (i : ℕ). Upto t (m * up e * down d) r i) (over (n * up d) (down d) (down e) v.1)
      (compared t (m * up e * down d) r (n * up d * down e) h)))

-- what lies between two of them is finite
between_values : (s t : Bool) (q r : ℕ) (f g y : Float) → HasValue f s q 1 → HasValue g t r 1 → le f y ≡ true → le y g ≡ true → finite y ≡ true
unfolding le lt eq
between_values s t q r nan g y v w h k = absurd v
between_values s t q r (inf i) g y v w h k = absurd v
between_values s t q r (fin i n d) nan y v w h k = absurd w
between_values s t q r (fin i n d) (inf j) y v w h k = absurd w
between_values s t q r (fin i n d) (fin j o c) nan v w h k = absurd (false≢true h)
between_values s t q r (fin i n d) (fin j o c) (inf true) v w h k = absurd (false≢true h)
between_values s t q r (fin i n d) (fin j o c) (inf false) v w h k = absurd (false≢true k)
between_values s t q r (fin i n d) (fin j o c) (fin l m e) v w h k = refl

-- ---- a whole number of the domain
abbrev negative : ℤ → Bool
negative (pos n) = false
negative (negsuc n) = true

value : (z : ℤ) → nat_abs z ≤ 9_000_000 → HasValue (of_int binary64 z) (negative z) (nat_abs z) 1
unfolding of_int
value (pos n) k = round_whole binary64 false n (omega arith)
value (negsuc n) k = round_whole binary64 true (suc n) (omega arith)

from_is : (z : ℤ) (y : Float) → finite y ≡ true → nat_abs z ≤ 9_000_000 → le (of_int binary64 z) y ≡ true → not_above z y ≡ true
from_is z nan f k h = absurd (false≢true f)
from_is z (inf s) f k h = absurd (false≢true f)
from_is (pos n) (fin t m e) f k h = whole_upto false (n * down e) t (m * up e) (from_value false n _ (value (pos n) k) t m e h)
from_is (negsuc n) (fin t m e) f k h = whole_upto true (suc n * down e) t (m * up e) (from_value true (suc n) _ (value (negsuc n) k) t m e h)

upto_is : (z : ℤ) (y : Float) → finite y ≡ true → nat_abs z ≤ 9_000_000 → le y (of_int binary64 z) ≡ true → not_below z y ≡ true
upto_is z nan f k h = absurd (false≢true f)
upto_is z (inf s) f k h = absurd (false≢true f)
upto_is (pos n) (fin t m e) f k h = whole_upto t (m * up e) false (n * down e) (upto_value false n _ (value (pos n) k) t m e h)
upto_is (negsuc n) (fin t m e) f k h = whole_upto t (m * up e) true (suc n * down e) (upto_value true (suc n) _ (value (negsuc n) k) t m e h)

pub floor_from : (z : ℤ) (y : Float) → le (of_int binary64 z) y ≡ true → finite y ≡ true → nat_abs z ≤ 9_000_000 → le_z z (floor_of y) ≡ true
floor_from z y h f k = floor_greatest z y (from_is z y f k h)

pub floor_upto : (z : ℤ) (y : Float) → le y (of_int binary64 z) ≡ true → finite y ≡ true → nat_abs z ≤ 9_000_000 → le_z (floor_of y) z ≡ true
floor_upto z y h f k = floor_least z y (upto_is z y f k h)

-- ---- between two of them: what the code's floor asks for
module _ (lo hi : ℤ) (y : Float) (i : nat_abs lo ≤ 9_000_000) (j : nat_abs hi ≤ 9_000_000) (h : le (of_int binary64 lo) y ≡ true) (k : le y (of_int binary64 hi) ≡ true) where
  pub between_finite : finite y ≡ true
  between_finite = between_values _ _ _ _ _ _ y (value lo i) (value hi j) h k

  pub between_small : Small y
  between_small = record { is_finite = between_finite; small = go y h k between_finite }
    where
      under : (q d a : ℕ) → q ≤ 9_000_000 → a ≤ q * d → a ≤ 9_000_000 * d
      under q d a l h = le_trans h (mul-le-mul_right d l)

      not_past : (s : Bool) (q d a : ℕ) → q ≤ 9_000_000 → Upto false a s (q * d) → a ≤ 9_000_000 * d
      not_past false q d a l h = under q d a l h
      not_past true q d a l h = omega arith

      not_below_law : (s : Bool) (q d a : ℕ) → q ≤ 9_000_000 → Upto s (q * d) true a → a ≤ 9_000_000 * d
      not_below_law false q d a l h = omega arith
      not_below_law true q d a l h = under q d a l h

      go : (y : Float) → le (of_int binary64 lo) y ≡ true → le y (of_int binary64 hi) ≡ true → finite y ≡ true → num y ≤ 9_000_000 * den y
      go nan h k f = absurd (false≢true f)
      go (inf s) h k f = absurd (false≢true f)
      go (fin false m e) h k f = not_past (negative hi) (nat_abs hi) (down e) (m * up e) j (upto_value (negative hi) (nat_abs hi) _ (value hi j) false m e k)
      go (fin true m e) h k f = not_below_law (negative lo) (nat_abs lo) (down e) (m * up e) i (from_value (negative lo) (nat_abs lo) _ (value lo i) true m e h)
