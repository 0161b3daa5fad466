-- A segment that lies above the point, or below it, and is not level: the ray test sees nothing of it. Which heights are above and below is told by whole numbers, from the point's height without its fraction.
-- Assumes nothing.
use Rattle.std.proofs.Common.{◌≡◌, ℕ, ◌+◌, ◌-◌, ◌*◌, ◌/◌, ◌%◌, ◌^◌, ◌<◌, ◌≤◌, min, Bool, true, false, cond, ◌&&◌, ◌||◌, T, ℤ, pos, negsuc, neg_ℤ, nat_abs, sym, refl, ap, ◌∙◌, ap₂, le_trans, mul-le-mul_right, mod-lt, div-add-mod', div-mul-le_self, arith, lit≤, w32, SFits, ltb-true, lt-ltb, leb-true}
use mathlib.Core.Bool.{false≢true}
use lib.Signed.{lt_z, le_z}
use lib.Ieee.{Float, nan, inf, fin, up, down, lt, le, eq, to_signed}
use Rattle.basics.specs.Truth.{and_l, and_r}
use Rattle.basics.specs.Whole.{Is, is_move, is_neg, shift_is, lt_is}
use Rattle.rounding.specs.Free.{frac_of, frac_lt, lt_frac}
use Rattle.plane.specs.declared.Point.{Point}
use Rattle.plane.specs.declared.I32Point.{I32Point}
use Rattle.plane.specs.Sight.{Off}
use Rattle.plane.specs.Domain.{in_domain, within}
use Rattle.boxes.specs.Box.{float}
use Rattle.rays.specs.Ray.{ray_at, ray_of}
use Rattle.tzb_core.specs.declared.chunk.Band.{Band}
use Rattle.rays.proofs.Floats.{at, In, fine}
use Rattle.basics.specs.Picked.{yes_is}
use Rattle.rays.proofs.Order.{nat, nat_in, nat_at, lt_float}
use Rattle.plane.proofs.DomainLaws.{domain_y}
use Rattle.tzb_core.specs.Steps.{Around, aside}

-- ---- the whole part of a size n / c, with all that is below 2 ^ 63 kept
least : (n c N M : ℕ) → N ≡ min (n / c) M → N * c ≤ n
least n c N M e = le_trans (mul-le-mul_right c (cut N (n / c) M e)) (div-mul-le_self n c)
  where
    cut : (N d M : ℕ) → N ≡ min d M → N ≤ d
    cut N d M e = omega arith

most : (n c N M : ℕ) → 0 < c → N ≡ min (n / c) M → N < M → n < N * c + c
most n c N M C e h = step (n / c) (n % c) (kept N (n / c) M e h) (div-add-mod' n c) (mod-lt n C)
  where
    kept : (N d M : ℕ) → N ≡ min d M → N < M → N ≡ d
    kept N d M e h = omega arith

    step : (d r : ℕ) → N ≡ d → d * c + r ≡ n → r < c → n < N * c + c
    step d r z e h = let w : N * c ≡ d * c = ap (λ (k : ℕ). k * c) z in omega arith

-- ---- a height z of the domain against the point's height
module _ (m : ℕ) (e : ℤ) (z : ℤ) (small : nat_abs z ≤ 9_000_000) where
  near : nat_abs z ≤ 18_000_000
  near = le_trans small (lit≤ tt)

  in_z : In (nat z)
  in_z = nat_in z near

  z_is : Is z (nat z) 18_000_000
  z_is = shift_is 18_000_000 z near

  top : nat z ≤ 27_000_000
  top = go z small
    where
      go : (z : ℤ) → nat_abs z ≤ 9_000_000 → nat z ≤ 27_000_000
      go (pos n) h = omega arith
      go (negsuc n) h = omega arith

  under : (s : Bool) → (frac_of s m e).q + nat z * down e < (frac_of s m e).p + 18_000_000 * down e → lt (float z) (fin s m e) ≡ true
  under s h = ap (λ (x : Float). lt x (fin s m e)) (nat_at z near) ∙ go s h
    where
      go : (s : Bool) → (frac_of s m e).q + nat z * down e < (frac_of s m e).p + 18_000_000 * down e → lt (at (nat z)) (fin s m e) ≡ true
      go true h = lt_frac (fin true m e) (frac_of true m e) 18_000_000 (nat z) (fine (nat z) in_z) ∙ lt-ltb (m * up e + nat z * down e) (0 + 18_000_000 * down e) h
      go false h = lt_frac (fin false m e) (frac_of false m e) 18_000_000 (nat z) (fine (nat z) in_z) ∙ lt-ltb (0 + nat z * down e) (m * up e + 18_000_000 * down e) h

  over : (s : Bool) → (frac_of s m e).p + 18_000_000 * down e < (frac_of s m e).q + nat z * down e → lt (fin s m e) (float z) ≡ true
  over s h = ap (lt (fin s m e)) (nat_at z near) ∙ go s h
    where
      go : (s : Bool) → (frac_of s m e).p + 18_000_000 * down e < (frac_of s m e).q + nat z * down e → lt (fin s m e) (at (nat z)) ≡ true
      go true h = frac_lt (fin true m e) (frac_of true m e) 18_000_000 (nat z) (fine (nat z) in_z) ∙ lt-ltb (0 + 18_000_000 * down e) (m * up e + nat z * down e) h
      go false h = frac_lt (fin false m e) (frac_of false m e) 18_000_000 (nat z) (fine (nat z) in_z) ∙ lt-ltb (m * up e + 18_000_000 * down e) (0 + nat z * down e) h

  c_pos : 0 < down e
  c_pos = (frac_of true m e).c_pos

  -- where the height is not negative, its whole part is N
  module _ (N : ℕ) (is : N ≡ min (m * up e / down e) (2 ^ 63 - 1)) where
    pos_is : Is (pos N) (18_000_000 + N) 18_000_000
    pos_is = refl

    less : lt_z z (pos N) ≡ true → lt (float z) (fin false m e) ≡ true
    less h = under false (sum (m * up e) (down e) (nat z) c_pos (lt_is z (pos N) (nat z) (18_000_000 + N) 18_000_000 z_is pos_is h) (least (m * up e) (down e) N (2 ^ 63 - 1) is))
      where
        sum : (n c Z : ℕ) → 0 < c → Z < 18_000_000 + N → N * c ≤ n → 0 + Z * c < n + 18_000_000 * c
        sum n c Z C h k = omega (arith, mul-le-mul_right c h)

    more : lt_z (pos N) z ≡ true → lt (fin false m e) (float z) ≡ true
    more h =
        let g = lt_is (pos N) z (18_000_000 + N) (nat z) 18_000_000 pos_is z_is h in
        over false (sum (m * up e) (down e) (nat z) g (most (m * up e) (down e) N (2 ^ 63 - 1) c_pos is (omega (arith, g, top))))
      where
        sum : (n c Z : ℕ) → 18_000_000 + N < Z → n < N * c + c → n + 18_000_000 * c < 0 + Z * c
        sum n c Z h k = omega (arith, mul-le-mul_right c h)

  -- where it is negative, its whole part is -N
  module _ (N : ℕ) (is : N ≡ min (m * up e / down e) (2 ^ 63)) where
    neg_is : Is (neg_ℤ (pos N)) 18_000_000 (18_000_000 + N)
    neg_is = is_neg (pos N) (18_000_000 + N) 18_000_000 refl

    z_up : Is z (nat z + N) (18_000_000 + N)
    z_up = is_move z (nat z) 18_000_000 (nat z + N) (18_000_000 + N) z_is (omega arith)

    less_neg : lt_z z (neg_ℤ (pos N)) ≡ true → lt (float z) (fin true m e) ≡ true
    less_neg h =
        let g = lt_is z (neg_ℤ (pos N)) (nat z + N) 18_000_000 (18_000_000 + N) z_up neg_is h in
        under true (sum (m * up e) (down e) (nat z) g (most (m * up e) (down e) N (2 ^ 63) c_pos is (omega (arith, g))))
      where
        sum : (n c Z : ℕ) → Z + N < 18_000_000 → n < N * c + c → n + Z * c < 0 + 18_000_000 * c
        sum n c Z h k = omega (arith, mul-le-mul_right c h)

    more_neg : lt_z (neg_ℤ (pos N)) z ≡ true → lt (fin true m e) (float z) ≡ true
    more_neg h = over true (sum (m * up e) (down e) (nat z) c_pos (lt_is (neg_ℤ (pos N)) z 18_000_000 (nat z + N) (18_000_000 + N) neg_is z_up h) (least (m * up e) (down e) N (2 ^ 63) is))
      where
        sum : (n c Z : ℕ) → 0 < c → 18_000_000 < Z + N → N * c ≤ n → 0 + 18_000_000 * c < n + Z * c
        sum n c Z C h k = omega (arith, mul-le-mul_right c h)

-- the height without its fraction keeps apart what is below and what is above
pub around_cut : (y : Float) (t : ℤ) → T (le (fin true 1 (pos 63)) y) → T (lt y (fin false 1 (pos 63))) → t ≡ to_signed 63 y → Around (record { lo = t; hi = t }) y
unfolding to_signed le lt eq
around_cut nan t l r e z h = absurd l
around_cut (inf true) t l r e z h = absurd l
around_cut (inf false) t l r e z h = absurd r
around_cut (fin false m e) t l r i z h =
    (λ k. less m e z h _ refl (ap (lt_z z) (sym i) ∙ k), λ k. more m e z h _ refl (ap (λ (u : ℤ). lt_z u z) (sym i) ∙ k))
around_cut (fin true m e) t l r i z h =
    (λ k. less_neg m e z h _ refl (ap (lt_z z) (sym i) ∙ k), λ k. more_neg m e z h _ refl (ap (λ (u : ℤ). lt_z u z) (sym i) ∙ k))

-- no height of the domain is outside the domain
pub around_all : (y : Float) → Around (record { lo = negsuc 8_999_999; hi = pos 9_000_000 }) y
around_all y (pos n) h = (λ k. absurd (false≢true k), λ k. absurd (omega (arith, ltb-true 9_000_000 n k)))
around_all y (negsuc n) h = (λ k. absurd (omega (arith, ltb-true 8_999_999 n k)), λ k. absurd (false≢true k))

-- a number of the domain's heights is an i32
pub within_fits : (z : ℤ) → within 9_000_000 z ≡ true → SFits w32 z
within_fits (pos n) h = record { sfits = omega (arith, leb-true n 9_000_000 (and_r true (le_z (pos n) (pos 9_000_000)) h)) }
within_fits (negsuc n) h = record { sfits = omega (arith, leb-true n 8_999_999 (and_l (le_z (negsuc 8_999_999) (negsuc n)) true h)) }

-- ---- what is above both ends or below both, of ends that differ in height, is away
apart : (ab ba ya yb ay by : Bool) → (ab || ba) && ((ay && by) || (ya && yb)) ≡ true → cond ab (ya || by) (ba && (yb || ay)) ≡ true
apart true ba true yb ay by h = refl
apart true ba false yb true true h = refl
apart true ba false yb true false h = absurd (false≢true h)
apart true ba false yb false by h = absurd (false≢true h)
apart false true ya true ay by h = refl
apart false true ya false true by h = refl
apart false true true false false by h = absurd (false≢true h)
apart false true false false false by h = absurd (false≢true h)
apart false false ya yb ay by h = absurd (false≢true h)

or_true : (x : Bool) → x || true ≡ true
or_true true = refl
or_true false = refl

-- tests that pass in whole numbers pass in floats
lift : (d d' : Bool) (a b c e a' b' c' e' : Bool) → d ≡ d' → (a ≡ true → a' ≡ true) → (b ≡ true → b' ≡ true) → (c ≡ true → c' ≡ true) → (e ≡ true → e' ≡ true)
    → d && ((a && b) || (c && e)) ≡ true → d' && ((a' && b') || (c' && e')) ≡ true
lift true true true true c e a' b' c' e' p f g h k q = ap₂ (λ (x y : Bool). (x && y) || (c' && e')) (f refl) (g refl)
lift true true true false true true a' b' c' e' p f g h k q = ap₂ (λ (x y : Bool). (a' && b') || (x && y)) (h refl) (k refl) ∙ or_true (a' && b')
lift true true true false true false a' b' c' e' p f g h k q = absurd (false≢true q)
lift true true true false false e a' b' c' e' p f g h k q = absurd (false≢true q)
lift true true false b true true a' b' c' e' p f g h k q = ap₂ (λ (x y : Bool). (a' && b') || (x && y)) (h refl) (k refl) ∙ or_true (a' && b')
lift true true false b true false a' b' c' e' p f g h k q = absurd (false≢true q)
lift true true false b false e a' b' c' e' p f g h k q = absurd (false≢true q)
lift true false a b c e a' b' c' e' p f g h k q = absurd (false≢true (sym p))
lift false d' a b c e a' b' c' e' p f g h k q = absurd (false≢true q)

pub skips : (b : Band) (p : Point) (u v : I32Point) → Around b p.y → in_domain u ≡ true → in_domain v ≡ true → aside b u v ≡ true → Off false ≡ ray_of u v p
unfolding aside ray_of ray_at
skips b p u v w iu iv h =
    let k = domain_y u iu in
    let l = domain_y v iv in
    let k' : nat_abs u.y ≤ 18_000_000 = le_trans k (lit≤ tt) in
    let l' : nat_abs v.y ≤ 18_000_000 = le_trans l (lit≤ tt) in
    let both = lift _ _ _ _ _ _ _ _ _ _ (sym (ap₂ ◌||◌ (lt_float u.y v.y k' l') (lt_float v.y u.y l' k'))) (w u.y k).0 (w v.y l).0 (w u.y k).1 (w v.y l).1 h in
    yes_is _ _ _ _ (apart (lt (float u.y) (float v.y)) (lt (float v.y) (float u.y)) (lt p.y (float u.y)) (lt p.y (float v.y)) (lt (float u.y) p.y) (lt (float v.y) p.y) both) refl
