-- The value of the next float upward from a whole number: more by a little. Assumes nothing.
use Rattle.std.specs.Prelude.{◌≡◌, refl, ℕ, zero, suc, ◌+◌, ◌-◌, ◌*◌, ◌/◌, ◌%◌, ◌^◌, ◌≤◌, ◌<◌, Bool, true, false, not, ◌&&◌, cond, T, ltb, eqb, leb}
use Rattle.std.proofs.Common.{sym, ap, ap₂, ◌∙◌, subst, inl, inr, le_trans, le_of_eq, lt_of_lt_of_le, lt_of_le_of_lt, not-le_of_lt, mul_assoc, mul_right_comm, mul-one, one-mul, mul-le-mul_right, mul-div_cancel, le-div_iff_mul-le, eq-zero-or-pos, le_refl, lt-ltb, le-ltb, eq-eqb, ne_eqb, le→leb, leb→le, ltb→lt, nltb→le, lit≤, lit<, pow-add, pow_pos, pow_mono, shl_lt}
use Rattle.std.proofs.Math.Nat.{two-pow-succ, le-suc}
use native.Mathlib.Omega.{arith}
use Rattle.std.proofs.Math.Dec.{not_T}
use lib.Ieee.{Float, nan, inf, fin, binary64, up, down, size, odd, of_fields, of_bits, to_bits, ne}
use Rattle.std.specs.Float.Ieee.Fits.{down_pos, kept-lt}
use Rattle.std.specs.Float.Ieee.Bits.{is_true, is_false}
use Rattle.std.specs.Float.Ieee.Exact.{HasValue, odd_sign}
use Rattle.std.specs.Float.Ieee.Digits.{size-lt, size-le, size_reaches}
use Rattle.rounding.specs.Upward.{step_of, next_up}
use Rattle.rounding.specs.Rounded.{eq_values}
use Rattle.rounding.specs.Ints.{dist, diff, diff_val, one_pos}
use Rattle.rounding.specs.Quotients.{Rep, rep_diff}

-- ---- the value of a pattern with the exponent's field x above 0
abbrev pattern : Bool → ℕ → ℕ → ℕ
pattern s x t = cond s 0x8000_0000_0000_0000 0 + (x * 0x10_0000_0000_0000 + t)

sign_is : (s : Bool) (x t : ℕ) → x < 2047 → t < 0x10_0000_0000_0000 → leb 0x8000_0000_0000_0000 (pattern s x t) ≡ s
sign_is true x t h l = is_true (leb 0x8000_0000_0000_0000 (pattern true x t)) (le→leb 0x8000_0000_0000_0000 (pattern true x t) (omega arith))
sign_is false x t h l = is_false (leb 0x8000_0000_0000_0000 (pattern false x t)) (not_T (leb 0x8000_0000_0000_0000 (pattern false x t)) (λ (u : T (leb 0x8000_0000_0000_0000 (pattern false x t))). no' (leb→le 0x8000_0000_0000_0000 (pattern false x t) u)))
  where
    no' : 0x8000_0000_0000_0000 ≤ 0 + (x * 0x10_0000_0000_0000 + t) → ⊥
    no' u = omega arith

field_is : (s : Bool) (x t : ℕ) → x < 2047 → t < 0x10_0000_0000_0000 → pattern s x t % 0x8000_0000_0000_0000 / 0x10_0000_0000_0000 ≡ x
field_is true x t h l = omega arith
field_is false x t h l = omega arith

digits_are : (s : Bool) (x t : ℕ) → x < 2047 → t < 0x10_0000_0000_0000 → pattern s x t % 0x10_0000_0000_0000 ≡ t
digits_are true x t h l = omega arith
digits_are false x t h l = omega arith

pub of_bits_val : (s : Bool) (k t : ℕ) → suc k < 2047 → t < 0x10_0000_0000_0000 → HasValue (of_bits binary64 (pattern s (suc k) t)) s ((0x10_0000_0000_0000 + t) * 2 ^ k) (2 ^ 1074)
unfolding of_bits of_fields
of_bits_val s k t h l =
    let b = pattern s (suc k) t in
    let e : of_bits binary64 b ≡ of_fields binary64 s (suc k) t =
    ap (λ (v : Bool). of_fields binary64 v (b % 0x8000_0000_0000_0000 / 0x10_0000_0000_0000) (b % 0x10_0000_0000_0000)) (sign_is s (suc k) t h l)
    ∙ ap₂ (λ (v w : ℕ). of_fields binary64 s v w) (field_is s (suc k) t h l) (digits_are s (suc k) t h l) in
    subst (λ (z : Float). HasValue z s ((0x10_0000_0000_0000 + t) * 2 ^ k) (2 ^ 1074)) (sym (e ∙ ap (λ (v : Bool). cond v (cond (eqb t 0) (inf s) nan) (odd 53 s (0x10_0000_0000_0000 + t) k 1074)) (ne_eqb (suc k) 2047 (λ (q : suc k ≡ 2047). differ q))))
    (odd_sign 53 s (0x10_0000_0000_0000 + t) k 1074)
  where
    differ : suc k ≡ 2047 → ⊥
    differ q = omega arith

-- ---- the pattern of a whole number above 0
record Shape (x : Float) (s : Bool) (N : ℕ) : Type 0 where
  k : ℕ
  t : ℕ
  bits : to_bits binary64 x ≡ pattern s (suc k) t
  t_lt : t < 0x10_0000_0000_0000
  k_le : k ≤ 1074
  k_pos : 0 < k
  value : (0x10_0000_0000_0000 + t) * 2 ^ k ≡ N * 2 ^ 1074

units_are : (M N de L : ℕ) → 0 < de → M * 1 ≡ N * de → M * L / de ≡ N * L
units_are M N de L D h = ap (λ (z : ℕ). z / de) (ap (λ (z : ℕ). z * L) (sym (mul-one M) ∙ h) ∙ mul_right_comm N de L) ∙ mul-div_cancel (N * L) D

to_bits_is : (x : Float) (s : Bool) (N : ℕ) → HasValue x s N 1
    → to_bits binary64 x ≡ cond s 0x8000_0000_0000_0000 0 + (size (N * 2 ^ 1074) - 53) * 0x10_0000_0000_0000 + N * 2 ^ 1074 / 2 ^ (size (N * 2 ^ 1074) - 53)
unfolding to_bits
to_bits_is nan s N v = absurd v
to_bits_is (inf r) s N v = absurd v
to_bits_is (fin r m e) s N v =
    ap₂ (λ (b : Bool) (n : ℕ). cond b 0x8000_0000_0000_0000 0 + (size n - 53) * 0x10_0000_0000_0000 + n / 2 ^ (size n - 53)) v.0 (units_are (m * up e) N (down e) (2 ^ 1074) (down_pos e) v.1)

spare : (z p l : ℕ) → z ≤ p + l → z - p ≤ l
spare z p l h = omega arith

-- N * 2 ^ l, with p digits kept
module _ (N l p : ℕ) (NP : 0 < N) (NL : N < 2 ^ p) (PL : p ≤ l) where
  n : ℕ
  n = N * 2 ^ l

  drops : ℕ
  drops = size (N * 2 ^ l) - p

  drops_le : drops ≤ l
  unfolding drops
  drops_le = spare (size (N * 2 ^ l)) p l (size-le (N * 2 ^ l) (p + l) (shl_lt p l NL))

  many : l < size (N * 2 ^ l)
  many = go (ltb l (size (N * 2 ^ l))) (ltb→lt l (size (N * 2 ^ l))) (nltb→le l (size (N * 2 ^ l)))
    where
      go : (b : Bool) → (T b → l < size (N * 2 ^ l)) → (T (not b) → size (N * 2 ^ l) ≤ l) → l < size (N * 2 ^ l)
      go true f g = f tt
      go false f g = absurd (not-le_of_lt (lt_of_lt_of_le (size-lt (N * 2 ^ l)) (pow_mono (g tt))) (le_trans (le_of_eq (sym (one-mul (2 ^ l)))) (mul-le-mul_right (2 ^ l) NP)))

  drops_pos : 0 < drops
  unfolding drops
  drops_pos = let m = many in omega arith

  exact : N * 2 ^ l / 2 ^ drops * 2 ^ drops ≡ N * 2 ^ l
  exact =
      let e : N * 2 ^ l ≡ N * 2 ^ (l - drops) * 2 ^ drops = ap (λ (z : ℕ). N * z) (ap (λ (z : ℕ). 2 ^ z) (sym (back l drops drops_le)) ∙ pow-add 2 (l - drops) drops) ∙ sym (mul_assoc N (2 ^ (l - drops)) (2 ^ drops)) in
      ap (λ (z : ℕ). z / 2 ^ drops * 2 ^ drops) e ∙ ap (λ (z : ℕ). z * 2 ^ drops) (mul-div_cancel (N * 2 ^ (l - drops)) (pow_pos drops)) ∙ sym e
    where
      back : (a b : ℕ) → b ≤ a → a - b + b ≡ a
      back a b h = omega arith

  kept_less : N * 2 ^ l / 2 ^ drops < 2 ^ p
  unfolding drops
  kept_less = kept-lt p (N * 2 ^ l)

  kept_more : 0 < p → 2 ^ (p - 1) ≤ N * 2 ^ l / 2 ^ drops
  unfolding drops
  kept_more P =
      let m = many in
      (le-div_iff_mul-le (pow_pos drops)).1 (le_trans (le_of_eq (sym (pow-add 2 (p - 1) drops))) (size_reaches (N * 2 ^ l) (p - 1 + drops) (under (size (N * 2 ^ l)) p P (lt_of_le_of_lt PL m))))
    where
      under : (z p : ℕ) → 0 < p → p < z → p - 1 + (z - p) < z
      under z p P h = omega arith

shape : (x : Float) (s : Bool) (N : ℕ) → 0 < N → N < 2 ^ 53 → HasValue x s N 1 → Shape x s N
unfolding drops
shape x s N P h v =
    let k = drops N 1074 53 P h (lit≤ tt) in
    let q : ℕ = N * 2 ^ 1074 / 2 ^ k in
    let lo : 0x10_0000_0000_0000 ≤ q = kept_more N 1074 53 P h (lit≤ tt) (lit< tt) in
    let hi : q < 0x20_0000_0000_0000 = kept_less N 1074 53 P h (lit≤ tt) in
    record {
      k = k;
      t = q - 0x10_0000_0000_0000;
      bits = to_bits_is x s N v ∙ regroup (cond s 0x8000_0000_0000_0000 0) k q lo;
      t_lt = less q hi;
      k_le = drops_le N 1074 53 P h (lit≤ tt);
      k_pos = drops_pos N 1074 53 P h (lit≤ tt);
      value = ap (λ (z : ℕ). z * 2 ^ k) (whole q lo) ∙ exact N 1074 53 P h (lit≤ tt);
    }
  where
    regroup : (a k q : ℕ) → 0x10_0000_0000_0000 ≤ q → a + k * 0x10_0000_0000_0000 + q ≡ a + (suc k * 0x10_0000_0000_0000 + (q - 0x10_0000_0000_0000))
    regroup a k q lo = omega arith

    less : (q : ℕ) → q < 0x20_0000_0000_0000 → q - 0x10_0000_0000_0000 < 0x10_0000_0000_0000
    less q hi = omega arith

    whole : (q : ℕ) → 0x10_0000_0000_0000 ≤ q → 0x10_0000_0000_0000 + (q - 0x10_0000_0000_0000) ≡ q
    whole q lo = omega arith

-- ---- one step up
-- z is X - K and a little more, e units, with a unit of 2 ^ -1074; c times the little is at most 1
pub record Bump (z : Float) (X K c : ℕ) : Type 0 where
  pub s : Bool
  pub g : ℕ
  pub e : ℕ
  pub val : HasValue z s g (2 ^ 1074)
  pub rep : Rep s g (X * 2 ^ 1074 + e) (K * 2 ^ 1074)
  pub pos : 0 < e
  pub small : e * c ≤ 2 ^ 1074

same_self : (s : Bool) (a : ℕ) → lib.Ieee.level s a s a ≡ true
same_self true a = ap (λ (b : Bool). b && true) (eq-eqb a a refl)
same_self false a = ap (λ (b : Bool). b && true) (eq-eqb a a refl)

ne_self : (x : Float) (s : Bool) (a : ℕ) → HasValue x s a 1 → ne x x ≡ false
unfolding ne
ne_self x s a v = ap not (eq_values x x s s a a 1 one_pos v v ∙ same_self s a)

-- what `next_up` makes of a number with the pattern b
opened : (x : Float) (s : Bool) (a b c : ℕ) → HasValue x s a 1 → to_bits binary64 x ≡ b → eqb b 0x7ff0_0000_0000_0000 ≡ false → step_of b ≡ c → next_up x ≡ of_bits binary64 c
unfolding next_up
opened x s a b c v p q r =
    ap (λ (u : Bool). cond u x (cond (eqb (to_bits binary64 x) 0x7ff0_0000_0000_0000) x (of_bits binary64 (step_of (to_bits binary64 x))))) (ne_self x s a v)
    ∙ ap (λ (z : ℕ). cond (eqb z 0x7ff0_0000_0000_0000) x (of_bits binary64 (step_of z))) p
    ∙ ap (λ (u : Bool). cond u x (of_bits binary64 (step_of b))) q
    ∙ ap (of_bits binary64) r

step_pos : (k t : ℕ) → k ≤ 1074 → t < 0x10_0000_0000_0000 → step_of (pattern false (suc k) t) ≡ pattern false (suc k) t + 1
step_pos k t h l =
    let b = pattern false (suc k) t in
    ap (λ (u : Bool). cond u 1 (cond (eqb b 0x8000_0000_0000_0000) 1 (cond (ltb b 0x8000_0000_0000_0000) (b + 1) (b - 1)))) (ne_eqb b 0 (λ (q : b ≡ 0). n1 q))
    ∙ ap (λ (u : Bool). cond u 1 (cond (ltb b 0x8000_0000_0000_0000) (b + 1) (b - 1))) (ne_eqb b 0x8000_0000_0000_0000 (λ (q : b ≡ 0x8000_0000_0000_0000). n2 q))
    ∙ ap (λ (u : Bool). cond u (b + 1) (b - 1)) (lt-ltb b 0x8000_0000_0000_0000 (omega arith))
  where
    n1 : pattern false (suc k) t ≡ 0 → ⊥
    n1 q = omega arith

    n2 : pattern false (suc k) t ≡ 0x8000_0000_0000_0000 → ⊥
    n2 q = omega arith

step_neg : (k t : ℕ) → k ≤ 1074 → t < 0x10_0000_0000_0000 → step_of (pattern true (suc k) t) ≡ pattern true (suc k) t - 1
step_neg k t h l =
    let b = pattern true (suc k) t in
    ap (λ (u : Bool). cond u 1 (cond (eqb b 0x8000_0000_0000_0000) 1 (cond (ltb b 0x8000_0000_0000_0000) (b + 1) (b - 1)))) (ne_eqb b 0 (λ (q : b ≡ 0). n1 q))
    ∙ ap (λ (u : Bool). cond u 1 (cond (ltb b 0x8000_0000_0000_0000) (b + 1) (b - 1))) (ne_eqb b 0x8000_0000_0000_0000 (λ (q : b ≡ 0x8000_0000_0000_0000). n2 q))
    ∙ ap (λ (u : Bool). cond u (b + 1) (b - 1)) (le-ltb b 0x8000_0000_0000_0000 (omega arith))
  where
    n1 : pattern true (suc k) t ≡ 0 → ⊥
    n1 q = omega arith

    n2 : pattern true (suc k) t ≡ 0x8000_0000_0000_0000 → ⊥
    n2 q = omega arith

not_inf : (s : Bool) (k t : ℕ) → k ≤ 1074 → t < 0x10_0000_0000_0000 → eqb (pattern s (suc k) t) 0x7ff0_0000_0000_0000 ≡ false
not_inf true k t h l = ne_eqb (pattern true (suc k) t) 0x7ff0_0000_0000_0000 (λ (q : pattern true (suc k) t ≡ 0x7ff0_0000_0000_0000). no' q)
  where
    no' : pattern true (suc k) t ≡ 0x7ff0_0000_0000_0000 → ⊥
    no' q = omega arith
not_inf false k t h l = ne_eqb (pattern false (suc k) t) 0x7ff0_0000_0000_0000 (λ (q : pattern false (suc k) t ≡ 0x7ff0_0000_0000_0000). no' q)
  where
    no' : pattern false (suc k) t ≡ 0x7ff0_0000_0000_0000 → ⊥
    no' q = omega arith

-- a unit of the number's last place is small
small_unit : (t E N L c : ℕ) → (0x10_0000_0000_0000 + t) * E ≡ N * L → N * c ≤ 0x10_0000_0000_0000 → E * c ≤ L
small_unit t E N L c v h = omega (arith, mul-le-mul_right L h, ap (λ (z : ℕ). z * c) v)

pos_rep : (X K N t E L : ℕ) → X ≡ K + N → (0x10_0000_0000_0000 + t) * E ≡ N * L → X * L + E ≡ K * L + (0x10_0000_0000_0000 + (t + 1)) * E
pos_rep X K N t E L x v = omega (arith, ap (λ (z : ℕ). z * L) x)

neg_rep : (X K N t E L : ℕ) → K ≡ X + N → (0x10_0000_0000_0000 + suc t) * E ≡ N * L → K * L ≡ X * L + E + (0x10_0000_0000_0000 + t) * E
neg_rep X K N t E L x v = omega (arith, ap (λ (z : ℕ). z * L) x)

up_bump : (y : Float) (X K N c : ℕ) → X ≡ K + N → 0 < N → N < 2 ^ 53 → N * c ≤ 0x10_0000_0000_0000 → HasValue y false N 1 → Bump (next_up y) X K c
up_bump y X K N c x P hs h v =
    go (ltb (sh.t + 1) 0x10_0000_0000_0000) (ltb→lt (sh.t + 1) 0x10_0000_0000_0000) (nltb→le (sh.t + 1) 0x10_0000_0000_0000)
  where
    sh : Shape y false N
    sh = shape y false N P hs v

    k_lt : (k : ℕ) → k ≤ 1074 → suc (suc k) < 2047
    k_lt k h = omega arith

    less : (k : ℕ) → suc (suc k) < 2047 → suc k < 2047
    less k h = omega arith

    made : (d : ℕ) → pattern false (suc sh.k) sh.t + 1 ≡ d → next_up y ≡ of_bits binary64 d
    made d e = opened y false N (pattern false (suc sh.k) sh.t) d v sh.bits (not_inf false sh.k sh.t sh.k_le sh.t_lt) (step_pos sh.k sh.t sh.k_le sh.t_lt ∙ e)

    bump : (d g : ℕ) → next_up y ≡ of_bits binary64 d → HasValue (of_bits binary64 d) false g (2 ^ 1074) → g ≡ (0x10_0000_0000_0000 + (sh.t + 1)) * 2 ^ sh.k → Bump (next_up y) X K c
    bump d g m w q = record {
      s = false;
      g = g;
      e = 2 ^ sh.k;
      val = subst (λ (z : Float). HasValue z false g (2 ^ 1074)) (sym m) w;
      rep = pos_rep X K N sh.t (2 ^ sh.k) (2 ^ 1074) x sh.value ∙ ap (λ (z : ℕ). K * 2 ^ 1074 + z) (sym q);
      pos = pow_pos sh.k;
      small = small_unit sh.t (2 ^ sh.k) N (2 ^ 1074) c sh.value h;
    }

    one_more : (a b t : ℕ) → 0 + (a + t) + 1 ≡ 0 + (a + (t + 1))
    one_more a b t = omega arith

    carry : (k t : ℕ) → t < 0x10_0000_0000_0000 → 0x10_0000_0000_0000 ≤ t + 1 → 0 + (suc k * 0x10_0000_0000_0000 + t) + 1 ≡ 0 + (suc (suc k) * 0x10_0000_0000_0000 + 0)
    carry k t h l = omega arith

    carried : (k t E E' : ℕ) → E' ≡ E + E → t < 0x10_0000_0000_0000 → 0x10_0000_0000_0000 ≤ t + 1 → (0x10_0000_0000_0000 + 0) * E' ≡ (0x10_0000_0000_0000 + (t + 1)) * E
    carried k t E E' d h l = let q : t + 1 ≡ 0x10_0000_0000_0000 = omega arith in omega (arith, ap (λ (z : ℕ). z * E) q)

    go : (b : Bool) → (T b → sh.t + 1 < 0x10_0000_0000_0000) → (T (not b) → 0x10_0000_0000_0000 ≤ sh.t + 1) → Bump (next_up y) X K c
    go true f g = bump (pattern false (suc sh.k) (sh.t + 1)) ((0x10_0000_0000_0000 + (sh.t + 1)) * 2 ^ sh.k) (made (pattern false (suc sh.k) (sh.t + 1)) (one_more (suc sh.k * 0x10_0000_0000_0000) 0 sh.t)) (of_bits_val false sh.k (sh.t + 1) (less sh.k (k_lt sh.k sh.k_le)) (f tt)) refl
    go false f g = bump (pattern false (suc (suc sh.k)) 0) ((0x10_0000_0000_0000 + 0) * 2 ^ suc sh.k) (made (pattern false (suc (suc sh.k)) 0) (carry sh.k sh.t sh.t_lt (g tt))) (of_bits_val false (suc sh.k) 0 (k_lt sh.k sh.k_le) (lit< tt)) (carried sh.k sh.t (2 ^ sh.k) (2 ^ suc sh.k) (two-pow-succ sh.k) sh.t_lt (g tt))

down_bump : (y : Float) (X K N c : ℕ) → K ≡ X + N → 0 < N → N < 2 ^ 53 → N * c ≤ 0x10_0000_0000_0000 → HasValue y true N 1 → Bump (next_up y) X K c
down_bump y X K N c x P hs h v = go sh.t sh.k refl refl
  where
    sh : Shape y true N
    sh = shape y true N P hs v

    k_lt : (k : ℕ) → k ≤ 1074 → suc k < 2047
    k_lt k h = omega arith

    made : (d : ℕ) → pattern true (suc sh.k) sh.t - 1 ≡ d → next_up y ≡ of_bits binary64 d
    made d e = opened y true N (pattern true (suc sh.k) sh.t) d v sh.bits (not_inf true sh.k sh.t sh.k_le sh.t_lt) (step_neg sh.k sh.t sh.k_le sh.t_lt ∙ e)

    bump : (d g e : ℕ) → next_up y ≡ of_bits binary64 d → HasValue (of_bits binary64 d) true g (2 ^ 1074) → K * 2 ^ 1074 ≡ X * 2 ^ 1074 + e + g → 0 < e → e ≤ 2 ^ sh.k → Bump (next_up y) X K c
    bump d g e m w q p l = record {
      s = true;
      g = g;
      e = e;
      val = subst (λ (z : Float). HasValue z true g (2 ^ 1074)) (sym m) w;
      rep = q;
      pos = p;
      small = le_trans (mul-le-mul_right c l) (small_unit sh.t (2 ^ sh.k) N (2 ^ 1074) c sh.value h);
    }

    one_less : (a t : ℕ) → 0x8000_0000_0000_0000 + (a + suc t) - 1 ≡ 0x8000_0000_0000_0000 + (a + t)
    one_less a t = omega arith

    borrow : (j : ℕ) → 0x8000_0000_0000_0000 + (suc (suc j) * 0x10_0000_0000_0000 + 0) - 1 ≡ 0x8000_0000_0000_0000 + (suc j * 0x10_0000_0000_0000 + 0xf_ffff_ffff_ffff)
    borrow j = omega arith

    half_rep : (E E' L : ℕ) → E' ≡ E + E → (0x10_0000_0000_0000 + 0) * E' ≡ N * L → K * L ≡ X * L + E + (0x10_0000_0000_0000 + 0xf_ffff_ffff_ffff) * E
    half_rep E E' L d w = omega (arith, ap (λ (z : ℕ). z * L) x)

    pred_le : (j : ℕ) → suc j ≤ 1074 → suc j < 2047
    pred_le j h = omega arith

    no' : (k : ℕ) → 0 < k → k ≡ 0 → ⊥
    no' k p e = omega arith

    twice : (E E' : ℕ) → E' ≡ E + E → E ≤ E'
    twice E E' d = omega arith

    go : (t k : ℕ) → sh.t ≡ t → sh.k ≡ k → Bump (next_up y) X K c
    go (suc t) k p q =
        bump (pattern true (suc sh.k) t) ((0x10_0000_0000_0000 + t) * 2 ^ sh.k) (2 ^ sh.k)
        (made (pattern true (suc sh.k) t) (ap (λ (z : ℕ). pattern true (suc sh.k) z - 1) p ∙ one_less (suc sh.k * 0x10_0000_0000_0000) t))
        (of_bits_val true sh.k t (k_lt sh.k sh.k_le) (lt_of_le_of_lt (le-suc t) (subst (λ (z : ℕ). z < 0x10_0000_0000_0000) p sh.t_lt)))
        (neg_rep X K N t (2 ^ sh.k) (2 ^ 1074) x (subst (λ (z : ℕ). (0x10_0000_0000_0000 + z) * 2 ^ sh.k ≡ N * 2 ^ 1074) p sh.value))
        (pow_pos sh.k) (le_refl (2 ^ sh.k))
    go zero zero p q = absurd (no' sh.k sh.k_pos q)
    go zero (suc j) p q =
        bump (pattern true (suc j) 0xf_ffff_ffff_ffff) ((0x10_0000_0000_0000 + 0xf_ffff_ffff_ffff) * 2 ^ j) (2 ^ j)
        (made (pattern true (suc j) 0xf_ffff_ffff_ffff) (ap₂ (λ (y z : ℕ). pattern true (suc y) z - 1) q p ∙ borrow j))
        (of_bits_val true j 0xf_ffff_ffff_ffff (pred_le j (subst (λ (z : ℕ). z ≤ 1074) q sh.k_le)) (lit< tt))
        (half_rep (2 ^ j) (2 ^ suc j) (2 ^ 1074) (two-pow-succ j) (subst (λ (z : ℕ). (0x10_0000_0000_0000 + 0) * 2 ^ z ≡ N * 2 ^ 1074) q (subst (λ (z : ℕ). (0x10_0000_0000_0000 + z) * 2 ^ sh.k ≡ N * 2 ^ 1074) p sh.value)))
        (pow_pos j) (subst (λ (z : ℕ). 2 ^ j ≤ 2 ^ z) (sym q) (twice (2 ^ j) (2 ^ suc j) (two-pow-succ j)))

-- at zero, of either sign, the next float up is the smallest there is
zero_bits : (x : Float) (s : Bool) → HasValue x s 0 1 → to_bits binary64 x ≡ cond s 0x8000_0000_0000_0000 0
zero_bits x s v = to_bits_is x s 0 v ∙ at_size (cond s 0x8000_0000_0000_0000 0) (size 0) (size-le 0 0 (lit< tt))
  where
    at_size : (a z : ℕ) → z ≤ 0 → a + (z - 53) * 0x10_0000_0000_0000 + 0 / 2 ^ (z - 53) ≡ a
    at_size a zero h = omega arith
    at_size a (suc z) h = absurd (none z h)
      where
        none : (z : ℕ) → suc z ≤ 0 → ⊥
        none z h = omega arith

tiny : HasValue (of_bits binary64 1) false 1 (2 ^ 1074)
unfolding of_bits of_fields
tiny = odd_sign 53 false 1 0 1074

zero_next : (x : Float) (s : Bool) → HasValue x s 0 1 → next_up x ≡ of_bits binary64 1
zero_next x true v = opened x true 0 0x8000_0000_0000_0000 1 v (zero_bits x true v) refl refl
zero_next x false v = opened x false 0 0 1 v (zero_bits x false v) refl refl

zero_bump : (x : Float) (s : Bool) (X c : ℕ) → c ≤ 2 ^ 1074 → HasValue x s 0 1 → Bump (next_up x) X X c
zero_bump x s X c h v = record {
  s = false;
  g = 1;
  e = 1;
  val = subst (λ (z : Float). HasValue z false 1 (2 ^ 1074)) (sym (zero_next x s v)) tiny;
  rep = refl;
  pos = lit< tt;
  small = le_trans (le_of_eq (one-mul c)) h;
}

-- any float x that is the whole number X - K, -0 included
pub bump_of : (x : Float) (s : Bool) (N X K c : ℕ) → HasValue x s N 1 → Rep s N X K → N < 2 ^ 53 → N * c ≤ 0x10_0000_0000_0000 → c ≤ 2 ^ 1074 → Bump (next_up x) X K c
bump_of x s N X K c v r n h k = elim (eq-zero-or-pos N) [
  | inl z ↦ subst (λ (Y : ℕ). Bump (next_up x) X Y c) (same s N X K r z) (zero_bump x s X c k (subst (λ (m : ℕ). HasValue x s m 1) z v))
  | inr p ↦ go s v r p
]
  where
    same : (s : Bool) (N X K : ℕ) → Rep s N X K → N ≡ 0 → X ≡ K
    same true N X K r e = omega arith
    same false N X K r e = omega arith

    go : (s : Bool) → HasValue x s N 1 → Rep s N X K → 0 < N → Bump (next_up x) X K c
    go true v r p = down_bump x X K N c r p n h v
    go false v r p = up_bump x X K N c r p n h v

pub next_bump : (X K : ℕ) → dist X K ≤ 0x100_0000 → Bump (next_up (diff X K)) X K 0x1000_0000
next_bump X K h = bump_of (diff X K) (ltb X K) (dist X K) X K 0x1000_0000 (diff_val X K (le_trans h (lit≤ tt))) (rep_diff X K) (lt_of_le_of_lt h (lit< tt)) (mul-le-mul_right 0x1000_0000 h) (lit≤ tt)
