-- The comparisons of two floats by the fractions that they equal; and of two rounded fractions by their cross products. Assumes nothing.
use Rattle.std.specs.Prelude.{◌≡◌, refl, ◌⊎◌, ℕ, zero, suc, ◌+◌, ◌-◌, ◌*◌, ◌^◌, ◌≤◌, ◌<◌, Bool, ◌||◌, Float}
use Rattle.std.proofs.Common.{sym, ap, ap₂, ◌∙◌, inl, inr, le_trans, le_of_lt, lt_of_le_of_lt, lt_of_not-le, mul-le-mul_right, mul-le-mul_left, mul-pos, zero-mul, eq-zero-or-pos, mul-le-mul, add-le-add, arith, lit≤, lit<, pow_pos}
use Rattle.std.proofs.Math.Nat.{eq_of_mul-eq-mul_right}
use Rattle.std.specs.Float.{nan, inf, fin, binary64}
use Rattle.std.specs.Float.Ieee.{up, down, round, below, level, lt, eq, le}
use Rattle.std.specs.Float.Ieee.Fits.{down_pos}
use Rattle.std.specs.Float.Ieee.Exact.{HasValue}
use Rattle.std.specs.Float.Ieee.Positive.{first_pos}
use Rattle.std.specs.Float.Ieee.Scale.{grid, overflow}
use Rattle.rounding.specs.Gap.{Near, gap, grid_near, grid_same, round_val, Like, like_below, like_level}

-- ---- U / de is a / c and W / dd is b / c, so U * dd and W * de compare as a and b do
module _ (U W de dd a b c : ℕ) (DE : 0 < de) (DD : 0 < dd) (C : 0 < c) (p : U * c ≡ a * de) (q : W * c ≡ b * dd) where
  prods : 0 < de * dd
  prods = mul-pos DE DD

  pq : U * c * dd ≡ a * de * dd
  pq = ap (λ (z : ℕ). z * dd) p

  qp : W * c * de ≡ b * dd * de
  qp = ap (λ (z : ℕ). z * de) q

  pub cross_like : Like (U * dd) (W * de) a b
  cross_like = record {
    less = λ (h : a < b). lt_of_not-le (λ (z : W * de ≤ U * dd). absurd' (omega (arith, prods, pq, qp, mul-le-mul_right (de * dd) h, mul-le-mul_right c z)));
    more = λ (h : b < a). lt_of_not-le (λ (z : U * dd ≤ W * de). absurd' (omega (arith, prods, pq, qp, mul-le-mul_right (de * dd) h, mul-le-mul_right c z)));
    same = λ (h : a ≡ b). eq_of_mul-eq-mul_right c C (U * dd) (W * de) (omega (arith, pq, qp, ap (λ (z : ℕ). z * (de * dd)) h));
    pos_x = λ (h : 0 < a). lt_of_not-le (λ (z : U * dd ≤ 0). absurd' (omega (arith, prods, pq, mul-le-mul_right (de * dd) h, mul-le-mul_right c z)));
    pos_y = λ (h : 0 < b). lt_of_not-le (λ (z : W * de ≤ 0). absurd' (omega (arith, prods, qp, mul-le-mul_right (de * dd) h, mul-le-mul_right c z)));
    zero_x = λ (h : a ≡ 0). eq_of_mul-eq-mul_right c C (U * dd) 0 (omega (arith, pq, ap (λ (z : ℕ). z * (de * dd)) h));
    zero_y = λ (h : b ≡ 0). eq_of_mul-eq-mul_right c C (W * de) 0 (omega (arith, qp, ap (λ (z : ℕ). z * (de * dd)) h));
  }
    where
      absurd' : ⊥ → ⊥
      absurd' x = x

-- ---- the comparisons, by the values
pub lt_values : (x y : Float) (s t : Bool) (a b c : ℕ) → 0 < c → HasValue x s a c → HasValue y t b c → lt x y ≡ below s a t b
unfolding lt
lt_values nan y s t a b c C p q = absurd p
lt_values (inf r) y s t a b c C p q = absurd p
lt_values (fin r m e) nan s t a b c C p q = absurd q
lt_values (fin r m e) (inf u) s t a b c C p q = absurd q
lt_values (fin r m e) (fin u n d) s t a b c C p q =
    ap₂ (λ (x y : Bool). below x (m * up e * down d) y (n * up d * down e)) p.0 q.0
    ∙ like_below (m * up e * down d) (n * up d * down e) a b (cross_like (m * up e) (n * up d) (down e) (down d) a b c (down_pos e) (down_pos d) C p.1 q.1) s t

pub eq_values : (x y : Float) (s t : Bool) (a b c : ℕ) → 0 < c → HasValue x s a c → HasValue y t b c → eq x y ≡ level s a t b
unfolding eq
eq_values nan y s t a b c C p q = absurd p
eq_values (inf r) y s t a b c C p q = absurd p
eq_values (fin r m e) nan s t a b c C p q = absurd q
eq_values (fin r m e) (inf u) s t a b c C p q = absurd q
eq_values (fin r m e) (fin u n d) s t a b c C p q =
    ap₂ (λ (x y : Bool). level x (m * up e * down d) y (n * up d * down e)) p.0 q.0
    ∙ like_level (m * up e * down d) (n * up d * down e) a b (cross_like (m * up e) (n * up d) (down e) (down d) a b c (down_pos e) (down_pos d) C p.1 q.1) s t

-- ---- fractions of numbers below 2 ^ 53, in `f64`
pub record Small (n d : ℕ) : Type 0 where
  pub den : 0 < d
  pub num_lt : n < 2 ^ 53
  pub den_lt : d < 2 ^ 53

normal : (n d : ℕ) → Small n d → (n ≡ 0) ⊎ (2 ^ 53 * d ≤ n * 2 ^ 1074)
normal n d h =
    elim (eq-zero-or-pos n) [
      | inl z ↦ inl z
      | inr p ↦ inr (le_trans (mul-le-mul_left (2 ^ 53) (le_of_lt h.den_lt)) (le_trans (lit≤ tt) (mul-le-mul_right (2 ^ 1074) p)))
    ]

pub small_near : (n d : ℕ) → Small n d → Near (grid binary64 n d) (n * 2 ^ 1074) d (2 ^ 53)
small_near n d h = grid_near binary64 n d h.den (normal n d h)

-- G * d is N at most, and a little
bound : (G d M N B : ℕ) → 0 < d → 0 < M → G * d * M ≤ N * M + N → N * 2 < B → G < B
bound G d M N B D P h k = lt_of_not-le (λ (z : B ≤ G). clash z)
  where
    clash : B ≤ G → ⊥
    clash z = omega (arith, mul-le-mul_right M z, mul-le-mul_right (G * M) D, mul-le-mul_right N P, mul-le-mul_right M k)

pub small_fine : (n d : ℕ) → Small n d → grid binary64 n d < overflow binary64
small_fine n d h =
    bound (grid binary64 n d) d (2 ^ 53) (n * 2 ^ 1074) (overflow binary64) h.den (pow_pos 53) (small_near n d h).hi
    (lt_of_le_of_lt (mul-le-mul_right 2 (mul-le-mul_right (2 ^ 1074) (le_of_lt h.num_lt))) (lit< tt))

-- ---- the rounded sizes compare as the cross products do
pos_size : (n d L M G : ℕ) → 0 < L → 1 < M → Near G (n * L) d M → 0 < n → 0 < G
pos_size n d L M zero P Q x h = absurd (omega (arith, x.lo, mul-le-mul_right (n * L) Q, mul-pos h P))
pos_size n d L M (suc G) P Q x h = omega arith

pub zero_size : (n d L M G : ℕ) → 0 < d → 0 < M → Near G (n * L) d M → n ≡ 0 → G ≡ 0
zero_size n d L M zero D P x e = refl
zero_size n d L M (suc G) D P x e = absurd (omega (arith, x.hi, mul-pos D P, ap (λ (z : ℕ). z * L) e, ap (λ (z : ℕ). z * (L * M)) e))

first_zero : (n d : ℕ) → 0 < d → n * d ≡ 0 → n ≡ 0
first_zero n d D h = eq_of_mul-eq-mul_right d D n 0 (h ∙ sym (zero-mul d))

flip : (a b m : ℕ) → a + b < m → b + a < m
flip a b m h = omega arith

pub grid_like : (n d n' d' : ℕ) → Small n d → Small n' d' → n * d' + n' * d < 2 ^ 53 → Like (grid binary64 n d) (grid binary64 n' d') (n * d') (n' * d)
grid_like n d n' d' x y s = record {
  less = λ (h : n * d' < n' * d). gap n d n' d' (2 ^ 1074) (2 ^ 53) (grid binary64 n d) (grid binary64 n' d') (pow_pos 1074) (small_near n d x) (small_near n' d' y) h (flip (n * d') (n' * d) (2 ^ 53) s);
  more = λ (h : n' * d < n * d'). gap n' d' n d (2 ^ 1074) (2 ^ 53) (grid binary64 n' d') (grid binary64 n d) (pow_pos 1074) (small_near n' d' y) (small_near n d x) h s;
  same = λ (h : n * d' ≡ n' * d). grid_same binary64 n d n' d' x.den y.den h;
  pos_x = λ (h : 0 < n * d'). pos_size n d (2 ^ 1074) (2 ^ 53) (grid binary64 n d) (pow_pos 1074) (lit< tt) (small_near n d x) (first_pos n d' h);
  pos_y = λ (h : 0 < n' * d). pos_size n' d' (2 ^ 1074) (2 ^ 53) (grid binary64 n' d') (pow_pos 1074) (lit< tt) (small_near n' d' y) (first_pos n' d h);
  zero_x = λ (h : n * d' ≡ 0). zero_size n d (2 ^ 1074) (2 ^ 53) (grid binary64 n d) x.den (pow_pos 53) (small_near n d x) (first_zero n d' y.den h);
  zero_y = λ (h : n' * d ≡ 0). zero_size n' d' (2 ^ 1074) (2 ^ 53) (grid binary64 n' d') y.den (pow_pos 53) (small_near n' d' y) (first_zero n' d x.den h);
}

-- ---- the key lemmas: rounded fractions compare as the fractions do
pub small_val : (s : Bool) (n d : ℕ) → Small n d → HasValue (round binary64 s n d) s (grid binary64 n d) (2 ^ 1074)
small_val s n d x = round_val binary64 s n d (small_fine n d x)

pub lt_rounded : (s t : Bool) (n d n' d' : ℕ) → Small n d → Small n' d' → n * d' + n' * d < 2 ^ 53
    → lt (round binary64 s n d) (round binary64 t n' d') ≡ below s (n * d') t (n' * d)
lt_rounded s t n d n' d' x y h =
    lt_values (round binary64 s n d) (round binary64 t n' d') s t (grid binary64 n d) (grid binary64 n' d') (2 ^ 1074) (pow_pos 1074) (small_val s n d x) (small_val t n' d' y)
    ∙ like_below (grid binary64 n d) (grid binary64 n' d') (n * d') (n' * d) (grid_like n d n' d' x y h) s t

pub eq_rounded : (s t : Bool) (n d n' d' : ℕ) → Small n d → Small n' d' → n * d' + n' * d < 2 ^ 53
    → eq (round binary64 s n d) (round binary64 t n' d') ≡ level s (n * d') t (n' * d)
eq_rounded s t n d n' d' x y h =
    eq_values (round binary64 s n d) (round binary64 t n' d') s t (grid binary64 n d) (grid binary64 n' d') (2 ^ 1074) (pow_pos 1074) (small_val s n d x) (small_val t n' d' y)
    ∙ like_level (grid binary64 n d) (grid binary64 n' d') (n * d') (n' * d) (grid_like n d n' d' x y h) s t

pub le_rounded : (s t : Bool) (n d n' d' : ℕ) → Small n d → Small n' d' → n * d' + n' * d < 2 ^ 53
    → le (round binary64 s n d) (round binary64 t n' d') ≡ below s (n * d') t (n' * d) || level s (n * d') t (n' * d)
unfolding le
le_rounded s t n d n' d' x y h = ap₂ ◌||◌ (lt_rounded s t n d n' d' x y h) (eq_rounded s t n d n' d' x y h)

-- all four below 2 ^ 26
pub small26 : (n d n' d' : ℕ) → n < 2 ^ 26 → d < 2 ^ 26 → n' < 2 ^ 26 → d' < 2 ^ 26 → n * d' + n' * d < 2 ^ 53
small26 n d n' d' a b c e = lt_of_le_of_lt (add-le-add (mul-le-mul (below' n a) (below' d' e)) (mul-le-mul (below' n' c) (below' d b))) (lit< tt)
  where
    below' : (x : ℕ) → x < 2 ^ 26 → x ≤ 2 ^ 26 - 1
    below' x h = omega arith
