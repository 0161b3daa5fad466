-- Differences and quotients of whole numbers as floats: the difference is exact, and two rounded quotients compare as the exact ones do. Assumes nothing.
use Rattle.std.specs.Prelude.{◌≡◌, refl, ℕ, ◌+◌, ◌-◌, ◌*◌, ◌^◌, ◌≤◌, ◌<◌, Bool, true, false, not, ◌&&◌, cond, T, ltb, eqb, Float}
use Rattle.std.proofs.Common.{sym, ◌∙◌, subst, le_trans, le_of_lt, lt_of_lt_of_le, arith, lt-ltb, le-ltb, ltb→lt, nltb→le, eqb→eq, lit≤}
use Rattle.std.proofs.Math.Path.{ap₂}
use Rattle.std.proofs.Math.Bool.{◌||◌, and-true}
use Rattle.std.specs.Float.Ieee.Fits.{eq→eqb}
use Rattle.std.specs.Float.Ieee.Exact.{HasValue}
use Rattle.std.specs.Float.Ieee.Scale.{finite, grid}
use Rattle.std.specs.Float.{nan, inf, fin, binary64}
use Rattle.std.specs.Float.Ieee.{unlike, round, below, level, lt, eq, le, sum, sub, div}
use Rattle.rounding.specs.Gap.{both_ltb, both_eqb}
use Rattle.rounding.specs.Rounded.{Small, lt_rounded, eq_rounded, small26, small_val}
use Rattle.rounding.specs.Ints.{dist, diff, diff_round, diff_val, sub_values, div_values, div_zero, Fine, one_pos}

-- ---- the difference of two whole numbers is exact
rnd : (s t : Bool) (a b : ℕ) → s ≡ t → a ≡ b → round binary64 s a 1 ≡ round binary64 t b 1
rnd s t a b p q = ap₂ (λ (x : Bool) (y : ℕ). round binary64 x y 1) p q

-- ---- a sign and a size, as a difference p - q of two naturals
abbrev pub Rep : Bool → ℕ → ℕ → ℕ → Type 0
Rep true a p q = q ≡ p + a
Rep false a p q = p ≡ q + a

pub rep_diff : (X Y : ℕ) → Rep (ltb X Y) (dist X Y) X Y
rep_diff X Y = go (ltb X Y) (ltb→lt X Y) (nltb→le X Y)
  where
    go : (t : Bool) → (T t → X < Y) → (T (not t) → Y ≤ X) → Rep t (dist X Y) X Y
    go true h k = let h' = h tt in omega arith
    go false h k = let k' = k tt in omega arith

sub_sum : (X Y K a b : ℕ) (s t : Bool) → (T s → 0 < a) → Rep s a X K → Rep t b Y K → sum binary64 s a (not t) b 1 ≡ round binary64 (ltb X Y) (dist X Y) 1
unfolding sum
sub_sum X Y K a b false false n p q = go (ltb a b) (ltb→lt a b) (nltb→le a b)
  where
    go : (v : Bool) → (T v → a < b) → (T (not v) → b ≤ a) → cond v (round binary64 true (b - a) 1) (round binary64 false (a - b) 1) ≡ round binary64 (ltb X Y) (dist X Y) 1
    go true f g = let f' = f tt in rnd true (ltb X Y) (b - a) (dist X Y) (sym (lt-ltb X Y (omega arith))) (omega arith)
    go false f g = let g' = g tt in rnd false (ltb X Y) (a - b) (dist X Y) (sym (le-ltb X Y (omega arith))) (omega arith)
sub_sum X Y K a b true true n p q = go (ltb a b) (ltb→lt a b) (nltb→le a b)
  where
    go : (v : Bool) → (T v → a < b) → (T (not v) → b ≤ a) → cond v (round binary64 false (b - a) 1) (round binary64 (ltb b a) (a - b) 1) ≡ round binary64 (ltb X Y) (dist X Y) 1
    go true f g = let f' = f tt in rnd false (ltb X Y) (b - a) (dist X Y) (sym (le-ltb X Y (omega arith))) (omega arith)
    go false f g = let g' = g tt in rnd (ltb b a) (ltb X Y) (a - b) (dist X Y) (both_ltb X Y b a (λ (h : X < Y). omega arith) (λ (h : Y ≤ X). omega arith)) (omega arith)
sub_sum X Y K a b false true n p q = rnd false (ltb X Y) (a + b) (dist X Y) (sym (le-ltb X Y (omega arith))) (omega arith)
sub_sum X Y K a b true false n p q = let n' = n tt in rnd true (ltb X Y) (a + b) (dist X Y) (sym (lt-ltb X Y (omega arith))) (omega arith)

pub sub_diff : (X Y K : ℕ) → Fine (dist X K) → Fine (dist Y K) → sub binary64 (diff X K) (diff Y K) ≡ diff X Y
sub_diff X Y K h k =
    sub_values binary64 (diff X K) (diff Y K) (ltb X K) (ltb Y K) (dist X K) (dist Y K) 1 one_pos (diff_val X K h) (diff_val Y K k)
    ∙ sub_sum X Y K (dist X K) (dist Y K) (ltb X K) (ltb Y K) (λ (t : T (ltb X K)). some X K (ltb→lt X K t)) (rep_diff X K) (rep_diff Y K)
    ∙ sym (diff_round X Y)
  where
    some : (X K : ℕ) → X < K → 0 < X - K + (K - X)
    some X K h = omega arith

-- ---- the quotient of two, rounded
pub div_diff : (X Y Z W : ℕ) → Fine (dist X Y) → Fine (dist Z W) → 0 < dist Z W → div binary64 (diff X Y) (diff Z W) ≡ round binary64 (unlike (ltb X Y) (ltb Z W)) (dist X Y) (dist Z W)
div_diff X Y Z W h k p = div_values binary64 (diff X Y) (diff Z W) (ltb X Y) (ltb Z W) (dist X Y) (dist Z W) 1 one_pos p (diff_val X Y h) (diff_val Z W k)

pub rep_mul : (s t : Bool) (a b p q p' q' : ℕ) → Rep s a p q → Rep t b p' q' → Rep (unlike s t) (a * b) (p * p' + q * q') (p * q' + q * p')
rep_mul false false a b p q p' q' e f = subst (λ (x : ℕ). x * p' + q * q' ≡ x * q' + q * p' + a * b) (sym e) (subst (λ (y : ℕ). (q + a) * y + q * q' ≡ (q + a) * q' + q * y + a * b) (sym f) (omega arith))
rep_mul false true a b p q p' q' e f = subst (λ (x : ℕ). x * q' + q * p' ≡ x * p' + q * q' + a * b) (sym e) (subst (λ (y : ℕ). (q + a) * y + q * p' ≡ (q + a) * p' + q * y + a * b) (sym f) (omega arith))
rep_mul true false a b p q p' q' e f = subst (λ (x : ℕ). p * q' + x * p' ≡ p * p' + x * q' + a * b) (sym e) (subst (λ (y : ℕ). p * q' + (p + a) * y ≡ p * y + (p + a) * q' + a * b) (sym f) (omega arith))
rep_mul true true a b p q p' q' e f = subst (λ (x : ℕ). p * p' + x * q' ≡ p * q' + x * p' + a * b) (sym e) (subst (λ (y : ℕ). p * p' + (p + a) * y ≡ p * y + (p + a) * p' + a * b) (sym f) (omega arith))

pub rep_below : (s t : Bool) (a b p q p' q' : ℕ) → Rep s a p q → Rep t b p' q' → below s a t b ≡ ltb (p + q') (q + p')
rep_below false false a b p q p' q' e f = both_ltb (p + q') (q + p') a b (λ (h : p + q' < q + p'). omega arith) (λ (h : q + p' ≤ p + q'). omega arith)
rep_below false true a b p q p' q' e f = sym (le-ltb (p + q') (q + p') (omega arith))
rep_below true false a b p q p' q' e f = both_ltb (p + q') (q + p') 0 (a + b) (λ (h : p + q' < q + p'). omega arith) (λ (h : q + p' ≤ p + q'). omega arith)
rep_below true true a b p q p' q' e f = both_ltb (p + q') (q + p') b a (λ (h : p + q' < q + p'). omega arith) (λ (h : q + p' ≤ p + q'). omega arith)

pub rep_level : (s t : Bool) (a b p q p' q' : ℕ) → Rep s a p q → Rep t b p' q' → level s a t b ≡ eqb (p + q') (q + p')
rep_level s t a b p q p' q' e f = go s t e f
  where
    both : (u v w : Bool) → (T u → a ≡ b) → (a ≡ b → T u) → (T v → a ≡ 0) → (a ≡ 0 → T v) → (T w → p + q' ≡ q + p') → (p + q' ≡ q + p' → T w) → (p + q' ≡ q + p' → a ≡ 0) → (p + q' ≡ q + p' → b ≡ 0) → (a ≡ b → a ≡ 0 → p + q' ≡ q + p') → u && v ≡ w
    both true true true f1 f2 g1 g2 h1 h2 i j k = refl
    both true true false f1 f2 g1 g2 h1 h2 i j k = absurd (h2 (k (f1 tt) (g1 tt)))
    both true false true f1 f2 g1 g2 h1 h2 i j k = absurd (g2 (i (h1 tt)))
    both true false false f1 f2 g1 g2 h1 h2 i j k = refl
    both false v true f1 f2 g1 g2 h1 h2 i j k = absurd (f2 (i (h1 tt) ∙ sym (j (h1 tt))))
    both false v false f1 f2 g1 g2 h1 h2 i j k = refl

    go : (s t : Bool) → Rep s a p q → Rep t b p' q' → level s a t b ≡ eqb (p + q') (q + p')
    go false false e f = and-true (eqb a b) ∙ both_eqb (p + q') (q + p') a b (λ (h : p + q' ≡ q + p'). omega arith) (λ (h : a ≡ b). omega arith)
    go true true e f = and-true (eqb a b) ∙ both_eqb (p + q') (q + p') a b (λ (h : p + q' ≡ q + p'). omega arith) (λ (h : a ≡ b). omega arith)
    go false true e f = both (eqb a b) (eqb a 0) (eqb (p + q') (q + p')) (eqb→eq a b) (λ (h : a ≡ b). eq→eqb h) (eqb→eq a 0) (λ (h : a ≡ 0). eq→eqb h) (eqb→eq (p + q') (q + p')) (λ (h : p + q' ≡ q + p'). eq→eqb h) (λ (h : p + q' ≡ q + p'). omega arith) (λ (h : p + q' ≡ q + p'). omega arith) (λ (h : a ≡ b) (k : a ≡ 0). omega arith)
    go true false e f = both (eqb a b) (eqb a 0) (eqb (p + q') (q + p')) (eqb→eq a b) (λ (h : a ≡ b). eq→eqb h) (eqb→eq a 0) (λ (h : a ≡ 0). eq→eqb h) (eqb→eq (p + q') (q + p')) (λ (h : p + q' ≡ q + p'). eq→eqb h) (λ (h : p + q' ≡ q + p'). omega arith) (λ (h : p + q' ≡ q + p'). omega arith) (λ (h : a ≡ b) (k : a ≡ 0). omega arith)

-- flipping both signs changes no equality
level_flip : (a b c d : Bool) (A B : ℕ) → level (unlike a b) A (unlike c d) B ≡ level (unlike a d) A (unlike c b) B
level_flip true true true true A B = refl
level_flip true true true false A B = refl
level_flip true true false true A B = refl
level_flip true true false false A B = refl
level_flip true false true true A B = refl
level_flip true false true false A B = refl
level_flip true false false true A B = refl
level_flip true false false false A B = refl
level_flip false true true true A B = refl
level_flip false true true false A B = refl
level_flip false true false true A B = refl
level_flip false true false false A B = refl
level_flip false false true true A B = refl
level_flip false false true false A B = refl
level_flip false false false true A B = refl
level_flip false false false false A B = refl

-- ---- (X - Y) / (Z - W) against (X' - Y') / (Z' - W')

-- the two cross products, each side made of sums of products of naturals
abbrev pub lhs : ℕ → ℕ → ℕ → ℕ → ℕ → ℕ → ℕ → ℕ → ℕ
lhs X Y Z W X' Y' Z' W' = X * Z' + Y * W' + (X' * W + Y' * Z)

abbrev pub rhs : ℕ → ℕ → ℕ → ℕ → ℕ → ℕ → ℕ → ℕ → ℕ
rhs X Y Z W X' Y' Z' W' = X * W' + Y * Z' + (X' * Z + Y' * W)

abbrev pub Short : ℕ → ℕ → Type 0
Short X Y = dist X Y < 2 ^ 26

pub fine : (n : ℕ) → n < 2 ^ 26 → n ≤ 2 ^ 53
fine n h = le_trans (le_of_lt h) (lit≤ tt)

pub small : (n d : ℕ) → n < 2 ^ 26 → d < 2 ^ 26 → 0 < d → Small n d
small n d h k p = record { den = p; num_lt = lt_of_lt_of_le h (lit≤ tt); den_lt = lt_of_lt_of_le k (lit≤ tt) }

module _ (X Y Z W X' Y' Z' W' : ℕ) (x : Short X Y) (z : Short Z W) (x' : Short X' Y') (z' : Short Z' W') (d : 0 < dist Z W) (d' : 0 < dist Z' W') where
  pub quot_eq : eq (div binary64 (diff X Y) (diff Z W)) (div binary64 (diff X' Y') (diff Z' W')) ≡ eqb (lhs X Y Z W X' Y' Z' W') (rhs X Y Z W X' Y' Z' W')
  quot_eq =
      ap₂ eq (div_diff X Y Z W (fine (dist X Y) x) (fine (dist Z W) z) d) (div_diff X' Y' Z' W' (fine (dist X' Y') x') (fine (dist Z' W') z') d')
      ∙ eq_rounded (unlike (ltb X Y) (ltb Z W)) (unlike (ltb X' Y') (ltb Z' W')) (dist X Y) (dist Z W) (dist X' Y') (dist Z' W') (small (dist X Y) (dist Z W) x z d) (small (dist X' Y') (dist Z' W') x' z' d') (small26 (dist X Y) (dist Z W) (dist X' Y') (dist Z' W') x z x' z')
      ∙ level_flip (ltb X Y) (ltb Z W) (ltb X' Y') (ltb Z' W') (dist X Y * dist Z' W') (dist X' Y' * dist Z W)
      ∙ rep_level (unlike (ltb X Y) (ltb Z' W')) (unlike (ltb X' Y') (ltb Z W)) (dist X Y * dist Z' W') (dist X' Y' * dist Z W) (X * Z' + Y * W') (X * W' + Y * Z') (X' * Z + Y' * W) (X' * W + Y' * Z)
      (rep_mul (ltb X Y) (ltb Z' W') (dist X Y) (dist Z' W') X Y Z' W' (rep_diff X Y) (rep_diff Z' W'))
      (rep_mul (ltb X' Y') (ltb Z W) (dist X' Y') (dist Z W) X' Y' Z W (rep_diff X' Y') (rep_diff Z W))

  -- with denominators of one sign
  pub quot_lt : ltb Z W ≡ ltb Z' W' → lt (div binary64 (diff X Y) (diff Z W)) (div binary64 (diff X' Y') (diff Z' W')) ≡ ltb (lhs X Y Z W X' Y' Z' W') (rhs X Y Z W X' Y' Z' W')
  quot_lt e =
      ap₂ lt (div_diff X Y Z W (fine (dist X Y) x) (fine (dist Z W) z) d) (div_diff X' Y' Z' W' (fine (dist X' Y') x') (fine (dist Z' W') z') d')
      ∙ lt_rounded (unlike (ltb X Y) (ltb Z W)) (unlike (ltb X' Y') (ltb Z' W')) (dist X Y) (dist Z W) (dist X' Y') (dist Z' W') (small (dist X Y) (dist Z W) x z d) (small (dist X' Y') (dist Z' W') x' z' d') (small26 (dist X Y) (dist Z W) (dist X' Y') (dist Z' W') x z x' z')
      ∙ ap₂ (λ (u v : Bool). below (unlike (ltb X Y) u) (dist X Y * dist Z' W') (unlike (ltb X' Y') v) (dist X' Y' * dist Z W)) e (sym e)
      ∙ rep_below (unlike (ltb X Y) (ltb Z' W')) (unlike (ltb X' Y') (ltb Z W)) (dist X Y * dist Z' W') (dist X' Y' * dist Z W) (X * Z' + Y * W') (X * W' + Y * Z') (X' * Z + Y' * W) (X' * W + Y' * Z)
      (rep_mul (ltb X Y) (ltb Z' W') (dist X Y) (dist Z' W') X Y Z' W' (rep_diff X Y) (rep_diff Z' W'))
      (rep_mul (ltb X' Y') (ltb Z W) (dist X' Y') (dist Z W) X' Y' Z W (rep_diff X' Y') (rep_diff Z W))

  pub quot_le : ltb Z W ≡ ltb Z' W' → le (div binary64 (diff X Y) (diff Z W)) (div binary64 (diff X' Y') (diff Z' W')) ≡ ltb (lhs X Y Z W X' Y' Z' W') (rhs X Y Z W X' Y' Z' W') || eqb (lhs X Y Z W X' Y' Z' W') (rhs X Y Z W X' Y' Z' W')
  unfolding le
  quot_le e = ap₂ ◌||◌ (quot_lt e) quot_eq

-- ---- a quotient is a number, unless its divisor is zero
pub value_finite : (x : Float) (s : Bool) (a c : ℕ) → HasValue x s a c → T (finite x)
value_finite nan s a c v = absurd v
value_finite (inf r) s a c v = absurd v
value_finite (fin r m e) s a c v = tt

pub quot_finite : (X Y Z W : ℕ) → Short X Y → Short Z W → 0 < dist Z W → T (finite (div binary64 (diff X Y) (diff Z W)))
quot_finite X Y Z W x z d =
    subst (λ (q : Float). T (finite q)) (sym (div_diff X Y Z W (fine (dist X Y) x) (fine (dist Z W) z) d))
    (value_finite (round binary64 (unlike (ltb X Y) (ltb Z W)) (dist X Y) (dist Z W)) (unlike (ltb X Y) (ltb Z W)) (grid binary64 (dist X Y) (dist Z W)) (2 ^ 1074) (small_val (unlike (ltb X Y) (ltb Z W)) (dist X Y) (dist Z W) (small (dist X Y) (dist Z W) x z d)))

pub quot_none : (X Y Z W : ℕ) → Short X Y → Short Z W → dist Z W ≡ 0 → T (not (finite (div binary64 (diff X Y) (diff Z W))))
quot_none X Y Z W x z e =
    div_zero binary64 (diff X Y) (diff Z W) (ltb X Y) (ltb Z W) (dist X Y) 1 one_pos (diff_val X Y (fine (dist X Y) x)) (subst (λ (n : ℕ). HasValue (diff Z W) (ltb Z W) n 1) e (diff_val Z W (fine (dist Z W) z)))
