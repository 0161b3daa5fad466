-- Whole numbers as floats, each the difference of two naturals: `diff X Y` is the float X - Y. Comparisons, differences and quotients of such floats, by the naturals. Assumes nothing.
use Rattle.std.specs.Prelude.{◌≡◌, refl, ℕ, zero, suc, ◌+◌, ◌-◌, ◌*◌, ◌^◌, ◌≤◌, ◌<◌, Bool, not, ◌&&◌, ◌||◌, pos, negsuc, T, ltb, eqb, Float}
use Rattle.std.proofs.Common.{sym, ap₂, ◌∙◌, subst, arith, ltb→lt, nltb→le, eqb→eq}
use Rattle.std.proofs.Math.Path.{ap}
use native.Mathlib.Nat.{lt_of_lt_of_le, lt_of_not-le, not-le_of_lt, mul_comm, mul-le-mul_right, mul-pos, mul-sub, zero-lt-suc, zero-mul, eq_of_mul-eq-mul_right}
use Rattle.std.proofs.Math.Bool.{true, false, cond, and-true}
use Rattle.std.specs.Bool.{beq}
use Rattle.std.proofs.Math.IntN.{sub_ℕ}
use Rattle.std.specs.Float.{nan, inf, fin, Format, binary64}
use Rattle.std.specs.Float.Ieee.{up, down, unlike, round, below, level, lt, eq, le, neg, sum, add, sub, div, of_int}
use Rattle.std.specs.Float.Ieee.Fits.{up_pos, down_pos, eq→eqb}
use Rattle.std.specs.Float.Ieee.Exact.{HasValue}
use Rattle.std.specs.Float.Ieee.Back.{round_whole}
use Rattle.std.specs.Float.Ieee.Scale.{round_same, finite}
use Rattle.std.specs.Float.Ieee.Positive.{first_pos}
use Rattle.rounding.specs.Gap.{Like, both_ltb, both_eqb, like_ltb, like_ltb'}
use Rattle.rounding.specs.Rounded.{lt_values, eq_values}

abbrev pub dist : ℕ → ℕ → ℕ
dist X Y = X - Y + (Y - X)

-- the float of the integer X - Y
unfoldable pub diff : ℕ → ℕ → Float
diff X Y = of_int binary64 (sub_ℕ X Y)

pub diff_round : (X Y : ℕ) → diff X Y ≡ round binary64 (ltb X Y) (dist X Y) 1
unfolding diff of_int
diff_round X Y = go (ltb X Y) (ltb→lt X Y) (nltb→le X Y)
  where
    up' : (X Y : ℕ) → X < Y → suc (Y - suc X) ≡ X - Y + (Y - X)
    up' X Y h = omega arith

    down' : (X Y : ℕ) → Y ≤ X → X - Y ≡ X - Y + (Y - X)
    down' X Y h = omega arith

    go : (t : Bool) → (T t → X < Y) → (T (not t) → Y ≤ X) → of_int binary64 (cond t (negsuc (Y - suc X)) (pos (X - Y))) ≡ round binary64 t (dist X Y) 1
    go true h k = ap (λ (z : ℕ). round binary64 true z 1) (up' X Y (h tt))
    go false h k = ap (λ (z : ℕ). round binary64 false z 1) (down' X Y (k tt))

pub diff_val : (X Y : ℕ) → dist X Y ≤ 2 ^ 53 → HasValue (diff X Y) (ltb X Y) (dist X Y) 1
diff_val X Y h = subst (λ (z : Float). HasValue z (ltb X Y) (dist X Y) 1) (sym (diff_round X Y)) (round_whole binary64 (ltb X Y) (dist X Y) h)

-- ---- a difference by the values: `sum` sees only those
module _ (A B D a b c : ℕ) (DP : 0 < D) (C : 0 < c) (p : A * c ≡ a * D) (q : B * c ≡ b * D) where
  like : Like A B a b
  like = record {
    less = λ (h : a < b). lt_of_not-le (λ (z : B ≤ A). false' (omega (arith, mul-le-mul_right D h, mul-le-mul_right c z)));
    more = λ (h : b < a). lt_of_not-le (λ (z : A ≤ B). false' (omega (arith, mul-le-mul_right D h, mul-le-mul_right c z)));
    same = λ (h : a ≡ b). eq' A B (omega (arith, ap (λ (z : ℕ). z * D) h));
    pos_x = λ (h : 0 < a). lt_of_not-le (λ (z : A ≤ 0). false' (omega (arith, mul-le-mul_right D h, mul-le-mul_right c z)));
    pos_y = λ (h : 0 < b). lt_of_not-le (λ (z : B ≤ 0). false' (omega (arith, mul-le-mul_right D h, mul-le-mul_right c z)));
    zero_x = λ (h : a ≡ 0). eq' A 0 (omega (arith, ap (λ (z : ℕ). z * D) h));
    zero_y = λ (h : b ≡ 0). eq' B 0 (omega (arith, ap (λ (z : ℕ). z * D) h));
  }
    where
      false' : ⊥ → ⊥
      false' x = x

      eq' : (x y : ℕ) → x * c ≡ y * c → x ≡ y
      eq' x y e = native.Mathlib.Nat.eq_of_mul-eq-mul_right c C x y e

  plus : (A + B) * c ≡ (a + b) * D
  plus = omega arith

  minus' : (x y z w : ℕ) → x * c ≡ z * D → y * c ≡ w * D → (x - y) * c ≡ (z - w) * D
  minus' x y z w h k = mul_comm (x - y) c ∙ mul-sub c x y ∙ ap₂ ◌-◌ (mul_comm c x ∙ h ∙ mul_comm z D) (mul_comm c y ∙ k ∙ mul_comm w D) ∙ sym (mul-sub D z w) ∙ mul_comm D (z - w)

  pub sum_same : (f : Format) (s t : Bool) → sum f s A t B D ≡ sum f s a t b c
  unfolding sum
  sum_same f s t =
      go (beq s t) (ltb A B) (ltb a b) (ltb B A) (ltb b a) (like_ltb A B a b like) (like_ltb' A B a b like)
    where
      go : (u v v' w w' : Bool) → v ≡ v' → w ≡ w'
          → cond u (round f s (A + B) D) (cond v (round f t (B - A) D) (round f (s && w) (A - B) D)) ≡ cond u (round f s (a + b) c) (cond v' (round f t (b - a) c) (round f (s && w') (a - b) c))
      go true v v' w w' e g = round_same f s (A + B) D (a + b) c DP C plus
      go false true v' w w' e g = round_same f t (B - A) D (b - a) c DP C (minus' B A b a q p) ∙ ap (λ (x : Bool). cond x (round f t (b - a) c) (round f (s && w') (a - b) c)) e
      go false false v' w w' e g =
          round_same f (s && w) (A - B) D (a - b) c DP C (minus' A B a b p q)
          ∙ ap (λ (x : Bool). round f (s && x) (a - b) c) g
          ∙ ap (λ (x : Bool). cond x (round f t (b - a) c) (round f (s && w') (a - b) c)) e

pub sub_values : (f : Format) (x y : Float) (s t : Bool) (a b c : ℕ) → 0 < c → HasValue x s a c → HasValue y t b c → sub f x y ≡ sum f s a (not t) b c
unfolding sub add neg
sub_values f nan y s t a b c C p q = absurd p
sub_values f (inf r) y s t a b c C p q = absurd p
sub_values f (fin r m e) nan s t a b c C p q = absurd q
sub_values f (fin r m e) (inf u) s t a b c C p q = absurd q
sub_values f (fin r m e) (fin u n d) s t a b c C p q =
    ap₂ (λ (x y : Bool). sum f x (m * up e * down d) (not y) (n * up d * down e) (down e * down d)) p.0 q.0
    ∙ sum_same (m * up e * down d) (n * up d * down e) (down e * down d) a b c (mul-pos (down_pos e) (down_pos d)) C (omega (arith, ap (λ (z : ℕ). z * down d) p.1)) (omega (arith, ap (λ (z : ℕ). z * down e) q.1)) f s (not t)

pick_round : (t : Bool) (x y : Float) → t ≡ false → cond t x y ≡ y
pick_round t x y e = ap (λ (b : Bool). cond b x y) e

pub zero_one : ◌≡◌ {A = ℕ} 0 1 → ⊥
zero_one e = omega arith

eq_no : (n : ℕ) → 0 < n → eqb n 0 ≡ false
eq_no n h = both_eqb 0 1 n 0 (λ e. absurd (zero_one e)) (λ (e : n ≡ 0). absurd (none n h e))
  where
    none : (n : ℕ) → 0 < n → n ≡ 0 → ⊥
    none n h e = omega arith

num_pos : (N b c dd : ℕ) → N * c ≡ b * dd → 0 < b → 0 < dd → 0 < N
num_pos N b c dd q B DD = first_pos N c (subst (λ (z : ℕ). 0 < z) (sym q) (mul-pos B DD))

ratio_same : (M N de dd a b c : ℕ) → 0 < c → M * c ≡ a * de → N * c ≡ b * dd → M * dd * b ≡ a * (N * de)
ratio_same M N de dd a b c C p q = eq_of_mul-eq-mul_right c C (M * dd * b) (a * (N * de)) (omega (arith, ap (λ (z : ℕ). z * (dd * b)) p, ap (λ (z : ℕ). z * (a * de)) q))

pub div_values : (f : Format) (x y : Float) (s t : Bool) (a b c : ℕ) → 0 < c → 0 < b → HasValue x s a c → HasValue y t b c → div f x y ≡ round f (unlike s t) a b
unfolding div
div_values f nan y s t a b c C B p q = absurd p
div_values f (inf r) y s t a b c C B p q = absurd p
div_values f (fin r m e) nan s t a b c C B p q = absurd q
div_values f (fin r m e) (inf u) s t a b c C B p q = absurd q
div_values f (fin r m e) (fin u n d) s t a b c C B p q =
    let N : 0 < n * up d = num_pos (n * up d) b c (down d) q.1 B (down_pos d) in
    pick_round (eqb n 0) (cond (eqb m 0) nan (inf (unlike r u))) (round f (unlike r u) (m * up e * down d) (n * up d * down e)) (eq_no n (first_pos n (up d) N))
    ∙ ap₂ (λ (x y : Bool). round f (unlike x y) (m * up e * down d) (n * up d * down e)) p.0 q.0
    ∙ round_same f (unlike s t) (m * up e * down d) (n * up d * down e) a b (mul-pos N (down_pos e)) B (ratio_same (m * up e) (n * up d) (down e) (down d) a b c C p.1 q.1)

-- a quotient by zero is no number, so it equals none
pub div_zero : (f : Format) (x y : Float) (s t : Bool) (a c : ℕ) → 0 < c → HasValue x s a c → HasValue y t 0 c → T (not (finite (div f x y)))
unfolding div
div_zero f nan y s t a c C p q = absurd p
div_zero f (inf r) y s t a c C p q = absurd p
div_zero f (fin r m e) nan s t a c C p q = absurd q
div_zero f (fin r m e) (inf u) s t a c C p q = absurd q
div_zero f (fin r m e) (fin u n d) s t a c C p q =
    go (eqb n 0) (eqb m 0) (eq→eqb (first_zero n (up d) c (up_pos d) C (q.1 ∙ zero-mul (down d))))
  where
    first_zero : (n u c : ℕ) → 0 < u → 0 < c → n * u * c ≡ 0 → n ≡ 0
    first_zero zero u c U C h = refl
    first_zero (suc n) u c U C h = absurd (omega (arith, mul-pos U C))

    go : (v w : Bool) → T v → T (not (finite (cond v (cond w nan (inf (unlike r u))) (round f (unlike r u) (m * up e * down d) (n * up d * down e)))))
    go true true h = tt
    go true false h = tt
    go false w h = absurd h

pub eq_not_finite : (x y : Float) → T (not (finite x)) → T (finite y) → eq x y ≡ false
unfolding eq
eq_not_finite nan y h k = refl
eq_not_finite (inf s) nan h k = refl
eq_not_finite (inf s) (inf t) h k = absurd k
eq_not_finite (inf s) (fin t n d) h k = refl
eq_not_finite (fin s m e) y h k = absurd h

pub eq_finite_not : (x y : Float) → T (finite x) → T (not (finite y)) → eq x y ≡ false
unfolding eq
eq_finite_not nan y h k = absurd h
eq_finite_not (inf s) y h k = absurd h
eq_finite_not (fin s m e) nan h k = refl
eq_finite_not (fin s m e) (inf t) h k = refl
eq_finite_not (fin s m e) (fin t n d) h k = absurd k

-- ---- whole numbers X - K, for one K
abbrev pub Fine : ℕ → Type 0
Fine n = n ≤ 2 ^ 53

pub one_pos : 0 < 1
one_pos = zero-lt-suc 0

below_is : (X Y K : ℕ) → below (ltb X K) (dist X K) (ltb Y K) (dist Y K) ≡ ltb X Y
below_is X Y K = go (ltb X K) (ltb Y K) (ltb→lt X K) (nltb→le X K) (ltb→lt Y K) (nltb→le Y K)
  where
    yes : (A B : ℕ) → A < B → true ≡ ltb A B
    yes A B h = both_ltb A B 0 1 (λ (k : A < B). one_pos) (λ (k : B ≤ A). absurd (not-le_of_lt h k))

    no' : (A B : ℕ) → B ≤ A → false ≡ ltb A B
    no' A B h = both_ltb A B 1 0 (λ (k : A < B). absurd (not-le_of_lt k h)) (λ (k : B ≤ A). omega arith)

    go : (s t : Bool) → (T s → X < K) → (T (not s) → K ≤ X) → (T t → Y < K) → (T (not t) → K ≤ Y) → below s (dist X K) t (dist Y K) ≡ ltb X Y
    go false false a b c d = let b' = b tt in let d' = d tt in both_ltb X Y (dist X K) (dist Y K) (λ (h : X < Y). omega arith) (λ (h : Y ≤ X). omega arith)
    go false true a b c d = let b' = b tt in let c' = c tt in no' X Y (omega arith)
    go true false a b c d = let a' = a tt in let d' = d tt in both_ltb X Y 0 (dist X K + dist Y K) (λ (h : X < Y). omega arith) (λ (h : Y ≤ X). absurd (not-le_of_lt (lt_of_lt_of_le a' d') h))
    go true true a b c d = let a' = a tt in let c' = c tt in both_ltb X Y (dist Y K) (dist X K) (λ (h : X < Y). omega arith) (λ (h : Y ≤ X). omega arith)

level_is : (X Y K : ℕ) → level (ltb X K) (dist X K) (ltb Y K) (dist Y K) ≡ eqb X Y
level_is X Y K = go (ltb X K) (ltb Y K) (ltb→lt X K) (nltb→le X K) (ltb→lt Y K) (nltb→le Y K)
  where
    and_no : (a b : Bool) → b ≡ false → a && b ≡ false
    and_no true b e = e
    and_no false b e = refl

    neq : (A B : ℕ) → (A ≡ B → ⊥) → false ≡ eqb A B
    neq A B n = both_eqb A B 0 1 (λ (e : A ≡ B). absurd (n e)) (λ e. absurd (zero_one e))

    go : (s t : Bool) → (T s → X < K) → (T (not s) → K ≤ X) → (T t → Y < K) → (T (not t) → K ≤ Y) → level s (dist X K) t (dist Y K) ≡ eqb X Y
    go false false a b c d = let b' = b tt in let d' = d tt in and-true (eqb (dist X K) (dist Y K)) ∙ both_eqb X Y (dist X K) (dist Y K) (λ (h : X ≡ Y). omega arith) (λ (h : dist X K ≡ dist Y K). omega arith)
    go true true a b c d = let a' = a tt in let c' = c tt in and-true (eqb (dist X K) (dist Y K)) ∙ both_eqb X Y (dist X K) (dist Y K) (λ (h : X ≡ Y). omega arith) (λ (h : dist X K ≡ dist Y K). omega arith)
    go false true a b c d = let b' = b tt in let c' = c tt in split (eqb (dist X K) (dist Y K)) (eqb (dist X K) 0) (eqb→eq (dist X K) (dist Y K)) (eqb→eq (dist X K) 0) (λ (e : X ≡ Y). omega arith) (λ (e : dist X K ≡ dist Y K). omega arith)
      where
        split : (p q : Bool) → (T p → dist X K ≡ dist Y K) → (T q → dist X K ≡ 0) → (X ≡ Y → ⊥) → (dist X K ≡ dist Y K → dist X K ≡ 0 → ⊥) → p && q ≡ eqb X Y
        split true true f g n m = absurd (m (f tt) (g tt))
        split true false f g n m = neq X Y n
        split false q f g n m = neq X Y n
    go true false a b c d = let a' = a tt in let d' = d tt in split (eqb (dist X K) (dist Y K)) (eqb (dist X K) 0) (eqb→eq (dist X K) (dist Y K)) (eqb→eq (dist X K) 0) (λ (e : X ≡ Y). omega arith) (λ (e : dist X K ≡ dist Y K). omega arith)
      where
        split : (p q : Bool) → (T p → dist X K ≡ dist Y K) → (T q → dist X K ≡ 0) → (X ≡ Y → ⊥) → (dist X K ≡ dist Y K → dist X K ≡ 0 → ⊥) → p && q ≡ eqb X Y
        split true true f g n m = absurd (m (f tt) (g tt))
        split true false f g n m = neq X Y n
        split false q f g n m = neq X Y n

pub lt_diff : (X Y K : ℕ) → Fine (dist X K) → Fine (dist Y K) → lt (diff X K) (diff Y K) ≡ ltb X Y
lt_diff X Y K h k = lt_values (diff X K) (diff Y K) (ltb X K) (ltb Y K) (dist X K) (dist Y K) 1 one_pos (diff_val X K h) (diff_val Y K k) ∙ below_is X Y K

pub eq_diff : (X Y K : ℕ) → Fine (dist X K) → Fine (dist Y K) → eq (diff X K) (diff Y K) ≡ eqb X Y
eq_diff X Y K h k = eq_values (diff X K) (diff Y K) (ltb X K) (ltb Y K) (dist X K) (dist Y K) 1 one_pos (diff_val X K h) (diff_val Y K k) ∙ level_is X Y K

pub le_diff : (X Y K : ℕ) → Fine (dist X K) → Fine (dist Y K) → le (diff X K) (diff Y K) ≡ ltb X Y || eqb X Y
unfolding le
le_diff X Y K h k = ap₂ ◌||◌ (lt_diff X Y K h k) (eq_diff X Y K h k)
