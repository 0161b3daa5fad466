-- A whole number and a little more (`Bump`) against whole numbers, and the slope that it makes. Assumes nothing.
use Rattle.std.specs.Prelude.{◌≡◌, refl, ℕ, zero, suc, ◌+◌, ◌-◌, ◌*◌, ◌/◌, ◌^◌, ◌≤◌, ◌<◌, Bool, true, not, ◌&&◌, cond, T, ltb}
use Rattle.std.proofs.Common.{sym, ◌∙◌, le_trans, le_of_eq, le_of_lt, lt_of_le_of_lt, lt_of_not-le, mul-le-mul_right, mul-pos, le-div_iff_mul-le, arith, lt-ltb, le-ltb, ne_eqb, ltb→lt, nltb→le, lit<, pow-add, pow_pos}
use Rattle.std.proofs.Math.Path.{ap, ap₂, subst}
use Rattle.std.proofs.Math.Bool.{false, ◌||◌}
use lib.Ieee.{Float, nan, inf, fin, Format, binary64, unlike, size, round, below, level, lt, eq, le, sum, sub, div}
use Rattle.std.specs.Float.Ieee.Digits.{size_reaches}
use Rattle.std.specs.Float.Ieee.Exact.{HasValue}
use Rattle.std.specs.Float.Ieee.Order.{drop}
use Rattle.std.specs.Float.Ieee.Scale.{grid, overflow}
use Rattle.rounding.specs.Gap.{closest_near, both_ltb, round_val}
use Rattle.rounding.specs.Rounded.{lt_values, eq_values, Small, small_near, small_val}
use Rattle.rounding.specs.Ints.{dist, diff, diff_val, sub_values, div_values, Fine, one_pos}
use Rattle.rounding.specs.Quotients.{Rep, rep_diff, rep_below, rep_level, div_diff, Short, fine, small}
use Rattle.rounding.specs.Next.{Bump}

-- ---- a whole number in units
pub scale : (x : Float) (s : Bool) (a L : ℕ) → HasValue x s a 1 → HasValue x s (a * L) L
scale nan s a L v = v
scale (inf r) s a L v = v
scale (fin r m e) s a L v = (v.0, omega (arith, ap (λ (z : ℕ). z * L) v.1))

pub diff_units : (Y K : ℕ) → Fine (dist Y K) → HasValue (diff Y K) (ltb Y K) (dist Y K * 2 ^ 1074) (2 ^ 1074)
diff_units Y K h = scale (diff Y K) (ltb Y K) (dist Y K) (2 ^ 1074) (diff_val Y K h)

pub rep_scale : (s : Bool) (a p q L : ℕ) → Rep s a p q → Rep s (a * L) (p * L) (q * L)
rep_scale true a p q L e = omega (arith, ap (λ (z : ℕ). z * L) e)
rep_scale false a p q L e = omega (arith, ap (λ (z : ℕ). z * L) e)

pub rep_units : (Y K : ℕ) → Rep (ltb Y K) (dist Y K * 2 ^ 1074) (Y * 2 ^ 1074) (K * 2 ^ 1074)
rep_units Y K = rep_scale (ltb Y K) (dist Y K) Y K (2 ^ 1074) (rep_diff Y K)

-- ---- the comparisons
tiny : (e L c : ℕ) → 0 < e → 1 < c → e * c ≤ L → e < L
tiny e L c p h k = omega (arith, mul-le-mul_right e h)

module _ (z : Float) (X K c : ℕ) (b : Bump z X K c) (two : 1 < c) (Y : ℕ) (F : Fine (dist Y K)) where
  pub bump_lt : lt z (diff Y K) ≡ ltb X Y
  bump_lt =
      lt_values z (diff Y K) b.s (ltb Y K) b.g (dist Y K * 2 ^ 1074) (2 ^ 1074) (pow_pos 1074) b.val (diff_units Y K F)
      ∙ rep_below b.s (ltb Y K) b.g (dist Y K * 2 ^ 1074) (X * 2 ^ 1074 + b.e) (K * 2 ^ 1074) (Y * 2 ^ 1074) (K * 2 ^ 1074) b.rep (rep_units Y K)
      ∙ go b.e (2 ^ 1074) b.pos (tiny b.e (2 ^ 1074) c b.pos two b.small)
    where
      go : (e L : ℕ) → 0 < e → e < L → ltb (X * L + e + K * L) (K * L + Y * L) ≡ ltb X Y
      go e L p l = both_ltb X Y (X * L + e + K * L) (K * L + Y * L) (λ (h : X < Y). omega (arith, mul-le-mul_right L h)) (λ (h : Y ≤ X). omega (arith, mul-le-mul_right L h))

  pub lt_bump : lt (diff Y K) z ≡ ltb Y (suc X)
  lt_bump =
      lt_values (diff Y K) z (ltb Y K) b.s (dist Y K * 2 ^ 1074) b.g (2 ^ 1074) (pow_pos 1074) (diff_units Y K F) b.val
      ∙ rep_below (ltb Y K) b.s (dist Y K * 2 ^ 1074) b.g (Y * 2 ^ 1074) (K * 2 ^ 1074) (X * 2 ^ 1074 + b.e) (K * 2 ^ 1074) (rep_units Y K) b.rep
      ∙ go b.e (2 ^ 1074) b.pos (tiny b.e (2 ^ 1074) c b.pos two b.small)
    where
      go : (e L : ℕ) → 0 < e → e < L → ltb (Y * L + K * L) (K * L + (X * L + e)) ≡ ltb Y (suc X)
      go e L p l = both_ltb Y (suc X) (Y * L + K * L) (K * L + (X * L + e)) (λ (h : Y < suc X). omega (arith, mul-le-mul_right L h)) (λ (h : suc X ≤ Y). omega (arith, mul-le-mul_right L h))

  -- it is no whole number
  pub bump_eq : eq z (diff Y K) ≡ false
  bump_eq =
      eq_values z (diff Y K) b.s (ltb Y K) b.g (dist Y K * 2 ^ 1074) (2 ^ 1074) (pow_pos 1074) b.val (diff_units Y K F)
      ∙ rep_level b.s (ltb Y K) b.g (dist Y K * 2 ^ 1074) (X * 2 ^ 1074 + b.e) (K * 2 ^ 1074) (Y * 2 ^ 1074) (K * 2 ^ 1074) b.rep (rep_units Y K)
      ∙ ne_eqb (X * 2 ^ 1074 + b.e + K * 2 ^ 1074) (K * 2 ^ 1074 + Y * 2 ^ 1074) (λ h. go b.e (2 ^ 1074) b.pos (tiny b.e (2 ^ 1074) c b.pos two b.small) h)
    where
      go : (e L : ℕ) → 0 < e → e < L → X * L + e + K * L ≡ K * L + Y * L → ⊥
      go e L p l h = cases (ltb X Y) (ltb→lt X Y) (nltb→le X Y)
        where
          cases : (t : Bool) → (T t → X < Y) → (T (not t) → Y ≤ X) → ⊥
          cases true f g = omega (arith, mul-le-mul_right L (f tt))
          cases false f g = omega (arith, mul-le-mul_right L (g tt))

-- ---- a rounded size is not much more than the fraction
upper : (Q K c N : ℕ) → 2 * (Q * (c * K)) ≤ 2 * N + c * K → 0x10_0000_0000_0000 * K * c ≤ N → 16 * (Q * K * c) ≤ 17 * N + 8 * c
upper Q K c N a h = omega arith

upper_zero : (Q c N : ℕ) → 2 * (Q * (c * 1)) ≤ 2 * N + c * 1 → 16 * (Q * 1 * c) ≤ 17 * N + 8 * c
upper_zero Q c N a = omega arith

pub grid_upper : (n c : ℕ) → 0 < c → 16 * (grid binary64 n c * c) ≤ 17 * (n * 2 ^ 1074) + 8 * c
grid_upper n c C = go (drop 53 (n * 2 ^ 1074) c) refl
  where
    some : (z : ℕ) (k : ℕ) → z - 53 ≡ suc k → 52 + suc k < z
    some z k e = omega arith

    go : (k : ℕ) → drop 53 (n * 2 ^ 1074) c ≡ k → 16 * (grid binary64 n c * c) ≤ 17 * (n * 2 ^ 1074) + 8 * c
    go zero e =
        subst (λ (k : ℕ). 16 * (lib.Ieee.Nearest.closest (n * 2 ^ 1074) (c * 2 ^ k) * 2 ^ k * c) ≤ 17 * (n * 2 ^ 1074) + 8 * c) (sym e)
        (upper_zero (lib.Ieee.Nearest.closest (n * 2 ^ 1074) (c * 1)) c (n * 2 ^ 1074) (closest_near (n * 2 ^ 1074) (c * 1) (mul-pos C one_pos)).0)
    go (suc k) e =
        subst (λ (k : ℕ). 16 * (lib.Ieee.Nearest.closest (n * 2 ^ 1074) (c * 2 ^ k) * 2 ^ k * c) ≤ 17 * (n * 2 ^ 1074) + 8 * c) (sym e)
        (upper (lib.Ieee.Nearest.closest (n * 2 ^ 1074) (c * 2 ^ suc k)) (2 ^ suc k) c (n * 2 ^ 1074) (closest_near (n * 2 ^ 1074) (c * 2 ^ suc k) (mul-pos C (pow_pos (suc k)))).0
        ((le-div_iff_mul-le C).0 (le_trans (le_of_eq (sym (pow-add 2 52 (suc k)))) (size_reaches (n * 2 ^ 1074 / c) (52 + suc k) (some (size (n * 2 ^ 1074 / c)) k e)))))

-- ---- the nudged difference and the nudged slope
sum_rep : (f : Format) (s t : Bool) (a b c P Q k e : ℕ) → 0 < e → Rep s a P k → Rep t b Q k → P ≡ Q + e → sum f s a (not t) b c ≡ round f false e c
unfolding sum
sum_rep f false false a b c P Q k e E p q h = ap (λ (v : Bool). cond v (round f true (b - a) c) (round f false (a - b) c)) (le-ltb a b (omega arith)) ∙ ap (λ (n : ℕ). round f false n c) (left' a b e (omega arith))
  where
    left' : (a b e : ℕ) → a ≡ b + e → a - b ≡ e
    left' a b e h = omega arith
sum_rep f true true a b c P Q k e E p q h = ap (λ (v : Bool). cond v (round f false (b - a) c) (round f (true && ltb b a) (a - b) c)) (lt-ltb a b (omega arith)) ∙ ap (λ (n : ℕ). round f false n c) (left' b a e (omega arith))
  where
    left' : (a b e : ℕ) → a ≡ b + e → a - b ≡ e
    left' a b e h = omega arith
sum_rep f false true a b c P Q k e E p q h = ap (λ (n : ℕ). round f false n c) (omega arith)
sum_rep f true false a b c P Q k e E p q h = absurd (omega arith)

bounds : (G e L : ℕ) → 0 < e → 0 < L → 16 * (G * L) ≤ 17 * (e * L) + 8 * L → G ≤ 2 * e
bounds G e L E P h = go (ltb (2 * e) G) (ltb→lt (2 * e) G) (nltb→le (2 * e) G)
  where
    go : (t : Bool) → (T t → 2 * e < G) → (T (not t) → G ≤ 2 * e) → G ≤ 2 * e
    go false f g = g tt
    go true f g = absurd (omega (arith, mul-le-mul_right L (f tt), mul-le-mul_right L E))

bounds2 : (H G e m L : ℕ) → 0 < e → 0 < L → 0 < m → G ≤ 2 * e → 16 * (H * (m * L)) ≤ 17 * (G * L) + 8 * (m * L) → H ≤ 3 * e
bounds2 H G e m L E P M g h = go (ltb (3 * e) H) (ltb→lt (3 * e) H) (nltb→le (3 * e) H)
  where
    go : (t : Bool) → (T t → 3 * e < H) → (T (not t) → H ≤ 3 * e) → H ≤ 3 * e
    go false u v = v tt
    go true u v = absurd (omega (arith, mul-pos M P, mul-le-mul_right (m * L) (u tt), mul-le-mul_right (e * L) M, mul-le-mul_right L g))

less_than_seg : (n d L S e : ℕ) → 0 < L → 0 < n → d < 0x400_0000 → n * L * 0x20_0000_0000_0000 ≤ S * d * 0x20_0000_0000_0000 + n * L → e * 0x1000_0000 ≤ L → 3 * e < S
less_than_seg n d L S e P N D h s = lt_of_not-le (λ (z : S ≤ 3 * e). clash z)
  where
    clash : S ≤ 3 * e → ⊥
    clash z = omega (arith, mul-le-mul_right d z, mul-le-mul_right d s, mul-le-mul_right L D, mul-le-mul_right L N)

under : (G e L O : ℕ) → G ≤ 2 * e → e * 0x1000_0000 ≤ L → L < O → G < O
under G e L O g s h = omega arith

under3 : (G e L O : ℕ) → G ≤ 3 * e → e * 0x1000_0000 ≤ L → L < O → G < O
under3 G e L O g s h = omega arith

like_false : (s : Bool) → unlike false s ≡ s
like_false true = refl
like_false false = refl

module _ (z : Float) (X K : ℕ) (b : Bump z X K 0x1000_0000) (F : Fine (dist X K)) where
  pub bump_sub : sub binary64 z (diff X K) ≡ round binary64 false b.e (2 ^ 1074)
  bump_sub =
      sub_values binary64 z (diff X K) b.s (ltb X K) b.g (dist X K * 2 ^ 1074) (2 ^ 1074) (pow_pos 1074) b.val (diff_units X K F)
      ∙ sum_rep binary64 b.s (ltb X K) b.g (dist X K * 2 ^ 1074) (2 ^ 1074) (X * 2 ^ 1074 + b.e) (X * 2 ^ 1074) (K * 2 ^ 1074) b.e b.pos b.rep (rep_units X K) refl

  G : ℕ
  G = grid binary64 b.e (2 ^ 1074)

  g_le : G ≤ 2 * b.e
  unfolding G
  g_le = bounds (grid binary64 b.e (2 ^ 1074)) b.e (2 ^ 1074) b.pos (pow_pos 1074) (grid_upper b.e (2 ^ 1074) (pow_pos 1074))

  sub_val : HasValue (sub binary64 z (diff X K)) false G (2 ^ 1074)
  unfolding G
  sub_val = subst (λ (w : Float). HasValue w false (grid binary64 b.e (2 ^ 1074)) (2 ^ 1074)) (sym bump_sub) (round_val binary64 false b.e (2 ^ 1074) (under G b.e (2 ^ 1074) (overflow binary64) g_le b.small (lit< tt)))

  -- the nudged slope, over Z - W
  module _ (Z W : ℕ) (FZ : Fine (dist Z W)) (D : 0 < dist Z W) where
    H : ℕ
    H = grid binary64 G (dist Z W * 2 ^ 1074)

    h_le : H ≤ 3 * b.e
    unfolding H
    h_le = bounds2 H G b.e (dist Z W) (2 ^ 1074) b.pos (pow_pos 1074) D g_le (grid_upper G (dist Z W * 2 ^ 1074) (mul-pos D (pow_pos 1074)))

    slope_val : HasValue (div binary64 (sub binary64 z (diff X K)) (diff Z W)) (ltb Z W) H (2 ^ 1074)
    unfolding H
    slope_val =
        subst (λ (w : Float). HasValue w (ltb Z W) H (2 ^ 1074))
        (sym (div_values binary64 (sub binary64 z (diff X K)) (diff Z W) false (ltb Z W) G (dist Z W * 2 ^ 1074) (2 ^ 1074) (pow_pos 1074) (mul-pos D (pow_pos 1074)) sub_val (diff_units Z W FZ)
        ∙ ap (λ (s : Bool). round binary64 s G (dist Z W * 2 ^ 1074)) (like_false (ltb Z W))))
        (round_val binary64 (ltb Z W) G (dist Z W * 2 ^ 1074) (under3 H b.e (2 ^ 1074) (overflow binary64) h_le b.small (lit< tt)))

    -- against the slope of a segment that rises from X to Y
    pub bump_steep : (Y Z' W' : ℕ) → X < Y → Short Y X → Short Z' W' → 0 < dist Z' W' → ltb Z' W' ≡ ltb Z W
        → le (div binary64 (diff Y X) (diff Z' W')) (div binary64 (sub binary64 z (diff X K)) (diff Z W)) ≡ ltb Z W
    unfolding le
    bump_steep Y Z' W' l y z' d' same =
        ap₂ ◌||◌
        (lt_values seg nud (ltb Z W) (ltb Z W) S H (2 ^ 1074) (pow_pos 1074) seg_val slope_val)
        (eq_values seg nud (ltb Z W) (ltb Z W) S H (2 ^ 1074) (pow_pos 1074) seg_val slope_val)
        ∙ go (ltb Z W)
      where
        seg : Float
        seg = div binary64 (diff Y X) (diff Z' W')

        nud : Float
        nud = div binary64 (sub binary64 z (diff X K)) (diff Z W)

        S : ℕ
        S = grid binary64 (dist Y X) (dist Z' W')

        sm : Small (dist Y X) (dist Z' W')
        sm = small (dist Y X) (dist Z' W') y z' d'

        seg_is : div binary64 (diff Y X) (diff Z' W') ≡ round binary64 (ltb Z W) (dist Y X) (dist Z' W')
        seg_is = div_diff Y X Z' W' (fine (dist Y X) y) (fine (dist Z' W') z') d' ∙ ap₂ (λ (u v : Bool). round binary64 (unlike u v) (dist Y X) (dist Z' W')) (le-ltb Y X (le_of_lt l)) same ∙ ap (λ (s : Bool). round binary64 s (dist Y X) (dist Z' W')) (like_false (ltb Z W))

        seg_val : HasValue (div binary64 (diff Y X) (diff Z' W')) (ltb Z W) (grid binary64 (dist Y X) (dist Z' W')) (2 ^ 1074)
        seg_val = subst (λ (w : Float). HasValue w (ltb Z W) (grid binary64 (dist Y X) (dist Z' W')) (2 ^ 1074)) (sym seg_is) (small_val (ltb Z W) (dist Y X) (dist Z' W') sm)

        risen : (X Y : ℕ) → X < Y → 0 < Y - X + (X - Y)
        risen X Y h = omega arith

        big : H < grid binary64 (dist Y X) (dist Z' W')
        big = lt_of_le_of_lt h_le (less_than_seg (dist Y X) (dist Z' W') (2 ^ 1074) (grid binary64 (dist Y X) (dist Z' W')) b.e (pow_pos 1074) (risen X Y l) z' (small_near (dist Y X) (dist Z' W') sm).lo b.small)

        apart : (S H : ℕ) → H < S → S ≡ H → ⊥
        apart S H h e = omega arith

        go : (s : Bool) → below s (grid binary64 (dist Y X) (dist Z' W')) s H || level s (grid binary64 (dist Y X) (dist Z' W')) s H ≡ s
        go false = ap₂ (λ (u v : Bool). u || (v && true)) (le-ltb (grid binary64 (dist Y X) (dist Z' W')) H (le_of_lt big)) (ne_eqb (grid binary64 (dist Y X) (dist Z' W')) H (apart (grid binary64 (dist Y X) (dist Z' W')) H big))
        go true = ap (λ (u : Bool). u || level true (grid binary64 (dist Y X) (dist Z' W')) true H) (lt-ltb H (grid binary64 (dist Y X) (dist Z' W')) big)
