-- The Rust loop `while py == a.y || py == b.y { py = py.next_up() }`, for ends that are whole numbers of 32 bits and ANY float: it ends after one turn at most, with what `nudged` says.
-- Assumes nothing.
use mathlib.Core.Path.{◌≡◌, refl, sym, ap, ap₂, ◌∙◌, subst}
use mathlib.Core.Logic.{◌⊎◌, inl, inr}
use Prim.Native.Nat.{ℕ, suc, ◌-◌, ◌*◌, ◌≤◌, ◌<◌}
use native.Mathlib.Nat.{le_trans, lt_of_le_of_lt, mul-le-mul_right, eq_of_mul-eq-mul_right}
use native.Mathlib.Omega.{arith}
use mathlib.Core.Bool.{Bool, true, false, true≢false, ◌||◌, beq, cond}
use lib.Dec.{T, eqb, eqb→eq, lit≤, lit<}
use lib.IntN.{ℤ, pos, negsuc, nat_abs, sub_ℕ}
use lib.Ieee.{Float, nan, inf, fin, binary64, up, down, eq, of_int}
use lib.Ieee.Fits.{and_l, and_r, down_pos}
use lib.Ieee.Exact.{HasValue}
use Rattle.rounding.specs.Ints.{dist, diff, diff_val, Fine}
use Rattle.rounding.specs.Quotients.{Rep, rep_diff}
use Rattle.rounding.specs.Upward.{next_up}
use Rattle.rounding.specs.Next.{Bump, bump_of}
use Rattle.rounding.specs.Nudge.{bump_eq}
use Rattle.rays.specs.Ray.{hits, nudged}
use Rattle.rays.proofs.Sides.{or_split}
use Rattle.basics.specs.Whole.{is_sub, is_unique, shift, shift_is}

-- ---- a run of the loop from y ends at r after so many turns
pub data Runs (ay by : Float) : ℕ → Float → Float → Type 0 where
  stop : {y : Float} → hits ay by y ≡ false → Runs ay by 0 y y
  turn : {n : ℕ} {y r : Float} → hits ay by y ≡ true → Runs ay by n (next_up y) r → Runs ay by (suc n) y r

-- all runs from y end alike
pub loop_ends_alike : {ay by y r s : Float} {m n : ℕ} → Runs ay by m y r → Runs ay by n y s → r ≡ s
loop_ends_alike (stop e) (stop f) = refl
loop_ends_alike (stop e) (turn f v) = absurd (true≢false (sym f ∙ e))
loop_ends_alike (turn e u) (stop f) = absurd (true≢false (sym e ∙ f))
loop_ends_alike (turn e u) (turn f v) = loop_ends_alike u v

-- there is a run from y to r of one turn at most
abbrev pub Ends : Float → Float → Float → Float → Type 0
Ends ay by y r = (n : ℕ) × (n ≤ 1) × Runs ay by n y r

-- ---- a float that equals a whole number has its value
same_sign : (s t : Bool) → T (beq s t) → s ≡ t
same_sign true true h = refl
same_sign true false h = absurd h
same_sign false true h = absurd h
same_sign false false h = refl

pub eq_value : (y x : Float) (s : Bool) (N : ℕ) → HasValue x s N 1 → T (eq y x) → (t : Bool) × HasValue y t N 1 × ((t ≡ s) ⊎ (N ≡ 0))
unfolding eq
eq_value nan x s N v h = absurd h
eq_value (inf r) nan s N v h = absurd v
eq_value (inf r) (inf u) s N v h = absurd v
eq_value (inf r) (fin u m e) s N v h = absurd h
eq_value (fin t n d) nan s N v h = absurd v
eq_value (fin t n d) (inf u) s N v h = absurd v
eq_value (fin t n d) (fin u m e) s N v h =
    let A : ℕ = n * up d * down e in
    let B : ℕ = m * up e * down d in
    let q : n * up d * down e ≡ m * up e * down d = eqb→eq A B (and_l (eqb A B) (beq t u || eqb A 0) h) in
    let w : n * up d * 1 ≡ N * down d = value (n * up d) (m * up e) (down d) (down e) N (down_pos e) q v.1 in
    (t, (refl, w), go (or_split (beq t u) (eqb A 0) (and_r (eqb A B) (beq t u || eqb A 0) h)) w)
  where
    value : (U W dd de N : ℕ) → 0 < de → U * de ≡ W * dd → W * 1 ≡ N * de → U * 1 ≡ N * dd
    value U W dd de N D q v = eq_of_mul-eq-mul_right de D (U * 1) (N * dd) (omega (arith, ap (λ (z : ℕ). z * dd) v))

    none : (U dd de N : ℕ) → 0 < dd → 0 < de → U * 1 ≡ N * dd → U * de ≡ 0 → N ≡ 0
    none U dd de N P Q w z = eq_of_mul-eq-mul_right de Q N 0 (eq_of_mul-eq-mul_right dd P (N * de) (0 * de) (omega (arith, ap (λ (x : ℕ). x * de) w)))

    go : T (beq t u) ⊎ T (eqb (n * up d * down e) 0) → n * up d * 1 ≡ N * down d → (t ≡ s) ⊎ (N ≡ 0)
    go (inl a) w = inl (same_sign t u a ∙ v.0)
    go (inr a) w = inr (none (n * up d) (down d) (down e) N (down_pos d) (down_pos e) w (eqb→eq (n * up d * down e) 0 a))

pub rep_of : (t s : Bool) (N X K : ℕ) → (t ≡ s) ⊎ (N ≡ 0) → Rep s N X K → Rep t N X K
rep_of t s N X K (inl e) r = subst (λ (b : Bool). Rep b N X K) (sym e) r
rep_of true true N X K (inr z) r = r
rep_of true false N X K (inr z) r = omega arith
rep_of false true N X K (inr z) r = omega arith
rep_of false false N X K (inr z) r = r

-- ---- whole numbers X - K, with K = 2 ^ 31
module _ (A B : ℕ) (a : dist A 0x8000_0000 ≤ 0x8000_0000) (b : dist B 0x8000_0000 ≤ 0x8000_0000) where
  wide : (X : ℕ) → dist X 0x8000_0000 ≤ 0x8000_0000 → Fine (dist X 0x8000_0000)
  wide X h = le_trans h (lit≤ tt)

  bumped : (y : Float) (X : ℕ) → dist X 0x8000_0000 ≤ 0x8000_0000 → T (eq y (diff X 0x8000_0000)) → Bump (next_up y) X 0x8000_0000 0x10_0000
  bumped y X h t =
      let w = eq_value y (diff X 0x8000_0000) (lib.Dec.ltb X 0x8000_0000) (dist X 0x8000_0000) (diff_val X 0x8000_0000 (wide X h)) t in
      bump_of y w.0 (dist X 0x8000_0000) X 0x8000_0000 0x10_0000 w.1 (rep_of w.0 (lib.Dec.ltb X 0x8000_0000) (dist X 0x8000_0000) X 0x8000_0000 w.2 (rep_diff X 0x8000_0000)) (lt_of_le_of_lt h (lit< tt)) (le_trans (mul-le-mul_right 0x10_0000 h) (lit≤ tt)) (lit≤ tt)

  free : (y : Float) (X : ℕ) → Bump (next_up y) X 0x8000_0000 0x10_0000 → hits (diff A 0x8000_0000) (diff B 0x8000_0000) (next_up y) ≡ false
  free y X p = ap₂ ◌||◌ (bump_eq (next_up y) X 0x8000_0000 0x10_0000 p (lit< tt) A (wide A a)) (bump_eq (next_up y) X 0x8000_0000 0x10_0000 p (lit< tt) B (wide B b))

  once : (y : Float) → T (hits (diff A 0x8000_0000) (diff B 0x8000_0000) y) → hits (diff A 0x8000_0000) (diff B 0x8000_0000) (next_up y) ≡ false
  once y t = go (or_split (eq y (diff A 0x8000_0000)) (eq y (diff B 0x8000_0000)) t)
    where
      go : T (eq y (diff A 0x8000_0000)) ⊎ T (eq y (diff B 0x8000_0000)) → hits (diff A 0x8000_0000) (diff B 0x8000_0000) (next_up y) ≡ false
      go (inl u) = free y A (bumped y A a u)
      go (inr u) = free y B (bumped y B b u)

  runs : (y : Float) → Ends (diff A 0x8000_0000) (diff B 0x8000_0000) y (nudged (diff A 0x8000_0000) (diff B 0x8000_0000) y)
  runs y = go (hits (diff A 0x8000_0000) (diff B 0x8000_0000) y) refl
    where
      go : (h : Bool) → hits (diff A 0x8000_0000) (diff B 0x8000_0000) y ≡ h → Ends (diff A 0x8000_0000) (diff B 0x8000_0000) y (cond h (next_up y) y)
      go true e = (1, lit≤ tt, turn e (stop (once y (subst T (sym e) tt))))
      go false e = (0, lit≤ tt, stop e)

-- ---- for two integers of 32 bits
abbrev nat : ℤ → ℕ
nat z = shift 0x8000_0000 z

nat_diff : (z : ℤ) → nat_abs z ≤ 0x8000_0000 → of_int binary64 z ≡ diff (nat z) 0x8000_0000
unfolding diff
nat_diff z h = ap (of_int binary64) (is_unique z (sub_ℕ (nat z) 0x8000_0000) (nat z) 0x8000_0000 (shift_is 0x8000_0000 z h) (is_sub (nat z) 0x8000_0000))

nat_wide : (z : ℤ) → nat_abs z ≤ 0x8000_0000 → dist (nat z) 0x8000_0000 ≤ 0x8000_0000
nat_wide (pos n) h = omega arith
nat_wide (negsuc n) h = omega arith

pub loop_is : (m n : ℤ) (y : Float) → nat_abs m ≤ 0x8000_0000 → nat_abs n ≤ 0x8000_0000 → Ends (of_int binary64 m) (of_int binary64 n) y (nudged (of_int binary64 m) (of_int binary64 n) y)
loop_is m n y h k =
    subst (λ (u : Float). Ends u (of_int binary64 n) y (nudged u (of_int binary64 n) y)) (sym (nat_diff m h))
    (subst (λ (u : Float). Ends (diff (nat m) 0x8000_0000) u y (nudged (diff (nat m) 0x8000_0000) u y)) (sym (nat_diff n k))
    (runs (nat m) (nat n) (nat_wide m h) (nat_wide n k) y))
