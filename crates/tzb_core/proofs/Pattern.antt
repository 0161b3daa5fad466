-- The pattern that `next_up_law` makes is no NaN's.
-- Assumes nothing.
use Rattle.std.proofs.Common.{◌≡◌, ℕ, ◌+◌, ◌-◌, ◌%◌, ◌<◌, ◌≤◌, Bool, true, false, cond, not, T, eqb, ltb, ◌≢◌, sym, refl, ap, ◌∙◌, subst, true≢false, arith, ltb→lt, nltb→le, ltb-false, le-ltb}
use borrow.Author.Tests.{eqb-false}
use lib.Ieee.{Float, nan, inf, fin, binary64, fits, ne, is_nan, nan_bits, to_bits}
use lib.Ieee.Bits.{of_bits-to_bits, to_bits-lt, nan_bits_is, nan_bits_above, is_false}
use Rattle.rounding.specs.Upward.{step_of}

pub not_nan : (x : Float) → ne x x ≡ false → T (not (is_nan x))
unfolding ne is_nan
not_nan nan h = absurd (true≢false h)
not_nan (inf s) h = tt
not_nan (fin s m e) h = tt

-- a pattern that is no NaN's and not that of +∞ steps to one that is no NaN's
step_under : (b : ℕ) → b < 0x1_0000_0000_0000_0000 → b % 0x8000_0000_0000_0000 ≤ 0x7ff0_0000_0000_0000 → (b ≡ 0x7ff0_0000_0000_0000 → ⊥) → step_of b % 0x8000_0000_0000_0000 ≤ 0x7ff0_0000_0000_0000
step_under b l h n =
    go (eqb b 0) (eqb b 0x8000_0000_0000_0000) (ltb b 0x8000_0000_0000_0000) (λ (e : eqb b 0x8000_0000_0000_0000 ≡ false). eqb-false b 0x8000_0000_0000_0000 e) (ltb→lt b 0x8000_0000_0000_0000) (nltb→le b 0x8000_0000_0000_0000) refl
  where
    go : (p q r : Bool) → (eqb b 0x8000_0000_0000_0000 ≡ false → b ≡ 0x8000_0000_0000_0000 → ⊥) → (T r → b < 0x8000_0000_0000_0000) → (T (not r) → 0x8000_0000_0000_0000 ≤ b) → q ≡ eqb b 0x8000_0000_0000_0000
        → cond p 1 (cond q 1 (cond r (b + 1) (b - 1))) % 0x8000_0000_0000_0000 ≤ 0x7ff0_0000_0000_0000
    go true q r x y z e = omega arith
    go false true r x y z e = omega arith
    go false false true x y z e = let k : b < 0x8000_0000_0000_0000 = y tt in omega arith
    go false false false x y z e = let k : 0x8000_0000_0000_0000 ≤ b = z tt in let m : b ≢ 0x8000_0000_0000_0000 = x (sym e) in omega arith

pub step_not_nan : (x : Float) → T (fits binary64 x) → ne x x ≡ false → eqb (to_bits binary64 x) 0x7ff0_0000_0000_0000 ≡ false → T (not (nan_bits binary64 (step_of (to_bits binary64 x))))
step_not_nan x f n i =
    let b = to_bits binary64 x in
    let same : nan_bits binary64 b ≡ is_nan x = nan_bits_is binary64 b ∙ ap is_nan (of_bits-to_bits binary64 x f) in
    let h : b % 0x8000_0000_0000_0000 ≤ 0x7ff0_0000_0000_0000 = ltb-false 0x7ff0_0000_0000_0000 (b % 0x8000_0000_0000_0000) (sym (nan_bits_above binary64 b) ∙ same ∙ is_false (is_nan x) (not_nan x n)) in
    subst (λ (t : Bool). T (not t)) (sym (nan_bits_above binary64 (step_of b) ∙ le-ltb 0x7ff0_0000_0000_0000 (step_of b % 0x8000_0000_0000_0000) (step_under b (to_bits-lt binary64 x f) h (eqb-false b 0x7ff0_0000_0000_0000 i)))) tt
