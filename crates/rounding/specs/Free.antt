-- Any finite float against whole numbers: its order.
-- Assumes nothing.
use Rattle.std.specs.Prelude.{◌≡◌, refl, ℕ, ◌+◌, ◌*◌, ◌≤◌, ◌<◌, Bool, true, false, ltb, Float, ℤ}
use Rattle.std.proofs.Common.{◌∙◌, arith}
use Rattle.std.specs.Float.Ieee.{lt, up, down}
use Rattle.std.specs.Float.{fin}
use Rattle.std.specs.Float.Ieee.Fits.{down_pos}
use Rattle.std.specs.Float.Ieee.Exact.{HasValue}
use Rattle.rounding.specs.Gap.{both_ltb}
use Rattle.rounding.specs.Rounded.{lt_values}
use Rattle.rounding.specs.Ints.{dist, diff, diff_val, Fine}
use Rattle.rounding.specs.Quotients.{Rep, rep_diff, rep_below}
use Rattle.rounding.specs.Nudge.{scale, rep_scale}

-- ---- a finite float as (p - q) / c
pub record Frac (v : Float) : Type 0 where
  pub c : ℕ
  pub c_pos : 0 < c
  pub t : Bool
  pub n : ℕ
  pub p : ℕ
  pub q : ℕ
  pub val : HasValue v t n c
  pub rep : Rep t n p q

abbrev pub frac_of : (s : Bool) (m : ℕ) (e : ℤ) → Frac (fin s m e)
frac_of true m e = record { c = down e; c_pos = down_pos e; t = true; n = m * up e; p = 0; q = m * up e; val = (refl, refl); rep = omega arith }
frac_of false m e = record { c = down e; c_pos = down_pos e; t = false; n = m * up e; p = m * up e; q = 0; val = (refl, refl); rep = omega arith }

-- ---- against Y - K
module _ (v : Float) (f : Frac v) (K Y : ℕ) (F : Fine (dist Y K)) where
  y_val : HasValue (diff Y K) (ltb Y K) (dist Y K * f.c) f.c
  y_val = scale (diff Y K) (ltb Y K) (dist Y K) f.c (diff_val Y K F)

  y_rep : Rep (ltb Y K) (dist Y K * f.c) (Y * f.c) (K * f.c)
  y_rep = rep_scale (ltb Y K) (dist Y K) Y K f.c (rep_diff Y K)

  pub frac_lt : lt v (diff Y K) ≡ ltb (f.p + K * f.c) (f.q + Y * f.c)
  frac_lt = lt_values v (diff Y K) f.t (ltb Y K) f.n (dist Y K * f.c) f.c f.c_pos f.val y_val ∙ rep_below f.t (ltb Y K) f.n (dist Y K * f.c) f.p f.q (Y * f.c) (K * f.c) f.rep y_rep

  pub lt_frac : lt (diff Y K) v ≡ ltb (f.q + Y * f.c) (f.p + K * f.c)
  lt_frac =
      lt_values (diff Y K) v (ltb Y K) f.t (dist Y K * f.c) f.n f.c f.c_pos y_val f.val
      ∙ rep_below (ltb Y K) f.t (dist Y K * f.c) f.n (Y * f.c) (K * f.c) f.p f.q y_rep f.rep
      ∙ both_ltb (f.q + Y * f.c) (f.p + K * f.c) (Y * f.c + f.q) (K * f.c + f.p) (λ (h : f.q + Y * f.c < f.p + K * f.c). omega arith) (λ (h : f.p + K * f.c ≤ f.q + Y * f.c). omega arith)
