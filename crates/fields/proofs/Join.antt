-- One law for every width: a number of m + n bytes is one of m bytes and, above it, one of n.
-- Assumes nothing.
use mathlib.Core.Path.{◌≡◌, sym, ap, ◌∙◌}
use Prim.Native.Nat.{ℕ, zero, suc, ◌+◌, ◌*◌, ◌<◌}
use native.Mathlib.Nat.{zero-add, suc-add, add-zero}
use native.Mathlib.Omega.{arith}
use mathlib.Core.List.{List}
use lib.ListN.{get_or}
use Rattle.fields.specs.Le.{le}
use Rattle.fields.specs.Stores.{unit}

pub join : (m n : ℕ) (s : List ℕ) (p : ℕ) → le (m + n) s p ≡ le m s p + unit m * le n s (p + m)
unfolding le
join zero n s p = ap (λ (k : ℕ). le k s p) (zero-add n) ∙ ap (le n s) (sym (add-zero p)) ∙ sym (low (le n s (p + 0)))
  where
    low : (x : ℕ) → 0 + 1 * x ≡ x
    low x = omega arith
join (suc m) n s p =
    ap (λ (k : ℕ). le k s p) (suc-add m n) ∙ ap (λ (x : ℕ). get_or s p 0 + 256 * x) (join m n s (p + 1))
    ∙ ap (λ (q : ℕ). get_or s p 0 + 256 * (le m s (p + 1) + unit m * le n s q)) next
    ∙ above (get_or s p 0) (le m s (p + 1)) (unit m) (le n s (p + suc m))
  where
    next : p + 1 + m ≡ p + suc m
    next = omega arith

    above : (b x u y : ℕ) → b + 256 * (x + u * y) ≡ b + 256 * x + 256 * u * y
    above b x u y = omega arith

-- the first byte
pub one : (s : List ℕ) (p : ℕ) → le 1 s p ≡ get_or s p 0
unfolding le
one s p = omega arith

-- one byte more, above those that stand
pub more : (n : ℕ) (s : List ℕ) (p : ℕ) → le (n + 1) s p ≡ le n s p + unit n * get_or s (p + n) 0
more n s p = join n 1 s p ∙ ap (λ (x : ℕ). le n s p + unit n * x) (one s (p + n))

pub fits : (n : ℕ) (s : List ℕ) (p : ℕ) → ((i : ℕ) → get_or s i 0 < 256) → le n s p < unit n
unfolding le
fits zero s p h = omega arith
fits (suc n) s p h = omega (arith, h p, fits n s (p + 1) h)
