-- Laws of the digits: what each test on a byte says of the number that is being read, and the sums that the loop keeps.
-- Assumes nothing.
use mathlib.Core.Path.{◌≡◌, refl, sym, ap, ap₂, ◌∙◌}
use Prim.Native.Nat.{ℕ, zero, suc, ◌+◌, ◌-◌, ◌*◌, ◌/◌, ◌≤◌, ◌<◌}
use native.Mathlib.Nat.{not-suc-le-zero, mul-le-mul_left}
use native.Mathlib.Numerals.{sub-one}
use native.Mathlib.Omega.{arith}
use mathlib.Core.List.{List}
use mathlib.Core.Bool.{Bool, true, false, ◌&&◌, false≢true}
use lib.ListN.{length, get_or}
use lib.Dec.{ltb, eqb}
use borrow.Author.Tests.{lt-ltb, le-ltb, le-leb, lt-leb, eq-eqb, ne_eqb, ltb-true, ltb-false}
use Rattle.answer.specs.Answers.{Answer, ok, refused, no}
use Rattle.basics.specs.Truth.{and_l, and_r}
use Rattle.varints.specs.Varint.{last, below, digits}
use Rattle.varints.specs.Steps.{rest}

-- ---- the digits, by what the byte is
module _ (s : List ℕ) (p : ℕ) where
  pub digits_out : (k : ℕ) (f : Bool) → length s ≤ p → digits k f s p ≡ no 38
  unfolding digits
  digits_out zero f h = simp (le-ltb _ _ h)
  digits_out (suc k) f h = simp (le-ltb _ _ h)

  module _ (h : p < length s) where
    pub digits_end : (k : ℕ) (f : Bool) → get_or s p 0 < 128 → digits (suc k) f s p ≡ last f (get_or s p 0) (p + 1)
    unfolding digits
    digits_end k f b = simp (lt-ltb _ _ h, lt-ltb _ _ b)

    pub digits_more : (k : ℕ) (f : Bool) → 128 ≤ get_or s p 0
        → digits (suc k) f s p ≡ below (get_or s p 0 - 128) 128 (digits k false s (p + 1))
    unfolding digits
    digits_more k f b = simp (lt-ltb _ _ h, le-ltb _ _ b)

    pub digits_high : (f : Bool) → 15 < get_or s p 0 → digits 0 f s p ≡ no 40
    unfolding digits
    digits_high f b = simp (lt-ltb _ _ h, lt-leb _ _ b)

    pub digits_fifth : (f : Bool) → get_or s p 0 ≤ 15 → digits 0 f s p ≡ last f (get_or s p 0) (p + 1)
    unfolding digits
    digits_fifth f b = simp (lt-ltb _ _ h, le-leb _ _ b)

pub last_zero : (b q : ℕ) → b ≡ 0 → last false b q ≡ no 39
last_zero b q e = simp (eq-eqb _ _ e)

pub last_whole : (b q : ℕ) → (b ≡ 0 → ⊥) → last false b q ≡ ok (b, q)
last_whole b q e = simp (ne_eqb _ _ e)

below_below : (n u d : ℕ) (x : Answer (ℕ × ℕ)) → below (n + u * d) (u * 128) x ≡ below n u (below d 128 x)
below_below n u d (ok t) = ap (λ (k : ℕ). ok (k, t.1)) (omega arith)
below_below n u d (refused r) = refl

-- ---- the digits, by the first byte b
module _ (s : List ℕ) (p b : ℕ) (h : p < length s) (e : b ≡ get_or s p 0) where
  pub first_only : b < 128 → ok (b, p + 1) ≡ digits 4 true s p
  first_only l = rw e (sym (digits_end s p h 3 true (omega arith)))

  first_more : 128 ≤ b → rest (b - 128) 128 3 s (p + 1) ≡ digits 4 true s p
  unfolding rest
  first_more l = rw e (sym (digits_more s p h 3 true (omega arith)))

-- ---- what is left of them, by the next byte b
module _ (n u : ℕ) (s : List ℕ) (p : ℕ) where
  pub rest_out : (k : ℕ) → length s ≤ p → no 38 ≡ rest n u k s p
  unfolding rest
  rest_out k h = sym (ap (below n u) (digits_out s p k false h))

  module _ (b : ℕ) (h : p < length s) (e : b ≡ get_or s p 0) where
    -- a last byte
    zero_at : (k : ℕ) → digits k false s p ≡ last false (get_or s p 0) (p + 1) → b ≡ 0 → no 39 ≡ rest n u k s p
    unfolding rest
    zero_at k d i = sym (ap (below n u) (d ∙ last_zero _ (p + 1) (sym e ∙ i)))

    end_at : (k : ℕ) → digits k false s p ≡ last false (get_or s p 0) (p + 1) → (b ≡ 0 → ⊥) → ok (n + u * b, p + 1) ≡ rest n u k s p
    unfolding rest
    end_at k d i = sym (ap (below n u) (d ∙ ap (λ (x : ℕ). last false x (p + 1)) (sym e) ∙ last_whole b (p + 1) i))

    -- before the fifth
    last_at_law : (k : ℕ) → 0 < k → b < 128 → digits k false s p ≡ last false (get_or s p 0) (p + 1)
    last_at_law zero z l = absurd (not-suc-le-zero z)
    last_at_law (suc k) z l = digits_end s p h k false (omega arith)

    rest_zero : (k : ℕ) → 0 < k → b < 128 → b ≡ 0 → no 39 ≡ rest n u k s p
    rest_zero k z l = zero_at k (last_at_law k z l)

    rest_end : (k : ℕ) → 0 < k → b < 128 → (b ≡ 0 → ⊥) → ok (n + u * b, p + 1) ≡ rest n u k s p
    rest_end k z l = end_at k (last_at_law k z l)

    pub rest_more : (k : ℕ) → 0 < k → 128 ≤ b → rest (n + u * (b - 128)) (u * 128) (k - 1) s (p + 1) ≡ rest n u k s p
    unfolding rest
    rest_more zero z l = absurd (not-suc-le-zero z)
    rest_more (suc k) z l =
        rw (e, sub-one) (below_below n u (get_or s p 0 - 128) (digits k false s (p + 1))
        ∙ ap (below n u) (sym (digits_more s p h k false (omega arith))))

    -- the fifth
    fifth_high : 15 < b → no 40 ≡ rest n u 0 s p
    unfolding rest
    fifth_high l = sym (ap (below n u) (digits_high s p h false (omega arith)))

    fifth_zero : b ≤ 15 → b ≡ 0 → no 39 ≡ rest n u 0 s p
    fifth_zero l = zero_at 0 (digits_fifth s p h false (omega arith))

    fifth_end : b ≤ 15 → (b ≡ 0 → ⊥) → ok (n + u * b, p + 1) ≡ rest n u 0 s p
    fifth_end l = end_at 0 (digits_fifth s p h false (omega arith))

-- ---- the sums fit
-- the numbers that k more digits after the first can hold are below it: 2 ^ 32 where k is 4
abbrev pub lim : ℕ → ℕ
lim zero = 16
lim (suc k) = 128 * lim k

pub lim_pos : (k : ℕ) → 16 ≤ lim k
lim_pos zero = omega arith
lim_pos (suc k) = omega (arith, lim_pos k)

module _ (u k : ℕ) (z : 0 < k) (e : u * lim k ≡ 0x1_0000_0000) where
  pub lim_down : u * 128 * lim (k - 1) ≡ 0x1_0000_0000
  lim_down = go k z e
    where
      go : (k : ℕ) → 0 < k → u * lim k ≡ 0x1_0000_0000 → u * 128 * lim (k - 1) ≡ 0x1_0000_0000
      go zero z e = absurd (not-suc-le-zero z)
      go (suc k) z e = simp sub-one (omega (arith, e))

  -- a digit b of unit u, on n below it: below the next unit, which is at most 2 ^ 28
  pub room : (n b : ℕ) → n < u → b < 128 → n + u * b < u * 128
  room n b h l = omega (arith, mul-le-mul_left u (pred l))
    where
      pred : b < 128 → b ≤ 127
      pred l = omega arith

  pub unit_fits : u * 128 ≤ 0x1000_0000
  unit_fits = go k z e
    where
      go : (k : ℕ) → 0 < k → u * lim k ≡ 0x1_0000_0000 → u * 128 ≤ 0x1000_0000
      go zero z e = absurd (not-suc-le-zero z)
      go (suc k) z e = omega (arith, e, mul-le-mul_left u (lim_pos k))

-- ---- a turn of the loop: the digit of unit u is the fifth exactly where no more may follow it, and then a byte above 15 is too much
abbrev over : ℕ → ℕ → Bool
over u b = eqb u 0x1000_0000 && ltb 15 b

over_last : (u b : ℕ) → u * 16 ≡ 0x1_0000_0000 → over u b ≡ ltb 15 b
over_last u b w = simp (eq-eqb u 0x1000_0000 (omega (arith, w)))

over_before : (u k b : ℕ) → u * lim (suc k) ≡ 0x1_0000_0000 → over u b ≡ false
over_before u k b w = simp (ne_eqb u 0x1000_0000 (λ (i : u ≡ 0x1000_0000). small (unit_fits u (suc k) (omega arith) w) i))
  where
    small : u * 128 ≤ 0x1000_0000 → u ≡ 0x1000_0000 → ⊥
    small l i = omega arith

module _ (n u : ℕ) (s : List ℕ) (p b : ℕ) (h : p < length s) (e : b ≡ get_or s p 0) where
  pub turn_high : (k : ℕ) → u * lim k ≡ 0x1_0000_0000 → over u b ≡ true → no 40 ≡ rest n u k s p
  turn_high zero w o = fifth_high n u s p b h e (ltb-true 15 b (sym (over_last u b w) ∙ o))
  turn_high (suc k) w o = absurd (false≢true (sym (over_before u k b w) ∙ o))

  pub turn_zero : (k : ℕ) → u * lim k ≡ 0x1_0000_0000 → over u b ≡ false → b < 128 → b ≡ 0 → no 39 ≡ rest n u k s p
  turn_zero zero w o l = fifth_zero n u s p b h e (ltb-false 15 b (sym (over_last u b w) ∙ o))
  turn_zero (suc k) w o l = rest_zero n u s p b h e (suc k) (omega arith) l

  pub turn_end : (k : ℕ) → u * lim k ≡ 0x1_0000_0000 → over u b ≡ false → b < 128 → (b ≡ 0 → ⊥) → ok (n + u * b, p + 1) ≡ rest n u k s p
  turn_end zero w o l = fifth_end n u s p b h e (ltb-false 15 b (sym (over_last u b w) ∙ o))
  turn_end (suc k) w o l = rest_end n u s p b h e (suc k) (omega arith) l

-- the sum fits
pub turn_fits : (n u k b : ℕ) → u * lim k ≡ 0x1_0000_0000 → n < u → over u b ≡ false → b < 128 → n + u * b < 0x1_0000_0000
turn_fits n u zero b w i o l = omega (arith, w, mul-le-mul_left u (ltb-false 15 b (sym (over_last u b w) ∙ o)))
turn_fits n u (suc k) b w i o l = omega (arith, room u (suc k) (omega arith) w n b i l, unit_fits u (suc k) (omega arith) w)

-- a byte that has a digit to follow is not the fifth
pub turn_more : (u k b : ℕ) → u * lim k ≡ 0x1_0000_0000 → over u b ≡ false → 128 ≤ b → 0 < k
turn_more u zero b w o l = absurd (none (ltb-false 15 b (sym (over_last u b w) ∙ o)))
  where
    none : b ≤ 15 → ⊥
    none i = omega arith
turn_more u (suc k) b w o l = omega arith

-- ---- one byte or two, by one test: more is 1 where the second byte c belongs to the number
pub more_fits : (b c : ℕ) → b < 256 → c < 256 → b / 128 * c < 256
more_fits b c h l = go (b / 128) (omega arith)
  where
    go : (more : ℕ) → more ≤ 1 → more * c < 256
    go zero i = omega arith
    go (suc zero) i = omega arith
    go (suc (suc k)) i = omega arith

-- both bytes have a digit to follow
abbrev longer : ℕ → ℕ → Bool
longer b c = ltb 127 b && ltb 127 c

pub longer_first : (b c : ℕ) → longer b c ≡ true → 127 < b
longer_first b c o = ltb-true 127 b (and_l (ltb 127 b) (ltb 127 c) o)

pub longer_second : (b c : ℕ) → longer b c ≡ true → 127 < c
longer_second b c o = ltb-true 127 c (and_r (ltb 127 b) (ltb 127 c) o)

longer_not : (b c : ℕ) → longer b c ≡ false → 128 ≤ b → c < 128
longer_not b c o l = up (ltb-false 127 c (sym (ap (λ (t : Bool). t && ltb 127 c) (lt-ltb 127 b (omega arith))) ∙ o))
  where
    up : c ≤ 127 → c < 128
    up i = omega arith

-- no second byte is left
pub last_more : (s : List ℕ) (p b : ℕ) → p < length s → b ≡ get_or s p 0 → length s ≤ p + 1 → 128 ≤ b → no 38 ≡ digits 4 true s p
last_more s p b h e l m = rest_out (b - 128) 128 s (p + 1) 3 l ∙ first_more s p b h e m

module _ (s : List ℕ) (p b c : ℕ) (h : p + 1 < length s) (e : b ≡ get_or s p 0) (f : c ≡ get_or s (p + 1) 0) where
  pub longer_from : longer b c ≡ true → rest (b - 128 + 128 * (c - 128)) 16384 2 s (p + 1 + 1) ≡ digits 4 true s p
  longer_from o =
      rest_more (b - 128) 128 s (p + 1) c h f 3 (omega arith) (longer_second b c o)
      ∙ first_more s p b (omega arith) e (longer_first b c o)

  zero_by : (more : ℕ) → more ≡ b / 128 → b < 256 → longer b c ≡ false → more * c < more → no 39 ≡ digits 4 true s p
  zero_by zero m l o z = absurd (not-suc-le-zero z)
  zero_by (suc zero) m l o z =
      rest_zero (b - 128) 128 s (p + 1) c h f 3 (omega arith) (longer_not b c o (omega arith)) (omega arith)
      ∙ first_more s p b (omega arith) e (omega arith)
  zero_by (suc (suc k)) m l o z = absurd (none (omega arith))
    where
      none : b < b → ⊥
      none i = omega arith

  direct_by : (more : ℕ) → more ≡ b / 128 → b < 256 → longer b c ≡ false → more ≤ more * c
      → ok (b + 128 * (more * c) - 128 * more, p + 1 + more) ≡ digits 4 true s p
  direct_by zero m l o z = ap₂ (λ (n q : ℕ). ok (n, q)) (omega arith) (omega arith) ∙ first_only s p b (omega arith) e (omega arith)
  direct_by (suc zero) m l o z =
      ap₂ (λ (n q : ℕ). ok (n, q)) (omega arith) (omega arith)
      ∙ rest_end (b - 128) 128 s (p + 1) c h f 3 (omega arith) (longer_not b c o (omega arith)) (omega arith)
      ∙ first_more s p b (omega arith) e (omega arith)
  direct_by (suc (suc k)) m l o z = absurd (none (omega arith))
    where
      none : b < b → ⊥
      none i = omega arith

  pub direct_zero : b < 256 → longer b c ≡ false → b / 128 * c < b / 128 → no 39 ≡ digits 4 true s p
  direct_zero = zero_by (b / 128) refl

  pub direct : b < 256 → longer b c ≡ false → b / 128 ≤ b / 128 * c
      → ok (b + 128 * (b / 128 * c) - 128 * (b / 128), p + 1 + b / 128) ≡ digits 4 true s p
  direct = direct_by (b / 128) refl
