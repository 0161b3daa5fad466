-- Long division gives the remainder, and there is but one. For any divisor that begins with 1.
-- Assumes nothing.
use mathlib.Core.Path.{◌≡◌, refl, sym, ap, ap₂, ◌∙◌}
use mathlib.Core.Bool.{Bool, true, false}
use mathlib.Core.List.{List, [], ◌∷◌, ◌++◌}
use Prim.Native.Nat.{ℕ, zero, suc, ◌+◌, ◌≤◌}
use native.Mathlib.Nat.{le_of_suc-le-suc, not-suc-le-zero, suc-add}
use native.Mathlib.Omega.{arith}
use lib.ListN.{length, length-replicate}
use Rattle.basics.specs.Parity.{◌⊻◌, ⊻_self, ⊻_idr, ⊻_assoc}
use Rattle.checksum.specs.Ieee8023.{zeros, ◌⊕◌, times, product, Remainder, line, divided}

-- ---- sums

pub plus_none : (p : List Bool) → p ⊕ [] ≡ p
unfolding ◌⊕◌
plus_none [] = refl
plus_none (a ∷ p) = refl

pub plus_assoc : (p q r : List Bool) → p ⊕ q ⊕ r ≡ p ⊕ (q ⊕ r)
unfolding ◌⊕◌
plus_assoc [] q r = refl
plus_assoc (a ∷ p) [] r = refl
plus_assoc (a ∷ p) (b ∷ q) [] = refl
plus_assoc (a ∷ p) (b ∷ q) (c ∷ r) = ap₂ (λ (x : Bool) (y : List Bool). x ∷ y) (⊻_assoc a b c) (plus_assoc p q r)

-- what is added twice is gone
pub plus_twice : (p q : List Bool) → length p ≤ length q → p ⊕ (p ⊕ q) ≡ q
unfolding ◌⊕◌
plus_twice [] q h = refl
plus_twice (a ∷ p) [] h = absurd (not-suc-le-zero h)
plus_twice (a ∷ p) (b ∷ q) h =
    ap₂ (λ (x : Bool) (y : List Bool). x ∷ y) (sym (⊻_assoc a a b) ∙ ap (λ (x : Bool). x ⊻ b) (⊻_self a)) (plus_twice p q (le_of_suc-le-suc h))

pub plus_length : (p q : List Bool) → length p ≤ length q → length (p ⊕ q) ≡ length q
unfolding ◌⊕◌
plus_length [] q h = refl
plus_length (a ∷ p) [] h = absurd (not-suc-le-zero h)
plus_length (a ∷ p) (b ∷ q) h = ap suc (plus_length p q (le_of_suc-le-suc h))

pub plus_longer : (p q : List Bool) → length q ≤ length p → length (p ⊕ q) ≡ length p
unfolding ◌⊕◌
plus_longer [] [] h = refl
plus_longer [] (b ∷ q) h = absurd (not-suc-le-zero h)
plus_longer (a ∷ p) [] h = refl
plus_longer (a ∷ p) (b ∷ q) h = ap suc (plus_longer p q (le_of_suc-le-suc h))

pub plus_cancel : (p q r : List Bool) → length p ≤ length q → length p ≤ length r → p ⊕ q ≡ p ⊕ r → q ≡ r
plus_cancel p q r h k e = sym (plus_twice p q h) ∙ ap (λ (x : List Bool). p ⊕ x) e ∙ plus_twice p r k

pub plus_zeros : (n : ℕ) (p : List Bool) → n ≤ length p → p ⊕ zeros n ≡ p
unfolding ◌⊕◌
plus_zeros zero p h = plus_none p
plus_zeros (suc n) [] h = absurd (not-suc-le-zero h)
plus_zeros (suc n) (a ∷ p) h = ap₂ (λ (x : Bool) (y : List Bool). x ∷ y) (⊻_idr a) (plus_zeros n p (le_of_suc-le-suc h))

pub times_length : (a : Bool) (p : List Bool) → length (times a p) ≡ length p
unfolding times
times_length true p = refl
times_length false p = length-replicate (length p) false

-- ---- a divisor that begins with 1, and goes on with h

module _ (h : List Bool) where
  pub times_first : (a : Bool) → times a (true ∷ h) ≡ a ∷ times a h
  unfolding times
  times_first true = refl
  times_first false = refl

  pub line_is : (a : Bool) (p : List Bool) → line (true ∷ h) (a ∷ p) ≡ times a h ⊕ p
  unfolding line ◌⊕◌
  line_is a p = ap (λ (x : List Bool). lib.ListN.drop 1 (x ⊕ (a ∷ p))) (times_first a)

  -- a multiple, and r at its lower end
  sum : List Bool → List Bool → List Bool
  sum q r = product q (true ∷ h) ⊕ (zeros (length q) ++ r)

  sum_cons : (a : Bool) (q r : List Bool) → sum (a ∷ q) r ≡ a ∷ (times a h ⊕ sum q r)
  unfolding sum product ◌⊕◌
  sum_cons a q r =
      plus_assoc (times a (true ∷ h)) (false ∷ product q (true ∷ h)) (false ∷ (zeros (length q) ++ r))
      ∙ ap (λ (x : List Bool). x ⊕ (false ∷ sum q r)) (times_first a)
      ∙ ap (λ (x : Bool). x ∷ (times a h ⊕ sum q r)) (⊻_idr a)

  sum_length : (q r : List Bool) → length r ≡ length h → length (sum q r) ≡ length q + length h
  unfolding sum product ◌⊕◌
  sum_length [] r e = omega arith
  sum_length (a ∷ q) r e =
      let l = sum_length q r e in
      let t = times_length a h in
      ap length (sum_cons a q r) ∙ ap suc (plus_length (times a h) (sum q r) (omega arith)) ∙ ap suc l ∙ sym (suc-add (length q) (length h))

  -- the quotient that long division writes
  written : ℕ → List Bool → List Bool
  written zero p = []
  written (suc n) [] = []
  written (suc n) (a ∷ p) = a ∷ written n (line (true ∷ h) (a ∷ p))

  line_length : (n : ℕ) (a : Bool) (p : List Bool) → length (a ∷ p) ≡ suc n + length h → length (line (true ∷ h) (a ∷ p)) ≡ n + length h
  line_length n a p e =
      let t = times_length a h in
      let s = suc-add n (length h) in
      ap length (line_is a p) ∙ plus_length (times a h) p (omega arith) ∙ omega arith

  division : (n : ℕ) (p : List Bool) → length p ≡ n + length h → sum (written n p) (divided (true ∷ h) n p) ≡ p
  unfolding sum product ◌⊕◌ written divided
  division zero p e = refl
  division (suc n) [] e = absurd (omega arith)
  division (suc n) (a ∷ p) e =
      let t = times_length a h in
      let x = line (true ∷ h) (a ∷ p) in
      sum_cons a (written n x) (divided (true ∷ h) n x)
      ∙ ap (λ (y : List Bool). a ∷ (times a h ⊕ y)) (division n x (line_length n a p e) ∙ line_is a p)
      ∙ ap (λ (y : List Bool). a ∷ y) (plus_twice (times a h) p (omega arith))

  pub divided_length : (n : ℕ) (p : List Bool) → length p ≡ n + length h → length (divided (true ∷ h) n p) ≡ length h
  unfolding divided
  divided_length zero p e = omega arith
  divided_length (suc n) [] e = absurd (omega arith)
  divided_length (suc n) (a ∷ p) e = divided_length n (line (true ∷ h) (a ∷ p)) (line_length n a p e)

  -- what n lines leave of n coefficients more than the divisor's degree is the remainder
  pub division_remainder : (n : ℕ) (p : List Bool) → length p ≡ n + length h → Remainder p (true ∷ h) (divided (true ∷ h) n p)
  unfolding sum
  division_remainder n p e =
      let l = divided_length n p e in
      record { quotient = written n p; whole = sym (division n p e); below = omega arith }

  sums_equal : (q r s t : List Bool) → length r ≡ length h → length t ≡ length h → sum q r ≡ sum s t → r ≡ t
  unfolding sum product ◌⊕◌
  sums_equal [] r [] t i j e = e
  sums_equal [] r (b ∷ s) t i j e = absurd (omega (arith, ap length e, sum_length [] r i, sum_length (b ∷ s) t j))
  sums_equal (a ∷ q) r [] t i j e = absurd (omega (arith, ap length e, sum_length (a ∷ q) r i, sum_length [] t j))
  sums_equal (a ∷ q) r (b ∷ s) t i j e =
      let c : a ∷ (times a h ⊕ sum q r) ≡ b ∷ (times b h ⊕ sum s t) = sym (sum_cons a q r) ∙ e ∙ sum_cons b s t in
      let d : a ≡ b = cc in
      let f : times a h ⊕ sum q r ≡ times b h ⊕ sum s t = cc in
      let g : times a h ⊕ sum q r ≡ times a h ⊕ sum s t = f ∙ ap (λ (x : Bool). times x h ⊕ sum s t) (sym d) in
      sums_equal q r s t i j
      (plus_cancel (times a h) (sum q r) (sum s t) (omega (arith, times_length a h, sum_length q r i)) (omega (arith, times_length a h, sum_length s t j)) g)

  -- there is but one
  pub remainder_unique : (p r t : List Bool) → Remainder p (true ∷ h) r → Remainder p (true ∷ h) t → r ≡ t
  unfolding sum
  remainder_unique p r t x y =
      sums_equal x.quotient r y.quotient t (omega (arith, x.below)) (omega (arith, y.below)) (sym x.whole ∙ y.whole)
