-- The digits of a number, one by one, and how long the texts are.
-- Assumes nothing.
use Prim.Native.Nat.{ℕ, zero, suc, ◌+◌, ◌≤◌, ◌<◌, ◌/◌, ◌%◌}
use native.Mathlib.Nat.{not-suc-le-zero}
use native.Mathlib.Omega.{arith}
use mathlib.Core.Path.{◌≡◌, refl, sym, ap, ap₂, ◌∙◌}
use mathlib.Core.Bool.{Bool, true, false, cond}
use mathlib.Core.List.{List, ◌++◌, append_assoc}
use borrow.Author.Tests.{ltb-false, lt-ltb, le-ltb}
use lib.Dec.{ltb}
use lib.ListN.{length, length-append}
use lib.IntN.{ℤ, pos, negsuc, nat_abs}
use Rattle.plane.specs.declared.I32Point.{I32Point}
use Rattle.geojson.specs.Ascii.{ascii}
use Rattle.geojson.specs.Decimals.{last_digit, digits_by, digits, places, hundred_thousandths, minus, decimal}
use Rattle.geojson.specs.Text.{position_text}
use Rattle.geojson.proofs.Back.{unit}

-- any number above n is enough
enough : (f g n : ℕ) → n < f → n < g → digits_by f n ≡ digits_by g n
unfolding digits_by
enough zero g n h k = absurd (not-suc-le-zero h)
enough (suc f) zero n h k = absurd (not-suc-le-zero k)
enough (suc f) (suc g) n h k = go (ltb n 10) refl (enough f g (n / 10))
  where
    go : (t : Bool) → ltb n 10 ≡ t → (n / 10 < f → n / 10 < g → digits_by f (n / 10) ≡ digits_by g (n / 10))
        → cond t (last_digit n) (digits_by f (n / 10) ++ last_digit n) ≡ cond t (last_digit n) (digits_by g (n / 10) ++ last_digit n)
    go true e before = refl
    go false e before =
        let low = ltb-false n 10 e in
        ap (λ (l : List ℕ). l ++ last_digit n) (before (omega arith) (omega arith))

pub digits_one : (n : ℕ) → n < 10 → last_digit n ≡ digits n
unfolding digits digits_by
digits_one n h = rw (lt-ltb n 10 h)

pub digits_more : (n : ℕ) → 10 ≤ n → digits (n / 10) ++ last_digit n ≡ digits n
unfolding digits digits_by
digits_more n h =
    rw (le-ltb n 10 h) (ap (λ (l : List ℕ). l ++ last_digit n) (enough (suc (n / 10)) n (n / 10) (omega arith) (omega arith)))

-- the last two digits together
pub two : (n : ℕ) → last_digit (n / 10) ++ last_digit n ≡ places 2 n
unfolding places
two n = refl

-- behind the digits of a hundredth
pub digits_two : (n : ℕ) → 10 ≤ n → n < 100 → places 2 n ≡ digits n
digits_two n l u = sym (two n) ∙ ap (λ (d : List ℕ). d ++ last_digit n) (digits_one (n / 10) (omega arith)) ∙ digits_more n l

pub digits_hundred : (n : ℕ) → 100 ≤ n → digits (n / 100) ++ places 2 n ≡ digits n
digits_hundred n l =
    let tenth : n / 100 ≡ n / 10 / 10 = omega arith in
    ap₂ (λ (d e : List ℕ). d ++ e) (ap digits tenth) (sym (two n))
    ∙ sym (append_assoc (digits (n / 10 / 10)) (last_digit (n / 10)) (last_digit n))
    ∙ ap (λ (d : List ℕ). d ++ last_digit n) (digits_more (n / 10) (omega arith))
    ∙ digits_more n (omega arith)

pub digits_five : (n : ℕ) → 10_000 ≤ n → n < 100_000 → last_digit (n / 10_000) ++ places 2 (n / 100) ++ places 2 n ≡ digits n
digits_five n l u =
    let first : n / 10_000 ≡ n / 100 / 100 = omega arith in
    ap (λ (d : List ℕ). d ++ places 2 (n / 100) ++ places 2 n) (ap last_digit first ∙ digits_one (n / 100 / 100) (omega arith))
    ∙ ap (λ (d : List ℕ). d ++ places 2 n) (digits_hundred (n / 100) (omega arith))
    ∙ digits_hundred n (omega arith)

-- behind the places of a hundredth
places_hundred : (k n : ℕ) → places k (n / 100) ++ places 2 n ≡ places (suc (suc k)) n
unfolding places
places_hundred k n =
    let tenth : n / 100 ≡ n / 10 / 10 = omega arith in
    ap (λ (m : ℕ). places k m ++ (last_digit (n / 10) ++ last_digit n)) tenth
    ∙ sym (append_assoc (places k (n / 10 / 10)) (last_digit (n / 10)) (last_digit n))

one_more : (m : ℕ) → last_digit (m / 100) ++ places 2 m ≡ places 3 m
unfolding places
one_more m = places_hundred 1 m

pub five : (n : ℕ) → last_digit (n / 10_000) ++ places 2 (n / 100) ++ places 2 n ≡ places 5 n
five n =
    let first : n / 10_000 ≡ n / 100 / 100 = omega arith in
    ap (λ (m : ℕ). last_digit m ++ places 2 (n / 100) ++ places 2 n) first
    ∙ ap (λ (d : List ℕ). d ++ places 2 n) (one_more (n / 100))
    ∙ places_hundred 3 n

-- ---- lengths
unit_positive : (k : ℕ) → 0 < unit k
unit_positive zero = omega arith
unit_positive (suc k) = omega (arith, unit_positive k)

-- from how many on a number has k digits more than one
abbrev pub low : ℕ → ℕ
low zero = 0
low (suc k) = unit (suc k)

low_tenth : (k n : ℕ) → unit (suc k) ≤ n → low k ≤ n / 10
low_tenth zero n h = omega arith
low_tenth (suc k) n h = omega arith

by_length : (k f n : ℕ) → n < f → low k ≤ n → n < unit (suc k) → length (digits_by f n) ≡ suc k
unfolding digits_by
by_length k zero n h l u = absurd (not-suc-le-zero h)
by_length zero (suc f) n h l u = rw (lt-ltb n 10 (omega arith))
by_length (suc k) (suc f) n h l u =
    let positive = unit_positive k in
    let ten : 10 ≤ n = omega arith in
    rw (le-ltb n 10 ten)
    (length-append (digits_by f (n / 10)) (last_digit n)
    ∙ ap (λ (m : ℕ). m + 1) (by_length k f (n / 10) (omega arith) (low_tenth k n l) (omega arith))
    ∙ more k)
  where
    more : (m : ℕ) → suc m + 1 ≡ suc (suc m)
    more m = omega arith

pub digits_length : (k n : ℕ) → low k ≤ n → n < unit (suc k) → length (digits n) ≡ suc k
unfolding digits
digits_length k n l u = by_length k (suc n) n (omega arith) l u

-- at most k digits
by_most : (k f n : ℕ) → n < unit (suc k) → length (digits_by f n) ≤ suc k
unfolding digits_by
by_most k zero n u = omega arith
by_most k (suc f) n u = go k u (ltb n 10) refl (λ (j : ℕ). by_most j f (n / 10))
  where
    go : (k : ℕ) → n < unit (suc k) → (t : Bool) → ltb n 10 ≡ t → ((j : ℕ) → n / 10 < unit (suc j) → length (digits_by f (n / 10)) ≤ suc j)
        → length (cond t (last_digit n) (digits_by f (n / 10) ++ last_digit n)) ≤ suc k
    go k u true e before = omega arith
    go zero u false e before = absurd (omega (arith, ltb-false n 10 e))
    go (suc k) u false e before = omega (arith, length-append (digits_by f (n / 10)) (last_digit n), before k (omega arith))

pub digits_most : (k n : ℕ) → n < unit (suc k) → length (digits n) ≤ suc k
unfolding digits
digits_most k n u = by_most k (suc n) n u

pub places_length : (k n : ℕ) → length (places k n) ≡ k
unfolding places
places_length zero n = refl
places_length (suc k) n = length-append (places k (n / 10)) (last_digit n) ∙ ap (λ (m : ℕ). m + 1) (places_length k (n / 10)) ∙ more k
  where
    more : (m : ℕ) → m + 1 ≡ suc m
    more m = omega arith

pub places_placed : (k r p n : ℕ) → r ≡ p + k → r ≡ p + length (places k n)
places_placed k r p n e = e ∙ ap (λ (m : ℕ). p + m) (sym (places_length k n))

pub places_told : (k r p n : ℕ) → r ≡ p + length (places k n) → r ≡ p + k
places_told k r p n e = e ∙ ap (λ (m : ℕ). p + m) (places_length k n)

pub size_length : (n : ℕ) → length (hundred_thousandths n) ≡ length (digits (n / 100_000)) + 6
unfolding hundred_thousandths
size_length n =
    omega (
      arith,
      length-append (digits (n / 100_000) ++ ascii ".") (places 5 (n % 100_000)),
      length-append (digits (n / 100_000)) (ascii "."),
      places_length 5 (n % 100_000),
    )

pub long_is : (k n : ℕ) → low k ≤ n / 100_000 → n / 100_000 < unit (suc k) → suc k + 6 ≡ length (hundred_thousandths n)
long_is k n l u = ap (λ (m : ℕ). m + 6) (sym (digits_length k (n / 100_000) l u)) ∙ sym (size_length n)

pub size_most : (n : ℕ) → n ≤ 2_147_483_648 → length (hundred_thousandths n) ≤ 11
size_most n h = omega (arith, size_length n, digits_most 4 (n / 100_000) (omega arith))

pub minus_most : (x : ℤ) → length (minus x) ≤ 1
minus_most (pos n) = omega arith
minus_most (negsuc n) = omega arith

pub decimal_most : (x : ℤ) → nat_abs x ≤ 2_147_483_648 → length (decimal x) ≤ 12
unfolding decimal
decimal_most x h = omega (arith, length-append (minus x) (hundred_thousandths (nat_abs x)), minus_most x, size_most (nat_abs x) h)

pub position_most : (q : I32Point) → nat_abs q.x ≤ 2_147_483_648 → nat_abs q.y ≤ 2_147_483_648 → length (position_text q) ≤ 27
unfolding position_text
position_most q h k =
    omega (
      arith,
      length-append (ascii "[" ++ decimal q.x ++ ascii "," ++ decimal q.y) (ascii "]"),
      length-append (ascii "[" ++ decimal q.x ++ ascii ",") (decimal q.y),
      length-append (ascii "[" ++ decimal q.x) (ascii ","),
      length-append (ascii "[") (decimal q.x),
      decimal_most q.x h,
      decimal_most q.y k,
    )
