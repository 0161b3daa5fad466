-- Digits laid one by one, the first one first: before each turn the first k of them stand. And how many digits a number has.
-- Assumes nothing.
use Prim.Native.Nat.{ℕ, zero, suc, ◌+◌, ◌-◌, ◌*◌, ◌/◌, ◌%◌, ◌^◌, ◌≤◌, ◌<◌}
use native.Mathlib.Nat.{pow-suc, div-one, div-div-eq-div-mul}
use native.Mathlib.Numerals.{add-one}
use native.Mathlib.Omega.{arith}
use mathlib.Core.Path.{◌≡◌, refl, sym, ap, ◌∙◌}
use mathlib.Core.List.{List, [], ◌∷◌, ◌++◌}
use lib.ListN.{length, get_or}
use Rattle.answer.specs.Over.{over}
use Rattle.answer.proofs.OverLaws.{wrote, being, ◌behind◌}
use Rattle.geojson.specs.Decimals.{last_digit, digits, places}
use Rattle.geojson.proofs.Back.{unit}
use Rattle.geojson.proofs.Lengths.{low, digits_one, digits_more, places_placed}

-- the powers of ten that a digit is divided out by
pub tens_is : (i : ℕ) → i < 5 → get_or (1 ∷ 10 ∷ 100 ∷ 1_000 ∷ 10_000 ∷ []) i 0 ≡ 10 ^ i
tens_is zero h = refl
tens_is (suc zero) h = refl
tens_is (suc (suc zero)) h = refl
tens_is (suc (suc (suc zero))) h = refl
tens_is (suc (suc (suc (suc zero)))) h = refl
tens_is (suc (suc (suc (suc (suc i))))) h = absurd (omega arith)

-- the next of the last j digits of n
next_place : (j k n : ℕ) → k < j → places (k + 1) (n / 10 ^ (j - (k + 1))) ≡ places k (n / 10 ^ (j - k)) ++ last_digit (n / 10 ^ (j - (k + 1)))
unfolding places
next_place j k n h =
    let m = j - (k + 1) in
    let e : suc m ≡ j - k = omega arith in
    let power : 10 ^ m * 10 ≡ 10 ^ (j - k) = sym (pow-suc 10 m) ∙ ap (λ (i : ℕ). 10 ^ i) e in
    ap (λ (i : ℕ). places i (n / 10 ^ m)) (add-one k)
    ∙ ap (λ (x : ℕ). places k x ++ last_digit (n / 10 ^ m)) (div-div-eq-div-mul n (10 ^ m) 10 ∙ ap (λ (d : ℕ). n / d) power)

pub place_on : (s : List ℕ) (p j k n d : ℕ) (out after : List ℕ) → k < j → d ≡ 10 ^ (j - 1 - k) → out ≡ over s p (places k (n / 10 ^ (j - k)))
    → after ≡ over out (p + k) ((48 + n / d % 10) ∷ []) → after ≡ over s p (places (k + 1) (n / 10 ^ (j - (k + 1))))
place_on s p j k n d out after h e f g =
    let i : j - 1 - k ≡ j - (k + 1) = omega arith in
    let g' : after ≡ over out (p + k) (last_digit (n / 10 ^ (j - (k + 1)))) = g ∙ ap (λ (x : ℕ). over out (p + k) (last_digit (n / x))) (e ∙ ap (λ (y : ℕ). 10 ^ y) i) in
    let w = being (sym (next_place j k n h)) (wrote (places_placed k (p + k) p (n / 10 ^ (j - k)) refl) f behind wrote refl g') in
    w.is

-- all of them
pub place_end : (j k n : ℕ) → k ≡ j → places k (n / 10 ^ (j - k)) ≡ places j n
place_end j k n e =
    let z : j - k ≡ 0 = omega arith in
    rw (z, e) (ap (places j) (div-one n))

-- a number that has k + 1 digits
low_tenth : (k n : ℕ) → unit (suc k) ≤ n → low k ≤ n / 10
low_tenth zero n h = omega arith
low_tenth (suc k) n h = omega arith

pub digits_places : (k n : ℕ) → low k ≤ n → n < unit (suc k) → places (suc k) n ≡ digits n
unfolding places
digits_places zero n l u = digits_one n (omega arith)
digits_places (suc k) n l u =
    ap (λ (d : List ℕ). d ++ last_digit n) (digits_places k (n / 10) (low_tenth k n l) (omega arith))
    ∙ digits_more n (omega arith)

pub digits_laid : (k n : ℕ) → low k ≤ n → n < unit (suc k) → (s after : List ℕ) (p r : ℕ) → r ≡ p + suc k → after ≡ over s p (places (suc k) n)
    → (r ≡ p + length (digits n)) × (after ≡ over s p (digits n))
digits_laid k n l u s after p r e f =
    let w = being (digits_places k n l u) (wrote (places_placed (suc k) r p n e) f) in
    (w.next, w.is)
