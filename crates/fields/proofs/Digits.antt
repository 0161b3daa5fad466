-- `le` is what little_endian means: of the n bytes of a number it gives the number back, wherever they stand; and of n bytes the number has those bytes.
-- Assumes nothing.
use mathlib.Core.Path.{◌≡◌, refl, sym, ap, ap₂, ◌∙◌}
use mathlib.Core.List.{List, ◌∷◌, ◌++◌}
use Prim.Native.Nat.{ℕ, zero, suc, ◌+◌, ◌*◌, ◌≤◌, ◌<◌, ◌/◌, ◌%◌}
use native.Mathlib.Numerals.{add-one}
use native.Mathlib.Omega.{arith}
use lib.ListN.{length, take, drop, get_or}
use lib.Seq.{get_or-append-add, drop-cons}
use Rattle.fields.specs.Le.{le}
use Rattle.fields.specs.Stores.{to_le, unit}

-- one byte further on
later : (n b : ℕ) (s : List ℕ) (p : ℕ) → le n (b ∷ s) (p + 1) ≡ le n s p
unfolding le
later zero b s p = refl
later (suc n) b s p = rw (later n b s (p + 1)) (ap (λ (k : ℕ). get_or (b ∷ s) k 0 + 256 * le n s (p + 1)) (add-one p))

-- a number below 256 ^ n
pub little_endian : (n x : ℕ) (rest : List ℕ) → x < unit n → le n (to_le n x ++ rest) 0 ≡ x
unfolding le
little_endian zero x rest h = omega arith
little_endian (suc n) x rest h =
    let f = later n (x % 256) (to_le n (x / 256) ++ rest) 0 in
    let g = little_endian n (x / 256) rest (omega arith) in
    omega arith

-- what stands behind a
le_past : (n : ℕ) (a s : List ℕ) (p : ℕ) → le n (a ++ s) (length a + p) ≡ le n s p
unfolding le
le_past zero a s p = refl
le_past (suc n) a s p =
    let next : length a + p + 1 ≡ length a + (p + 1) = omega arith in
    ap₂ (λ (x y : ℕ). x + 256 * y) (get_or-append-add a s p 0) (ap (le n (a ++ s)) next ∙ le_past n a s (p + 1))

pub number_back : (n x : ℕ) (a rest : List ℕ) → x < unit n → le n (a ++ (to_le n x ++ rest)) (length a) ≡ x
number_back n x a rest h =
    let here : length a + 0 ≡ length a = omega arith in
    ap (le n (a ++ (to_le n x ++ rest))) (sym here) ∙ le_past n a (to_le n x ++ rest) 0 ∙ little_endian n x rest h

-- the bytes of the number of n bytes are those bytes
module _ (s : List ℕ) (byte : (i : ℕ) → get_or s i 0 < 256) where
  pub bytes_again : (n p : ℕ) → p + n ≤ length s → to_le n (le n s p) ≡ take n (drop p s)
  unfolding le
  bytes_again zero p h = refl
  bytes_again (suc n) p h =
      let x = get_or s p 0 in
      let small = byte p in
      let y = le n s (p + 1) in
      let low : (x + 256 * y) % 256 ≡ x = omega arith in
      let high : (x + 256 * y) / 256 ≡ y = omega arith in
      ap₂ (λ (b : ℕ) (z : ℕ). b ∷ to_le n z) low high
      ∙ ap (λ (l : List ℕ). x ∷ l) (bytes_again n (p + 1) (omega arith) ∙ ap (λ (k : ℕ). take n (drop k s)) (add-one p))
      ∙ sym (ap (take (suc n)) (drop-cons s p 0 (omega arith)))
