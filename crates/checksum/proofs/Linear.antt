-- The register's step is linear: so the bits that are to leave can be worked off apart, and a byte at a time.
-- Assumes nothing.
use mathlib.Core.Path.{◌≡◌, refl, sym, ap, ap₂, ◌∙◌}
use Prim.Native.Nat.{ℕ, zero, suc, ◌+◌, ◌*◌, ◌/◌, ◌%◌, ◌^◌, ◌≤◌, ◌<◌}
use native.Mathlib.Nat.{mod-lt, zero-lt-suc, not-suc-le-zero, le_of_suc-le-suc, div-eq_of_lt, mod-eq_of_lt}
use native.Mathlib.Numerals.{add-one}
use native.Mathlib.Omega.{arith}
use lib.Bits.{bit_xor, differ, xor_shifted, xor_self, xor_zero_r, shifted_half, shifted_even, xor_shr, xor_comm}
use lib.Pow.{split, pow_pos}
use mathlib.Core.List.{List, [], ◌∷◌, ◌++◌}
use lib.ListN.{length, get_or, take, drop, take-append-drop}
use lib.Seq.{drop-cons, drop-length, drop-drop, take-add}
use Rattle.fields.specs.Le.{le}
use Rattle.fields.specs.Stores.{unit}
use Rattle.checksum.specs.Crc32.{tap, step, steps, bytes}
use Rattle.checksum.proofs.Xor.{xor_assoc, xor4, xor_half, xor_odd}

tap_linear : (x y : ℕ) → x < 2 → y < 2 → tap (differ x y) ≡ bit_xor (tap x) (tap y)
tap_linear zero y hx hy = refl
tap_linear (suc zero) zero hx hy = sym (xor_zero_r (tap 1))
tap_linear (suc zero) (suc zero) hx hy = sym (xor_self (tap 1))
tap_linear (suc zero) (suc (suc y)) hx hy = absurd (not-suc-le-zero (le_of_suc-le-suc (le_of_suc-le-suc hy)))
tap_linear (suc (suc x)) y hx hy = absurd (not-suc-le-zero (le_of_suc-le-suc (le_of_suc-le-suc hx)))

pub step_linear : (a b : ℕ) → step (bit_xor a b) ≡ bit_xor (step a) (step b)
unfolding step
step_linear a b =
    ap₂ (λ (x y : ℕ). bit_xor (tap x) y) (xor_odd a b) (xor_half a b)
    ∙ ap (λ (x : ℕ). bit_xor x (bit_xor (a / 2) (b / 2))) (tap_linear (a % 2) (b % 2) (mod-lt a (zero-lt-suc 1)) (mod-lt b (zero-lt-suc 1)))
    ∙ xor4 (tap (a % 2)) (tap (b % 2)) (a / 2) (b / 2)

pub steps_linear : (n a b : ℕ) → steps n (bit_xor a b) ≡ bit_xor (steps n a) (steps n b)
unfolding steps
steps_linear zero a b = refl
steps_linear (suc n) a b = ap (steps n) (step_linear a b) ∙ steps_linear n (step a) (step b)

pub steps_add : (m n c : ℕ) → steps (m + n) c ≡ steps n (steps m c)
unfolding steps
steps_add zero n c = simp native.Mathlib.Nat.zero-add
steps_add (suc m) n c = simp native.Mathlib.Nat.suc-add (steps_add m n (step c))

-- bits that are 0 leave nothing behind
pub steps_shifted : (n a : ℕ) → steps n (a * 2 ^ n) ≡ a
unfolding steps step
steps_shifted zero a = native.Mathlib.Nat.mul-one a
steps_shifted (suc n) a =
    ap (steps n) (ap₂ (λ (x y : ℕ). bit_xor (tap x) y) (shifted_even a n) (shifted_half a n)) ∙ steps_shifted n a

-- n bits leave: those apart from the rest, which only moves down
pub steps_split : (n c : ℕ) → steps n c ≡ bit_xor (c / 2 ^ n) (steps n (c % 2 ^ n))
steps_split n c =
    ap (steps n) (sym (split c n) ∙ sym (xor_shifted (c / 2 ^ n) n (c % 2 ^ n) (mod-lt c (pow_pos n))))
    ∙ steps_linear n (c / 2 ^ n * 2 ^ n) (c % 2 ^ n)
    ∙ ap (λ (x : ℕ). bit_xor x (steps n (c % 2 ^ n))) (steps_shifted n (c / 2 ^ n))

-- a byte at a time
pub byte_step : (c b : ℕ) → b < 256 → steps 8 (bit_xor c b) ≡ bit_xor (c / 256) (steps 8 (bit_xor c b % 256))
byte_step c b h =
    steps_split 8 (bit_xor c b)
    ∙ ap (λ (x : ℕ). bit_xor x (steps 8 (bit_xor c b % 256))) (xor_shr c b 8 ∙ ap (bit_xor (c / 256)) (div-eq_of_lt h) ∙ xor_zero_r (c / 256))

pub bytes_at_law : (c : ℕ) (s : List ℕ) (i : ℕ) → i < length s → bytes c (drop i s) ≡ bytes (steps 8 (bit_xor c (get_or s i 0))) (drop (i + 1) s)
unfolding bytes
bytes_at_law c s i h = ap (bytes c) (drop-cons s i 0 h) ∙ ap (λ (k : ℕ). bytes (steps 8 (bit_xor c (get_or s i 0))) (drop k s)) (sym (add-one i))

pub bytes_end : (c : ℕ) (s : List ℕ) (i : ℕ) → i ≡ length s → bytes c (drop i s) ≡ c
unfolding bytes
bytes_end c s i e = ap (λ (k : ℕ). bytes c (drop k s)) e ∙ ap (bytes c) (drop-length s)

-- ---- several bytes at a time

-- what is added above the next byte is there when that byte has left
pub feed : (c b l : ℕ) → b < 256 → steps 8 (bit_xor c (b + 256 * l)) ≡ bit_xor (steps 8 (bit_xor c b)) l
feed c b l h =
    ap (λ (x : ℕ). steps 8 (bit_xor c x)) (above ∙ sym (xor_shifted l 8 b h) ∙ xor_comm (l * 2 ^ 8) b)
    ∙ ap (steps 8) (sym (xor_assoc c b (l * 2 ^ 8)))
    ∙ steps_linear 8 (bit_xor c b) (l * 2 ^ 8)
    ∙ ap (bit_xor (steps 8 (bit_xor c b))) (steps_shifted 8 l)
  where
    above : b + 256 * l ≡ l * 256 + b
    above = omega arith

-- n bytes, added at once
pub word : (n c : ℕ) (s : List ℕ) (p : ℕ) → ((i : ℕ) → get_or s i 0 < 256) → p + n ≤ length s
    → bytes c (take n (drop p s)) ≡ steps (8 * n) (bit_xor c (le n s p))
unfolding bytes steps le
word zero c s p h f = sym (xor_zero_r c)
word (suc n) c s p h f =
    ap (λ (l : List ℕ). bytes c (take (suc n) l)) (drop-cons s p 0 (omega arith))
    ∙ ap (λ (k : ℕ). bytes (steps 8 (bit_xor c (get_or s p 0))) (take n (drop k s))) (sym (add-one p))
    ∙ word n (steps 8 (bit_xor c (get_or s p 0))) s (p + 1) h (omega arith)
    ∙ ap (steps (8 * n)) (sym (feed c (get_or s p 0) (le n s (p + 1)) (h p)))
    ∙ sym (steps_add 8 (8 * n) (bit_xor c (le (suc n) s p)))
    ∙ ap (λ (k : ℕ). steps k (bit_xor c (le (suc n) s p))) more
  where
    more : 8 + 8 * n ≡ 8 * suc n
    more = omega arith

-- the lowest byte of several leaves apart from the rest
pub peel : (n v : ℕ) → steps (8 + n) v ≡ bit_xor (steps (8 + n) (v % 256)) (steps n (v / 256))
peel n v =
    ap (steps (8 + n)) (sym (split v 8) ∙ sym (xor_shifted (v / 256) 8 (v % 256) (mod-lt v (pow_pos 8))) ∙ xor_comm (v / 256 * 256) (v % 256))
    ∙ steps_linear (8 + n) (v % 256) (v / 256 * 256)
    ∙ ap (bit_xor (steps (8 + n) (v % 256))) (steps_add 8 n (v / 256 * 256) ∙ ap (steps n) (steps_shifted 8 (v / 256)))

pub bytes_append : (c : ℕ) (a b : List ℕ) → bytes c (a ++ b) ≡ bytes (bytes c a) b
unfolding bytes
bytes_append c [] b = refl
bytes_append c (x ∷ a) b = bytes_append (steps 8 (bit_xor c x)) a b

pub bytes_by : (c n : ℕ) (s : List ℕ) (i : ℕ) → bytes c (drop i s) ≡ bytes (bytes c (take n (drop i s))) (drop (i + n) s)
bytes_by c n s i =
    ap (bytes c) (sym (take-append-drop n (drop i s))) ∙ bytes_append c (take n (drop i s)) (drop n (drop i s))
    ∙ ap (bytes (bytes c (take n (drop i s)))) (drop-drop n i s)

-- m bytes and then n more: those behind leave apart
pub two_words : (m n c : ℕ) (s : List ℕ) (p : ℕ) → ((i : ℕ) → get_or s i 0 < 256) → p + m + n ≤ length s
    → bytes c (take (m + n) (drop p s)) ≡ bit_xor (steps (8 * m + 8 * n) (bit_xor c (le m s p))) (steps (8 * n) (le n s (p + m)))
two_words m n c s p h f =
    ap (bytes c) (take-add m n (drop p s) ∙ ap (λ (l : List ℕ). take m (drop p s) ++ take n l) (drop-drop m p s))
    ∙ bytes_append c (take m (drop p s)) (take n (drop (p + m) s))
    ∙ word n (bytes c (take m (drop p s))) s (p + m) h f
    ∙ ap (λ (x : ℕ). steps (8 * n) (bit_xor x (le n s (p + m)))) (word m c s p h (omega arith))
    ∙ steps_linear (8 * n) (steps (8 * m) (bit_xor c (le m s p))) (le n s (p + m))
    ∙ ap (λ (x : ℕ). bit_xor x (steps (8 * n) (le n s (p + m)))) (sym (steps_add (8 * m) (8 * n) (bit_xor c (le m s p))))

-- a number of n + 1 bytes with k more to come, each byte of which leaves apart
abbrev pub sliced : ℕ → ℕ → ℕ → ℕ
sliced k zero v = steps (8 * (k + 1)) (v % 256)
sliced k (suc n) v = bit_xor (steps (8 * (k + suc n + 1)) (v % 256)) (sliced k n (v / 256))

pub slices : (k n v : ℕ) → v < unit (suc n) → steps (8 * (k + (n + 1))) v ≡ sliced k n v
slices k zero v h = ap (steps (8 * (k + 1))) (sym (mod-eq_of_lt (omega arith)))
slices k (suc n) v h =
    let e : 8 * (k + (suc n + 1)) ≡ 8 + 8 * (k + (n + 1)) = omega arith in
    let d : 8 + 8 * (k + (n + 1)) ≡ 8 * (k + suc n + 1) = omega arith in
    ap (λ (j : ℕ). steps j v) e ∙ peel (8 * (k + (n + 1))) v
    ∙ ap₂ bit_xor (ap (λ (j : ℕ). steps j (v % 256)) d) (slices k n (v / 256) (omega arith))
