-- The register, fed bit by bit, holds what long division leaves: so `crc32` is the standard's number.
-- Assumes nothing.
use mathlib.Core.Path.{◌≡◌, refl, sym, ap, ap₂, ◌∙◌, subst}
use mathlib.Core.Bool.{Bool, true, false, not}
use mathlib.Core.List.{List, [], ◌∷◌, ◌++◌}
use Prim.Native.Nat.{ℕ, zero, suc, ◌+◌, ◌*◌, ◌/◌, ◌%◌, ◌^◌, ◌≤◌, ◌<◌}
use native.Mathlib.Nat.{le_of_suc-le-suc, not-suc-le-zero, zero-add, pow-suc}
use native.Mathlib.Omega.{arith}
use lib.Arith.{digits_div, digits_mod}
use lib.Bits.{bit_xor, xor_block, xor_comm, xor_shifted, xor_zero_r}
use lib.Dec.{eqb}
use lib.ListN.{length, get_or, replicate, length-replicate, length-append}
use Rattle.basics.specs.Parity.{◌⊻◌}
use Rattle.checksum.specs.Crc32.{tap, step, steps, bytes, crc32}
use Rattle.checksum.specs.Ieee8023.{zeros, ◌⊕◌, times, Remainder, divided, has_power, sum_of, generator, bits, message, complement, complement_first, dividend, digit, number, ieee8023}
use Rattle.checksum.proofs.Xor.{xor_assoc}
use Rattle.checksum.proofs.Linear.{step_linear, steps_shifted}
use Rattle.checksum.proofs.Division.{plus_none, plus_assoc, plus_length, plus_longer, plus_zeros, times_length, line_is, division_remainder, divided_length, remainder_unique}

-- ---- sums of bits are sums of numbers

digit_lt : (a : Bool) → digit a < 2
digit_lt true = omega arith
digit_lt false = omega arith

digit_xor : (a b : Bool) → digit (a ⊻ b) ≡ bit_xor (digit a) (digit b)
digit_xor true true = refl
digit_xor true false = refl
digit_xor false b = refl

number_xor : (p q : List Bool) → number (p ⊕ q) ≡ bit_xor (number p) (number q)
unfolding ◌⊕◌ number
number_xor [] q = refl
number_xor (a ∷ p) [] = sym (xor_zero_r (number (a ∷ p)))
number_xor (a ∷ p) (b ∷ q) =
    ap₂ (λ (x y : ℕ). x * 2 + y) (number_xor p q) (digit_xor a b)
    ∙ sym (xor_block 1 (number p) (number q) (digit a) (digit b) (digit_lt a) (digit_lt b))

number_zeros : (n : ℕ) → number (zeros n) ≡ 0
unfolding number
number_zeros zero = refl
number_zeros (suc n) = ap (λ (x : ℕ). x * 2 + 0) (number_zeros n)

-- ---- the generator: 1, and below it what the register adds

lower : List Bool
lower = lib.ListN.drop 1 generator

generator_is : generator ≡ true ∷ lower
unfolding lower generator sum_of has_power
generator_is = refl

lower_length : length lower ≡ 32
unfolding lower generator sum_of has_power
lower_length = refl

lower_number : number lower ≡ 0xedb8_8320
unfolding lower generator sum_of has_power number
lower_number = refl

times_tap : (a : Bool) → number (times a lower) ≡ tap (digit a)
unfolding times
times_tap true = lower_number
times_tap false = number_zeros (length lower)

-- ---- bit by bit

feed : ℕ → List Bool → ℕ
feed c [] = c
feed c (b ∷ m) = feed (step (bit_xor c (digit b))) m

-- the first coefficient a of the rest leaves
step_line : (a : Bool) (c : List Bool) → number (times a lower ⊕ c) ≡ step (number (a ∷ c))
unfolding step number
step_line a c =
    number_xor (times a lower) c
    ∙ ap₂ bit_xor (times_tap a ∙ ap tap (sym (digits_mod (number c) (digit_lt a)))) (sym (digits_div (number c) (digit_lt a)))

-- a bit of the message is added as it leaves
meet : (a b : Bool) (c : List Bool) → number ((a ⊻ b) ∷ c) ≡ bit_xor (number (a ∷ c)) (digit b)
unfolding ◌⊕◌ number
meet a b c = ap (λ (x : List Bool). number ((a ⊻ b) ∷ x)) (sym (plus_none c)) ∙ number_xor (a ∷ c) (b ∷ []) ∙ ap (bit_xor (number (a ∷ c))) (zero-add (digit b))

-- long division of a message whose first coefficients have the register added
fed : (m c : List Bool) → length c ≡ 32 → number (divided (true ∷ lower) (length m) (c ⊕ (m ++ zeros 32))) ≡ feed (number c) m
unfolding feed divided ◌⊕◌
fed [] c e = ap number (plus_zeros 32 c (omega arith))
fed (b ∷ m) [] e = absurd (omega arith)
fed (b ∷ m) (a ∷ c) e =
    let k = lower_length in
    let t = times_length (a ⊻ b) lower in
    ap (λ (x : List Bool). number (divided (true ∷ lower) (length m) x))
    (line_is lower (a ⊻ b) (c ⊕ (m ++ zeros 32)) ∙ sym (plus_assoc (times (a ⊻ b) lower) c (m ++ zeros 32)))
    ∙ fed m (times (a ⊻ b) lower ⊕ c) (plus_longer (times (a ⊻ b) lower) c (omega arith) ∙ t ∙ k)
    ∙ ap (λ (x : ℕ). feed x m) (step_line (a ⊻ b) c ∙ ap step (meet a b c))

-- ---- byte by byte

-- what is added above the next bit is there when that bit has left
above : (c d l : ℕ) → d < 2 → step (bit_xor c (l * 2 + d)) ≡ bit_xor (step (bit_xor c d)) l
unfolding steps
above c d l h =
    ap (λ (x : ℕ). step (bit_xor c x)) (sym (xor_shifted l 1 d h) ∙ xor_comm (l * 2) d)
    ∙ ap step (sym (xor_assoc c d (l * 2)))
    ∙ step_linear (bit_xor c d) (l * 2)
    ∙ ap (bit_xor (step (bit_xor c d))) (steps_shifted 1 l)

feed_steps : (m : List Bool) (c : ℕ) → feed c m ≡ steps (length m) (bit_xor c (number m))
unfolding feed steps number
feed_steps [] c = sym (xor_zero_r c)
feed_steps (b ∷ m) c =
    feed_steps m (step (bit_xor c (digit b))) ∙ ap (steps (length m)) (sym (above c (digit b) (number m) (digit_lt b)))

feed_append : (m n : List Bool) (c : ℕ) → feed c (m ++ n) ≡ feed (feed c m) n
unfolding feed
feed_append [] n c = refl
feed_append (b ∷ m) n c = feed_append m n (step (bit_xor c (digit b)))

digit_odd : (d : ℕ) → d < 2 → digit (eqb d 1) ≡ d
digit_odd zero h = refl
digit_odd (suc zero) h = refl
digit_odd (suc (suc d)) h = absurd (omega arith)

bits_number : (n b : ℕ) → b < 2 ^ n → number (bits n b) ≡ b
unfolding bits number
bits_number zero b h = omega arith
bits_number (suc n) b h =
    let e = pow-suc 2 n in
    ap₂ (λ (x y : ℕ). x * 2 + y) (bits_number n (b / 2) (omega arith)) (digit_odd (b % 2) (omega arith)) ∙ omega arith

bytes_fed : (s : List ℕ) (c : ℕ) → ((i : ℕ) → get_or s i 0 < 256) → bytes c s ≡ feed c (message s)
unfolding bytes message bits feed
bytes_fed [] c h = refl
bytes_fed (b ∷ s) c h =
    bytes_fed s (steps 8 (bit_xor c b)) (λ i. h (suc i))
    ∙ ap (λ (x : ℕ). feed x (message s)) (ap (λ (x : ℕ). steps 8 (bit_xor c x)) (sym (bits_number 8 b (h 0))) ∙ sym (feed_steps (bits 8 b) c))
    ∙ sym (feed_append (bits 8 b) (message s) c)

-- ---- complements

ones : ℕ → List Bool
ones n = replicate n true

complement_is : (p : List Bool) → complement p ≡ ones (length p) ⊕ p
unfolding complement ◌⊕◌ ones
complement_is [] = refl
complement_is (a ∷ p) = ap (λ (x : List Bool). not a ∷ x) (complement_is p)

complement_number : (p : List Bool) → length p ≡ 32 → number (complement p) ≡ bit_xor (number p) 0xffff_ffff
unfolding ones number
complement_number p e =
    ap number (complement_is p ∙ ap (λ (n : ℕ). ones n ⊕ p) e) ∙ number_xor (ones 32) p ∙ xor_comm (number (ones 32)) (number p)

complement_first_is : (n : ℕ) (p : List Bool) → n ≤ length p → complement_first n p ≡ ones n ⊕ p
unfolding complement_first ◌⊕◌ ones
complement_first_is zero p h = refl
complement_first_is (suc n) [] h = absurd (not-suc-le-zero h)
complement_first_is (suc n) (a ∷ p) h = ap (λ (x : List Bool). not a ∷ x) (complement_first_is n p (le_of_suc-le-suc h))

-- in a message that is long enough, the first bits of the product are those of the message
pub complement_message : (n : ℕ) (m z : List Bool) → n ≤ length m → complement_first n (m ++ z) ≡ complement_first n m ++ z
unfolding complement_first
complement_message zero m z h = refl
complement_message (suc n) [] z h = absurd (not-suc-le-zero h)
complement_message (suc n) (a ∷ m) z h = ap (λ (x : List Bool). not a ∷ x) (complement_message n m z (le_of_suc-le-suc h))

-- ---- the theorem

module _ (s : List ℕ) (byte : (i : ℕ) → get_or s i 0 < 256) where
  product_length : length (message s ++ zeros 32) ≡ length (message s) + 32
  product_length = length-append (message s) (zeros 32) ∙ ap (λ (n : ℕ). length (message s) + n) (length-replicate 32 false)

  dividend_is : dividend s ≡ ones 32 ⊕ (message s ++ zeros 32)
  unfolding dividend
  dividend_is = let l = product_length in complement_first_is 32 (message s ++ zeros 32) (omega arith)

  dividend_length : length (dividend s) ≡ length (message s) + length lower
  unfolding ones
  dividend_length =
      let l = product_length in
      ap length dividend_is ∙ plus_length (ones 32) (message s ++ zeros 32) (omega (arith, length-replicate 32 true)) ∙ l ∙ ap (λ (n : ℕ). length (message s) + n) (sym lower_length)

  left : List Bool
  left = divided (true ∷ lower) (length (message s)) (dividend s)

  register : number left ≡ bytes 0xffff_ffff s
  unfolding left ones number
  register =
      ap (λ (p : List Bool). number (divided (true ∷ lower) (length (message s)) p)) dividend_is
      ∙ fed (message s) (ones 32) refl ∙ sym (bytes_fed s 0xffff_ffff byte)

  left_length : length left ≡ 32
  unfolding left
  left_length = divided_length lower (length (message s)) (dividend s) dividend_length ∙ lower_length

  left_crc : crc32 s ≡ number (complement left)
  unfolding crc32
  left_crc = ap (λ (x : ℕ). bit_xor x 0xffff_ffff) (sym register) ∙ sym (complement_number left left_length)

  -- the register's number is the standard's, by long division
  pub crc32_is_ieee : crc32 s ≡ ieee8023 s
  unfolding ieee8023 left
  crc32_is_ieee = left_crc ∙ ap (λ (g : List Bool). number (complement (divided g (length (message s)) (dividend s)))) (sym generator_is)

  -- long division leaves a remainder
  pub ieee_remainder : Remainder (dividend s) generator (divided generator (length (message s)) (dividend s))
  ieee_remainder =
      subst (λ (g : List Bool). Remainder (dividend s) g (divided g (length (message s)) (dividend s))) (sym generator_is)
      (division_remainder lower (length (message s)) (dividend s) dividend_length)

  -- and whatever is a remainder of that division, found in any way, gives the register's number
  pub crc32_is_remainder : (r : List Bool) → Remainder (dividend s) generator r → crc32 s ≡ number (complement r)
  unfolding left
  crc32_is_remainder r x =
      left_crc
      ∙ ap (λ (p : List Bool). number (complement p))
      (remainder_unique lower (dividend s) left r (division_remainder lower (length (message s)) (dividend s) dividend_length)
      (subst (λ (g : List Bool). Remainder (dividend s) g r) generator_is x))
