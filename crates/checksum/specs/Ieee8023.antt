-- CRC-32 in the words of IEEE 802.3, clause 3.2.9: the remainder of a division of polynomials whose coefficients are 0 and 1.
-- Assumes nothing.
use Rattle.std.specs.Prelude.{ℕ, zero, suc, ◌+◌, ◌*◌, ◌/◌, ◌%◌, Bool, true, false, not, ◌||◌, List, [], ◌∷◌, ◌++◌, ◌≡◌, eqb, length, drop, replicate}
use Rattle.basics.specs.Parity.{◌⊻◌}

-- ---- polynomials: the list of the coefficients, highest power first

-- n coefficients 0
abbrev pub zeros : ℕ → List Bool
zeros n = replicate n false

-- the sum of two that are written from the same power on; where one ends, the other goes on
infixl 30 ◌⊕◌
unfoldable pub ◌⊕◌ : List Bool → List Bool → List Bool
[] ⊕ q = q
(a ∷ p) ⊕ [] = a ∷ p
(a ∷ p) ⊕ (b ∷ q) = (a ⊻ b) ∷ (p ⊕ q)

-- a coefficient times a polynomial
unfoldable pub times : Bool → List Bool → List Bool
times true p = p
times false p = zeros (length p)

-- the product: g times each coefficient of q, each one place below the one before it
unfoldable pub product : List Bool → List Bool → List Bool
product [] g = []
product (a ∷ q) g = times a g ⊕ (false ∷ product q g)

-- r is the remainder of p divided by g: p = quotient · g + r, and the degree of r is below that of g. As r ends with p, at the power 0,
-- it stands behind as many zeros as the quotient has coefficients
pub record Remainder (p g r : List Bool) : Type 0 where
  pub quotient : List Bool
  pub whole : p ≡ product quotient g ⊕ (zeros (length quotient) ++ r)
  pub below : length r + 1 ≡ length g

-- long division by a g that begins with 1. In a line, g times the first coefficient is taken off, and that coefficient is then 0 and drops out
unfoldable pub line : List Bool → List Bool → List Bool
line g [] = []
line g (a ∷ p) = drop 1 (times a g ⊕ (a ∷ p))

-- what is left after n lines
unfoldable pub divided : List Bool → ℕ → List Bool → List Bool
divided g zero p = p
divided g (suc n) p = divided g n (line g p)

-- ---- the standard's procedure

-- whether x^n is among powers
unfoldable pub has_power : ℕ → List ℕ → Bool
has_power n [] = false
has_power n (e ∷ es) = eqb n e || has_power n es

-- the coefficients, from that of x^n down to that of x^0, of a sum of powers
unfoldable pub sum_of : ℕ → List ℕ → List Bool
sum_of zero es = has_power zero es ∷ []
sum_of (suc n) es = has_power (suc n) es ∷ sum_of n es

-- G(x) = x^32 + x^26 + x^23 + x^22 + x^16 + x^12 + x^11 + x^10 + x^8 + x^7 + x^5 + x^4 + x^2 + x + 1
unfoldable pub generator : List Bool
generator = sum_of 32 (32 ∷ 26 ∷ 23 ∷ 22 ∷ 16 ∷ 12 ∷ 11 ∷ 10 ∷ 8 ∷ 7 ∷ 5 ∷ 4 ∷ 2 ∷ 1 ∷ 0 ∷ [])

-- the n bits of a number in the order in which they are sent: the least significant first
unfoldable pub bits : ℕ → ℕ → List Bool
bits zero b = []
bits (suc n) b = eqb (b % 2) 1 ∷ bits n (b / 2)

-- the bits of a message, in that order: the first is the coefficient of the highest power
unfoldable pub message : List ℕ → List Bool
message [] = []
message (b ∷ bs) = bits 8 b ++ message bs

unfoldable pub complement : List Bool → List Bool
complement [] = []
complement (a ∷ p) = not a ∷ complement p

-- the first n coefficients complemented
unfoldable pub complement_first : ℕ → List Bool → List Bool
complement_first zero p = p
complement_first (suc n) [] = []
complement_first (suc n) (a ∷ p) = not a ∷ complement_first n p

-- M(x) times x^32, with the first 32 bits of M complemented. A message of fewer than 32 bits is not one of the standard's: there, as
-- is the custom, the first 32 coefficients of the product are complemented. For any other it is the same (`complement_message`)
unfoldable pub dividend : List ℕ → List Bool
dividend s = complement_first 32 (message s ++ zeros 32)

-- the number that bits make, the least significant sent first
abbrev pub digit : Bool → ℕ
digit true = 1
digit false = 0

unfoldable pub number : List Bool → ℕ
number [] = 0
number (a ∷ p) = number p * 2 + digit a

-- R(x), its 32 coefficients complemented, and sent from that of x^31 down to that of x^0
unfoldable pub ieee8023 : List ℕ → ℕ
ieee8023 s = number (complement (divided generator (length (message s)) (dividend s)))
