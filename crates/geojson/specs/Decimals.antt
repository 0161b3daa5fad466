-- A whole number of hundred-thousandths as a decimal: document 02, "five decimals always".
-- Assumes nothing.
use Rattle.std.specs.Prelude.{ℕ, zero, suc, ◌+◌, ◌/◌, ◌%◌, cond, List, [], ◌∷◌, ◌++◌, ltb, ℤ, pos, negsuc, nat_abs}
use Rattle.geojson.specs.Ascii.{ascii}

-- the byte of the last digit of n; "0" is 48
abbrev pub last_digit : ℕ → List ℕ
last_digit n = (48 + n % 10) ∷ []

-- the digits of n, most significant first, with no zero before them; at most f of them, and f above n is enough
unfoldable pub digits_by : ℕ → ℕ → List ℕ
digits_by zero n = []
digits_by (suc f) n = cond (ltb n 10) (last_digit n) (digits_by f (n / 10) ++ last_digit n)

unfoldable pub digits : ℕ → List ℕ
digits n = digits_by (suc n) n

-- the last k digits of n, with the zeros before them
unfoldable pub places : ℕ → ℕ → List ℕ
places zero n = []
places (suc k) n = places k (n / 10) ++ last_digit n

-- n hundred-thousandths: the whole part, the point, five places
unfoldable pub hundred_thousandths : ℕ → List ℕ
hundred_thousandths n = digits (n / 100_000) ++ ascii "." ++ places 5 (n % 100_000)

-- a minus stands before a number below 0, and before no other
abbrev pub minus : ℤ → List ℕ
minus (pos n) = []
minus (negsuc n) = ascii "-"

unfoldable pub decimal : ℤ → List ℕ
decimal x = minus x ++ hundred_thousandths (nat_abs x)
