-- Bytes laid into lent memory, and a number as bytes, least significant first.
-- Assumes nothing.
use Rattle.std.specs.Prelude.{ℕ, zero, suc, ◌+◌, ◌*◌, ◌≤◌, ◌/◌, ◌%◌, ◌≡◌, List, [], ◌∷◌, ◌++◌, length, take, drop}

-- the n bytes of a number
abbrev pub to_le : ℕ → ℕ → List ℕ
to_le zero x = []
to_le (suc n) x = x % 256 ∷ to_le n (x / 256)

-- 256 ^ n, by one factor after the other: the numbers below it are those that n bytes can hold
abbrev pub unit : ℕ → ℕ
unit zero = 1
unit (suc n) = 256 * unit n

-- the bytes l in place of those from p on; what lies before and behind is unchanged
unfoldable pub laid : List ℕ → ℕ → List ℕ → List ℕ
laid s p l = take p s ++ l ++ drop (p + length l) s

-- memory after that, where there was room
pub record Laid (s : List ℕ) (p : ℕ) (l : List ℕ) (after : List ℕ) : Type 0 where
  pub room : p + length l ≤ length s
  pub is : after ≡ laid s p l
  pub long : length after ≡ length s
