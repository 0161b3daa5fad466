-- The words of the demands on the exports that speak of numbers and bytes.
-- Assumes nothing.
use Rattle.std.specs.Prelude.{ℕ, ◌+◌, ◌≤◌, ◌<◌, ◌≡◌, List, ℤ, negsuc, get_or}
use Rattle.shapes.specs.Shapes.{Zone}
use Rattle.directories.specs.Directories.{directories}
use Rattle.tzb.specs.Opening.{opened_is}
use Rattle.shapes.specs.Layout.{zone_at}

-- the answer none: -1 (`negsuc k` is -1 - k)
abbrev pub none : ℤ
none = negsuc 0

-- the answer for refusal n: -1000 - n
abbrev pub refusing : ℕ → ℤ
refusing n = negsuc (999 + n)

-- the greatest number of a refusal: document 01's table goes from 1 to 47, and document 02's requests 2026-01, 2026-02 and 2026-04 add 48, 49 and 50
abbrev pub last_number : ℕ
last_number = 50

-- an answer that is a numbered refusal
pub record Refuses (r : ℤ) : Type 0 where
  pub number : ℕ
  pub least : 1 ≤ number
  pub greatest : number ≤ last_number
  pub tells : r ≡ refusing number

-- each number of the list is a byte, as each of a slice of u8 is: the type of the lent file says so
abbrev pub Bytes : List ℕ → Type 0
Bytes file = (i : ℕ) → get_or file i 0 < 256

-- the shape of a zone of a file: the points that the file's chunks decode to, by groups, rings and polygons
abbrev pub shape_of : List ℕ → ℕ → Zone
shape_of file zone = zone_at (directories (opened_is file) file) zone
