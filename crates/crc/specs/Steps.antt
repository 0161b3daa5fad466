-- Nothing here need be believed: the code's own steps cite it, and no public promise does.
-- Assumes nothing.
use Rattle.std.specs.Prelude.{ℕ, ◌≤◌, ◌<◌, List, ◌≡◌, length, get_or}
use Rattle.checksum.specs.Crc32.{steps}

-- the first table's rule, at its first n entries, where there is room for it
pub record First (t : List ℕ) (n : ℕ) : Type 0 where
  pub room : 256 ≤ length t
  pub at : (j : ℕ) → j < n → get_or t j 0 ≡ steps 8 j
