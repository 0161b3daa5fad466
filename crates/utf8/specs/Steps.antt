-- Nothing here need be believed: the code's own steps cite it, and no public promise does.
-- Assumes nothing.
use Rattle.std.specs.Prelude.{ℕ, ◌≤◌, ◌<◌, List, get_or}

-- each of the octets from i up to j is a character
abbrev pub Plain : List ℕ → ℕ → ℕ → Type 0
Plain s i j = (k : ℕ) → i ≤ k → k < j → get_or s k 0 < 128
