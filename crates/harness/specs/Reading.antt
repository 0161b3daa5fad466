-- A reader had the bytes `before` and has `left`, and some first bytes of what was lent hold what it gave; no more than that many were taken.
-- Assumes nothing.
use Rattle.std.specs.Prelude.{ℕ, ◌≤◌, List, length, take, Option}
use Rattle.std.specs.Io.KnownBytes.{Consumes}

abbrev pub CameBefore : Option (List ℕ) → Option (List ℕ) → List ℕ → Type 0
CameBefore before left lent = (n : ℕ) × (n ≤ length lent) × Consumes before left (take n lent)
