-- A test of each of some numbers in a row.
-- Assumes nothing.
use Rattle.std.specs.Prelude.{ℕ, Bool}
use Rattle.plane.specs.Lines.{every}
use Rattle.plane.specs.Runs.{run}

-- the n numbers from b on all pass a test
unfoldable pub all : (ℕ → Bool) → ℕ → ℕ → Bool
all P n b = every P (run (λ j. j) n b)
