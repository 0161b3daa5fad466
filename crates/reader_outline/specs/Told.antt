-- Document 02, request 2026-01: what is told of a ring's positions and its outline, and the lent numbers afterwards. Asked only of a file that the full check accepts.
-- Assumes nothing.
use Rattle.std.specs.Prelude.{ℕ, ◌≤◌, ◌≡◌, Bool, List, length, leb, ℤ}
use Rattle.plane.specs.declared.I32Point.{I32Point}
use Rattle.answer.specs.Answers.{Answer, ok, need}
use Rattle.shapes.specs.Layout.{Covered, ring_at}
use Rattle.shapes.specs.Outline.{ring_positions, drawable, backwards}
use Rattle.opened.specs.declared.Opened.{Opened}
use Rattle.directories.specs.Directories.{directories}
use Rattle.reader_exact.specs.Sound.{Sound}
use Rattle.reader_outline.specs.Held.{points_in}

-- what the full check leaves: a file that is sound, and whose boxes, entries and exits are right
pub record Ready (o : Opened) (s : List ℕ) : Type 0 where
  pub sound : Sound o s
  pub covered : Covered (directories o s)

-- ---- positions in lent numbers: 48 for "over 10,000"
unfoldable pub few_enough : List I32Point → Answer ℕ
few_enough l = need 48 (leb (length l) 10_000) (ok (length l))

-- where there is room for them, they stand there from the first number on
unfoldable pub Keeps : List ℤ → List I32Point → Type 0
Keeps m l = length l ≤ 10_000 → points_in m (length l) ≡ l

-- ---- a ring of the file, by its number
abbrev pub positions_at : Opened → List ℕ → ℕ → List I32Point
positions_at o s i = ring_positions (ring_at (directories o s) i)

-- "48 for a ring of under four positions, over 10,000, or zero area": of a ring, which may be a hole, with those positions
unfoldable pub drawn_by : List I32Point → Bool → Answer (ℕ × Bool)
drawn_by l hole = need 48 (drawable l) (ok (length l, backwards hole l))

abbrev pub outline_at : Opened → List ℕ → ℕ → Bool → Answer (ℕ × Bool)
outline_at o s i hole = drawn_by (positions_at o s i) hole
