-- Document 01, "GRID", 27 to 31.
-- Assumes nothing.
use Rattle.std.specs.Prelude.{ℕ, ◌+◌, ◌*◌, Bool, ◌&&◌, List, [], ◌∷◌, ltb, ℤ, pos, neg_ℤ, ◌+ℤ◌, ◌-ℤ◌}
use Rattle.std.specs.Int.Signed.{le_z}
use Rattle.fields.specs.Le.{le}
use Rattle.answer.specs.Answers.{Check}
use Rattle.answer.specs.Checks.{claim, first, each, at_most, below, same}
use Rattle.opened.specs.declared.Section.{Section}
use Rattle.opened.specs.declared.Grid.{Grid}
use Rattle.reader_grid.specs.Word.{word_count, word_offset, range_check}

-- first + count - 1
abbrev pub last_of : ℤ → ℕ → ℤ
last_of first count = first +ℤ pos count -ℤ pos 1

-- 28 unless columns and rows are above 0, firsts lie in -181..180 and -91..90, first + count - 1 is at most 181 and 91, and the total is below 2^28.
unfoldable pub dimensions : Grid → Bool
dimensions g =
    (ltb 0 g.cols && ltb 0 g.rows)
    && ((le_z (neg_ℤ (pos 181)) g.lng && le_z g.lng (pos 180))
    && (le_z (neg_ℤ (pos 91)) g.lat && le_z g.lat (pos 90)))
    && (le_z (last_of g.lng g.cols) (pos 181) && le_z (last_of g.lat g.rows) (pos 91))
    && ltb g.total 0x1000_0000

-- 12 bytes; then a u32 per cell, then u16 candidates
abbrev pub cell_count : Grid → ℕ
cell_count g = g.cols * g.rows

-- Cell by cell: 30, then each candidate, 31. The cells' words stand from `at` on, the candidates from `cands` on.
unfoldable pub candidate_check : List ℕ → ℕ → ℕ → ℕ → Check
candidate_check s at zones j = claim 31 (below (le 2 s (at + 2 * j)) zones)

unfoldable pub cell_check : List ℕ → ℕ → ℕ → ℕ → ℕ → ℕ → Check
cell_check s at cands total zones i =
    first
    (range_check (le 4 s (at + 4 * i)) total
    ∷ each (candidate_check s (cands + 2 * word_offset (le 4 s (at + 4 * i))) zones) (word_count (le 4 s (at + 4 * i))) 0
    ∷ [])

-- GRID's length, dimensions, section size, cells: a section, what its first bytes say, the number of zones
unfoldable pub grid_check : List ℕ → Section → Grid → ℕ → Check
grid_check s sec g zones =
    first
    (claim 27 (at_most 12 sec.len)
    ∷ claim 28 (dimensions g)
    ∷ claim 29 (same (12 + 4 * cell_count g + 2 * g.total) sec.len)
    ∷ each (cell_check s (sec.off + 12) (sec.off + 12 + 4 * cell_count g) g.total zones) (cell_count g) 0
    ∷ [])
