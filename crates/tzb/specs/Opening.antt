-- Document 01, "Opening, in this order": the whole. Each part's lines stand in the crate that is named beside it.
-- Assumes nothing.
use Rattle.std.specs.Prelude.{ℕ, ◌%◌, cond, List, [], ◌∷◌}
use Rattle.answer.specs.Checks.{first, same}
use Rattle.answer.specs.Answers.{Answer, ok, ◌before◌, Check, fine}
use Rattle.reader_head.specs.Head.{head_check}
use Rattle.reader_table.specs.Table.{entries_check}
use Rattle.reader_opened.specs.declared.Sections.{Sections}
use Rattle.opened.specs.declared.Grid.{Grid}
use Rattle.opened.specs.declared.Opened.{Opened}
use Rattle.reader_opened.specs.Opened.{present_check, flag_check, zones_check, lengths_check, counts_check, sections_of, grid_of, opened_of}
use Rattle.reader_names.specs.Names.{names_check}
use Rattle.reader_grid.specs.Grid.{grid_check}
use Rattle.reader_dirs.specs.Dirs.{chunks_check, groups_check}

-- 1 to 11 (reader_head), 12 to 16 (reader_table), 17 and 18 (reader_opened)
unfoldable pub table_check : List ℕ → Check
table_check s = first (head_check s ∷ entries_check s ∷ present_check s ∷ flag_check s ∷ [])

-- 19 and 20 (reader_opened)
unfoldable pub sizes_check : Sections → Check
sizes_check p = first (zones_check p ∷ lengths_check p ∷ counts_check p ∷ [])

-- 21 to 26 (reader_names)
unfoldable pub names_in : List ℕ → Sections → Check
names_in s p = names_check s p.names.off p.names.len p.zones

-- 27 to 31 (reader_grid), if GRID is present, which flag bit 0 says after 18
unfoldable pub grid_in : List ℕ → Sections → Grid → Check
grid_in s p g = cond (same (p.flags % 2) 0) fine (grid_check s p.gridpart g p.zones)

-- Then names, GRID if present, chunks, groups (reader_dirs: 32 to 34).
unfoldable pub contents_check : List ℕ → Sections → Grid → Opened → Check
contents_check s p g o = first (sizes_check p ∷ names_in s p ∷ grid_in s p g ∷ chunks_check s o ∷ groups_check s o ∷ [])

-- what is kept of a file
abbrev pub grid_is : List ℕ → Grid
grid_is s = grid_of s (sections_of s).gridpart

abbrev pub opened_is : List ℕ → Opened
opened_is s = opened_of (sections_of s) (grid_is s)

-- the opened record, or the first refusal
unfoldable pub open_of : List ℕ → Answer Opened
open_of s = table_check s before (contents_check s (sections_of s) (grid_is s) (opened_is s) before ok (opened_is s))
