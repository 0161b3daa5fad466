-- "document 01's F1 to F6 hold", F2 with document 02's request 2026-05: of a file, with the record that opening makes of it.
-- Assumes nothing.
use Rattle.std.specs.Prelude.{ℕ, ◌≡◌, true, List}
use Rattle.answer.specs.Answers.{ok}
use Rattle.opened.specs.declared.Opened.{Opened}
use Rattle.reader_check.specs.FullCheck.{records_hold, rings_have_room, chunks_decode, chunk_boxes_cover, groups_cover, boxes_cover}
use Rattle.tzb.specs.Opening.{open_of}

pub record Accepted (file : List ℕ) (o : Opened) : Type 0 where
  -- "F1 Opening accepts."
  pub f1 : ok o ≡ open_of file
  -- "F2 Every zone, polygon and ring meets the record rule, every ring op names a group, every ring's groups' point counts, less its number of groups, add to its point count."
  pub f2 : records_hold o file ≡ true
  -- "F2 is to require at least three segments, counted as in the exact geometry, degenerate ones not counted."
  pub f2_room : rings_have_room o file ≡ true
  -- "F3 Every chunk decodes."
  pub f3 : chunks_decode o file ≡ true
  -- "F4 Each chunk's box covers its points and, within a group, the next chunk's first."
  pub f4 : chunk_boxes_cover o file ≡ true
  -- "F5 Each group's box covers its chunks' boxes; entry and exit are its first and last point."
  pub f5 : groups_cover o file ≡ true
  -- "F6 Each ring's box covers its groups', each polygon's its rings', each zone's its polygons'."
  pub f6 : boxes_cover o file ≡ true
