-- Document 01, "Chunks, then groups", 32 to 34.
-- Assumes nothing.
use Rattle.std.specs.Prelude.{ℕ, zero, suc, ◌+◌, ◌*◌, ◌≤◌, List, [], ◌∷◌, length}
use Rattle.answer.specs.Answers.{Check}
use Rattle.answer.specs.Checks.{claim, first, each, at_most, below, same}
use Rattle.opened.specs.declared.Directory.{Directory}
use Rattle.opened.specs.declared.Opened.{Opened}
use Rattle.opened.specs.Widths.{group_wide, chunk_wide}
use Rattle.reader_records.specs.declared.ChunkRecord.{ChunkRecord}
use Rattle.reader_records.specs.declared.GroupRecord.{GroupRecord}
use Rattle.reader_records.specs.Records.{place, chunk_in, chunk_rule, group_in, group_rule}
use Rattle.basics.specs.Total.{total}

-- chunk i and group i of a directory
abbrev pub chunk_of : List ℕ → Directory → ℕ → ChunkRecord
chunk_of s d i = chunk_in s (place d chunk_wide i)

abbrev pub group_of : List ℕ → Directory → ℕ → GroupRecord
group_of s d i = group_in s (place d group_wide i)

-- Each chunk: record rule (34); count above 0, offset below the POINTS length and at least so much (32).
unfoldable pub chunk_check : ChunkRecord → ℕ → ℕ → Check
chunk_check v points least =
    first
    (claim 34 (chunk_rule v)
    ∷ claim 32 (at_most 1 v.count)
    ∷ claim 32 (below v.off points)
    ∷ claim 32 (at_most least v.off)
    ∷ [])

-- to be above the chunk before, if there is one
unfoldable pub least_off : List ℕ → Directory → ℕ → ℕ
least_off s d zero = 0
least_off s d (suc i) = (chunk_of s d i).off + 1

unfoldable pub chunk_check_at : List ℕ → Directory → ℕ → ℕ → Check
chunk_check_at s d points i = chunk_check (chunk_of s d i) points (least_off s d i)

unfoldable pub chunks_check : List ℕ → Opened → Check
chunks_check s o = each (chunk_check_at s o.chunks o.points.len) o.chunks.count 0

unfoldable pub count_at : List ℕ → Directory → ℕ → ℕ
count_at s d i = (chunk_of s d i).count

-- Each group: record rule, then its chunks' counts add to its point count (33).
unfoldable pub group_check : List ℕ → Directory → GroupRecord → Check
group_check s chunks v =
    first
    (claim 34 (group_rule chunks.count v)
    ∷ claim 33 (same (total (count_at s chunks) v.count v.first) v.points)
    ∷ [])

unfoldable pub group_check_at : List ℕ → Directory → Directory → ℕ → Check
group_check_at s groups chunks i = group_check s chunks (group_of s groups i)

unfoldable pub groups_check : List ℕ → Opened → Check
groups_check s o = each (group_check_at s o.groups o.chunks) o.groups.count 0

-- a directory of records of w bytes lies within the bytes
pub record Lies (s : List ℕ) (d : Directory) (w : ℕ) : Type 0 where
  pub fits : d.off + d.count * w ≤ length s

-- what is known before chunks and groups are checked
pub record Room (s : List ℕ) (o : Opened) : Type 0 where
  pub chunks : Lies s o.chunks chunk_wide
  pub groups : Lies s o.groups group_wide
