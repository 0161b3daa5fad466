-- A file is sound where the reader answers every record of every directory, every chunk decodes, and every ring's count rule holds: document 01's F2 and F3, and what opening asks of groups.
-- Assumes nothing.
use Rattle.std.specs.Prelude.{ℕ, ◌<◌, ◌≡◌, true, List}
use Rattle.answer.specs.Answers.{Given}
use Rattle.opened.specs.declared.Opened.{Opened}
use Rattle.reader_records.specs.Records.{poly_at, ring_at, op_at, group_at, count_rule, tz_at}
use Rattle.reader_chunks.specs.Chunks.{chunk_points}
use Rattle.directories.specs.Directories.{ring_record, op_points}
use Rattle.basics.specs.Total.{total}

pub record Sound (o : Opened) (s : List ℕ) : Type 0 where
  -- "Every zone, polygon and ring meets the record rule, every ring op names a group"
  pub zone_given : (i : ℕ) → i < o.zones.count → Given (tz_at o s i)
  pub poly_given : (i : ℕ) → i < o.polys.count → Given (poly_at o s i)
  pub ring_given : (i : ℕ) → i < o.rings.count → Given (ring_at o s i)
  pub op_given : (i : ℕ) → i < o.ops.count → Given (op_at o s i)
  -- "every ring's groups' point counts, less its number of groups, add to its point count"
  pub ring_counts : (i : ℕ) → i < o.rings.count → count_rule (ring_record o s i) (total (op_points o s) (ring_record o s i).count (ring_record o s i).first) ≡ true
  -- opening: every group meets the record rule
  pub group_given : (i : ℕ) → i < o.groups.count → Given (group_at o s i)
  -- "Every chunk decodes": and has points
  pub chunk_given : (i : ℕ) → i < o.chunks.count → Given (chunk_points o s i)
