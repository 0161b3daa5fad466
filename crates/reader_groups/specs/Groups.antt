-- Document 01, "Asking": a group's chunks as the second half of `scan_group` walks them, blocks left out. For any opened record and any bytes.
-- Assumes nothing.
use Rattle.std.specs.Prelude.{ℕ, zero, suc, ◌+◌, ◌-◌, Bool, cond, List}
use Rattle.plane.specs.declared.Point.{Point}
use Rattle.plane.specs.declared.I32Point.{I32Point}
use Rattle.answer.specs.Answers.{Answer, ◌then◌}
use Rattle.answer.specs.Walks.{Walk, off, ◌go◌, ◌yields◌, done}
use Rattle.boxes.specs.Box.{relevant, right}
use Rattle.rays.specs.Ray.{ray_of, parity_of}
use Rattle.chunks.specs.Scan.{past}
use Rattle.opened.specs.declared.Opened.{Opened}
use Rattle.reader_records.specs.declared.GroupRecord.{GroupRecord}
use Rattle.reader_records.specs.declared.ChunkRecord.{ChunkRecord}
use Rattle.reader_records.specs.Records.{chunk_at}
use Rattle.reader_chunks.specs.Chunks.{start_of, end_of, first_in, scan_in}

-- a walk that hands nothing on
abbrev pub One : Type 0
One = Unit {0}

-- the first point of chunk i + 1, with record n
unfoldable pub next_first : Opened → List ℕ → ℕ → ChunkRecord → Answer I32Point
next_first o s i n = end_of o s (i + 1) then λ e. first_in s (start_of o n) e

-- ---- a chunk in its group: chunk i, with record v
module _ (o : Opened) (s : List ℕ) (p : Point) (i : ℕ) (v : ChunkRecord) where
  -- to the right of the point: by its ends alone, its own first point and the next chunk's
  unfoldable pub skip_to : ChunkRecord → Walk One
  skip_to n = first_in s (start_of o v) (start_of o n) yields λ a. next_first o s i n yields λ b. off (parity_of p a b) tt

  -- through its segments, and the one that joins it to the next chunk
  unfoldable pub scan_to : ChunkRecord → Walk One
  scan_to n = scan_in s v.count p (start_of o v) (start_of o n) go λ q. next_first o s i n yields λ b. past (ray_of q b p) tt

  unfoldable pub joined_to : ChunkRecord → Walk One
  joined_to n = cond (relevant v.bbox p) (cond (right v.bbox p) (skip_to n) (scan_to n)) (done tt)

  -- a chunk that another follows
  unfoldable pub pass_at : Walk ChunkRecord
  pass_at = chunk_at o s (i + 1) yields λ n. joined_to n go λ t. done n

  -- a group's last chunk, which ends at e, and of which x is the last point
  unfoldable pub last_in : I32Point → ℕ → Walk One
  last_in x e =
      cond (right v.bbox p)
      (first_in s (start_of o v) e yields λ a. off (parity_of p a x) tt)
      (scan_in s v.count p (start_of o v) e go λ q. done tt)

  unfoldable pub last_at : I32Point → Walk One
  last_at x = cond (relevant v.bbox p) (end_of o s i yields λ e. last_in x e) (done tt)

-- chunk i by its number alone, where another of its group follows it or not, and x is the group's last point: nothing more is read where its box does not matter, else on as above
unfoldable pub alone_at : Opened → List ℕ → Point → I32Point → Bool → ℕ → Walk One
alone_at o s p x follows i =
    chunk_at o s i yields λ v.
    cond (relevant v.bbox p)
    (cond follows (pass_at o s p i v go λ n. done tt) (last_at o s p i v x))
    (done tt)

-- n chunks that another follows, from chunk i with record v, then the last
unfoldable pub chunks_from : Opened → List ℕ → Point → I32Point → ℕ → ℕ → ChunkRecord → Walk One
chunks_from o s p x zero i v = last_at o s p i v x
chunks_from o s p x (suc n) i v = pass_at o s p i v go λ w. chunks_from o s p x n (i + 1) w

unfoldable pub group_scan : Opened → List ℕ → Point → GroupRecord → Walk One
group_scan o s p g = chunk_at o s g.first yields λ v. chunks_from o s p g.exit (g.count - 1) g.first v
