-- Document 01, "Chunk bytes" and "Refusal numbers": where a chunk's bytes stand in the file, and what is read there. For any opened record and any bytes.
-- Document 02, request 2026-06: a refusal's place is its place in the file. A chunk's own refusals count from its first byte; here, where that stands is known, and here alone they are counted from the file's first.
-- Assumes nothing.
use Rattle.std.specs.Prelude.{ℕ, ◌+◌, ◌*◌, Bool, cond, List, length, ltb, leb, ℤ}
use Rattle.plane.specs.declared.Point.{Point}
use Rattle.plane.specs.declared.I32Point.{I32Point}
use Rattle.answer.specs.Answers.{Answer, ok, ◌then◌, need, behind, Check, outcome}
use Rattle.answer.specs.Walks.{Walk, ◌yields◌, walk_behind}
use Rattle.boxes.specs.declared.BBox.{BBox}
use Rattle.fields.specs.Part.{part}
use Rattle.chunks.specs.Points.{first_of}
use Rattle.chunks.specs.Scan.{scan_of}
use Rattle.chunks.specs.Decode.{points_of, filled}
use Rattle.chunks.specs.Trace.{trace_of}
use Rattle.chunks.specs.Count.{count_of}
use Rattle.opened.specs.declared.Opened.{Opened}
use Rattle.reader_records.specs.declared.ChunkRecord.{ChunkRecord}
use Rattle.reader_records.specs.Records.{chunk_at}

-- where a chunk's first byte stands
unfoldable pub start_of : Opened → ChunkRecord → ℕ
start_of o v = o.points.off + v.off

-- where chunk i ends: where the next of the file starts, or with the points
unfoldable pub end_of : Opened → List ℕ → ℕ → Answer ℕ
end_of o s i =
    cond (ltb (i + 1) o.chunks.count)
    (chunk_at o s (i + 1) then λ v. ok (start_of o v))
    (ok (o.points.off + o.points.len))

-- the bytes from a to e: a range that is empty or turned round is 37; past the end, as a whole, 44
unfoldable pub span : List ℕ → ℕ → ℕ → Answer (List ℕ)
span s a e = need 37 (ltb a e) (need 44 (leb e (length s)) (ok (part s a e)))

-- the bytes of chunk i, whose record is v
unfoldable pub bytes_of : Opened → List ℕ → ℕ → ChunkRecord → Answer (List ℕ)
bytes_of o s i v = end_of o s i then λ e. span s (start_of o v) e

-- the first point alone, of the bytes from a to e
unfoldable pub first_in : List ℕ → ℕ → ℕ → Answer I32Point
first_in s a e = span s a e then λ b. behind a (first_of b) then λ t. ok t.0

-- through all segments of the n points in the bytes from a to e
unfoldable pub scan_in : List ℕ → ℕ → Point → ℕ → ℕ → Walk I32Point
scan_in s n p a e = span s a e yields λ b. walk_behind a (scan_of b n p)

-- all n points in the bytes from a to e, against the box b
unfoldable pub trace_in : List ℕ → ℕ → BBox → ℕ → ℕ → Answer (Bool × I32Point)
trace_in s n b a e = span s a e then λ c. behind a (trace_of c n b)

-- the segments of the n points in the bytes from b to e, after the point a and with k counted
unfoldable pub count_in : List ℕ → ℕ → I32Point → ℕ → ℕ → ℕ → Answer (ℕ × I32Point)
count_in s n a k b e = span s b e then λ c. behind b (count_of c n a k)

-- ---- a chunk by its number
-- its first point alone
unfoldable pub first_at : Opened → List ℕ → ℕ → Answer I32Point
first_at o s i = chunk_at o s i then λ v. end_of o s i then λ e. first_in s (start_of o v) e

-- all its points, against its own box: 34, 37, 44, then as a chunk is scanned whole, 32 for a count of 0 and the rest
unfoldable pub trace_at : Opened → List ℕ → ℕ → Answer (Bool × I32Point)
trace_at o s i = chunk_at o s i then λ v. end_of o s i then λ e. trace_in s v.count v.bbox (start_of o v) e

-- its segments counted, after the point a and with k counted: refused as the trace is, as far as it is read: the third segment ends it
unfoldable pub count_at : Opened → List ℕ → ℕ → I32Point → ℕ → Answer (ℕ × I32Point)
count_at o s i a k = chunk_at o s i then λ v. end_of o s i then λ e. count_in s v.count a k (start_of o v) e

-- all its points: 34, 32 for a count of 0, then 37 and the rest
unfoldable pub chunk_points : Opened → List ℕ → ℕ → Answer (List I32Point)
chunk_points o s i = chunk_at o s i then λ v. need 32 (ltb 0 v.count) (bytes_of o s i v then λ b. behind (start_of o v) (points_of b v.count))

-- the same into lent i32s, two a point: 34, 32 for a count of 0, 46 for room, then 37 and the rest
unfoldable pub decode_by : Opened → List ℕ → ℕ → List ℤ → ChunkRecord → Answer (List I32Point)
decode_by o s i out v =
    need 32 (ltb 0 v.count)
    (need 46 (leb (2 * v.count) (length out))
    (bytes_of o s i v then λ b. behind (start_of o v) (points_of b v.count)))

unfoldable pub decode_in : Opened → List ℕ → ℕ → List ℤ → Answer (List I32Point)
decode_in o s i out = chunk_at o s i then λ v. decode_by o s i out v

-- what is told, and the lent memory afterwards: the numbers of the points, then the rest as it was; after a refusal all as it was
abbrev pub decode_at : Opened → List ℕ → ℕ → List ℤ → Check
decode_at o s i out = outcome (decode_in o s i out)

abbrev pub decoded_at : Opened → List ℕ → ℕ → List ℤ → List ℤ
decoded_at o s i out = filled out (decode_in o s i out)
