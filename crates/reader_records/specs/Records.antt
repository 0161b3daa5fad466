-- Document 01, "Records". Fields in the order of the structs in `reader.rs`; two unread bytes after each u16.
-- Asked of any opened record and any bytes: index inside its directory (34), the whole record within the bytes (44), its rule (34, for an op 35).
-- Assumes nothing.
use Rattle.std.specs.Prelude.{ℕ, ◌+◌, ◌*◌, ◌%◌, Bool, ◌&&◌, not, List, ltb, leb, eqb, ℤ}
use Rattle.std.specs.Int.{w32}
use Rattle.std.proofs.Common.{to_z}
use Rattle.plane.specs.declared.I32Point.{I32Point}
use Rattle.plane.specs.Domain.{in_domain}
use Rattle.answer.specs.Answers.{Answer, ok, ◌then◌, need}
use Rattle.fields.specs.Le.{le}
use Rattle.fields.specs.Loads.{inside}
use Rattle.boxes.specs.declared.BBox.{BBox}
use Rattle.boxes.specs.Box.{box_in_domain}
use Rattle.opened.specs.declared.Directory.{Directory}
use Rattle.opened.specs.declared.Opened.{Opened}
use Rattle.opened.specs.Widths.{list_wide, ring_wide, op_wide, group_wide, chunk_wide}
use Rattle.reader_records.specs.declared.ListRecord.{ListRecord}
use Rattle.reader_records.specs.declared.RingRecord.{RingRecord}
use Rattle.reader_records.specs.declared.GroupRecord.{GroupRecord}
use Rattle.reader_records.specs.declared.ChunkRecord.{ChunkRecord}

-- a directory of that many records, from that place on
abbrev pub directory : ℕ → ℕ → Directory
directory off count = record { off = off; count = count }

-- where record i of w bytes stands
abbrev pub place : Directory → ℕ → ℕ → ℕ
place d w i = d.off + i * w

-- index inside its directory (34), and the whole record within the bytes (44)
unfoldable pub record_at : List ℕ → Directory → ℕ → ℕ → Answer ℕ
record_at s d w i = need 34 (ltb i d.count) (need 44 (inside w s (place d w i)) (ok (place d w i)))

-- what is read there, if it keeps its rule, and else that number
unfoldable pub ruled : {A : Type 0} → Answer ℕ → (ℕ → A) → (A → Bool) → ℕ → Answer A
ruled at read rule n = at then λ p. need n (rule (read p)) (ok (read p))

-- a coordinate: a signed number of four bytes
abbrev pub coordinate : List ℕ → ℕ → ℤ
coordinate s p = to_z w32 (le 4 s p)

unfoldable pub box_in : List ℕ → ℕ → BBox
box_in s p = record { minx = coordinate s p; miny = coordinate s (p + 4); maxx = coordinate s (p + 8); maxy = coordinate s (p + 12) }

unfoldable pub point_in : List ℕ → ℕ → I32Point
point_in s p = record { x = coordinate s p; y = coordinate s (p + 4) }

-- count at least 1, and first + count within the directory below
unfoldable pub fits_below : ℕ → ℕ → ℕ → Bool
fits_below first count below = ltb 0 count && leb (first + count) below

-- zones with their polygons, polygons with their rings
unfoldable pub list_in : List ℕ → ℕ → ListRecord
list_in s p = record { first = le 4 s p; count = le 2 s (p + 4); bbox = box_in s (p + 8) }

unfoldable pub list_rule : ℕ → ListRecord → Bool
list_rule below v = box_in_domain v.bbox && fits_below v.first v.count below

unfoldable pub list_at : List ℕ → Directory → ℕ → ℕ → Answer ListRecord
list_at s d below i = ruled (record_at s d list_wide i) (list_in s) (list_rule below) 34

abbrev pub tz_at : Opened → List ℕ → ℕ → Answer ListRecord
tz_at o s i = list_at s o.zones o.polys.count i

abbrev pub poly_at : Opened → List ℕ → ℕ → Answer ListRecord
poly_at o s i = list_at s o.polys o.rings.count i

-- rings with their ops
unfoldable pub ring_in : List ℕ → ℕ → RingRecord
ring_in s p = record { first = le 4 s p; points = le 4 s (p + 4); count = le 2 s (p + 8); bbox = box_in s (p + 12) }

unfoldable pub ring_rule : ℕ → RingRecord → Bool
ring_rule below v = box_in_domain v.bbox && fits_below v.first v.count below

unfoldable pub ring_at : Opened → List ℕ → ℕ → Answer RingRecord
ring_at o s i = ruled (record_at s o.rings ring_wide i) (ring_in s) (ring_rule o.ops.count) 34

-- its groups' point counts, less the number of groups, add to its point count
unfoldable pub count_rule : RingRecord → ℕ → Bool
count_rule v sum = eqb sum (v.points + v.count)

-- an op is a word: the index of its group. "The top bit of an op turns its group round."
abbrev pub group_index : ℕ → ℕ
group_index word = word % 0x8000_0000

abbrev pub turns_round : ℕ → Bool
turns_round word = not (ltb word 0x8000_0000)

unfoldable pub op_rule : ℕ → ℕ → Bool
op_rule below word = ltb (group_index word) below

unfoldable pub op_at : Opened → List ℕ → ℕ → Answer ℕ
op_at o s i = ruled (record_at s o.ops op_wide i) (le 4 s) (op_rule o.groups.count) 35

-- groups with their chunks; entry and exit in the same domain
unfoldable pub group_in : List ℕ → ℕ → GroupRecord
group_in s p =
    record {
      first = le 4 s p;
      points = le 4 s (p + 4);
      count = le 2 s (p + 8);
      entry = point_in s (p + 12);
      exit = point_in s (p + 20);
      bbox = box_in s (p + 28);
    }

unfoldable pub group_rule : ℕ → GroupRecord → Bool
group_rule below v = (box_in_domain v.bbox && fits_below v.first v.count below) && (in_domain v.entry && in_domain v.exit)

-- where group i stands, if its record keeps the rule
unfoldable pub group_place : Opened → List ℕ → ℕ → Answer ℕ
group_place o s i = ruled (record_at s o.groups group_wide i) (λ p. p) (λ p. group_rule o.chunks.count (group_in s p)) 34

unfoldable pub group_at : Opened → List ℕ → ℕ → Answer GroupRecord
group_at o s i = ruled (record_at s o.groups group_wide i) (group_in s) (group_rule o.chunks.count) 34

-- chunks: of the rule, the box alone
unfoldable pub chunk_in : List ℕ → ℕ → ChunkRecord
chunk_in s p = record { off = le 4 s p; count = le 2 s (p + 4); bbox = box_in s (p + 8) }

unfoldable pub chunk_rule : ChunkRecord → Bool
chunk_rule v = box_in_domain v.bbox

unfoldable pub chunk_at : Opened → List ℕ → ℕ → Answer ChunkRecord
chunk_at o s i = ruled (record_at s o.chunks chunk_wide i) (chunk_in s) chunk_rule 34
