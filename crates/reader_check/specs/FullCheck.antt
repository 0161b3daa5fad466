-- Document 01, "What the full check demands", with document 02's request 2026-05: F2 to F6, and the lowest that is broken. A rule is a list of demands, and a demand is made of every record of a directory. F1 is that opening accepts (tzb). For any opened record and any bytes.
-- Assumes nothing.
use Rattle.std.specs.Prelude.{ℕ, zero, suc, Bool, true, false, ◌&&◌, List, [], ◌∷◌}
use Rattle.answer.specs.Refusals.{refusal}
use Rattle.answer.specs.Answers.{Answer, ok, refused, holds, answered}
use Rattle.opened.specs.declared.Opened.{Opened}
use Rattle.reader_records.specs.Records.{poly_at, ring_at, op_at, group_at, tz_at}
use Rattle.reader_chunks.specs.Chunks.{chunk_points}
use Rattle.reader_cover.specs.Cover.{points_add, chunk_covers, joints_cover, group_covers, ring_covers, poly_covers, zone_covers}
use Rattle.shapes.specs.Words.{has_room}
use Rattle.shapes.specs.Layout as Layout
use Rattle.directories.specs.Directories.{directories}
use Rattle.reader_cover.specs.All.{all}
use Rattle.replies.specs.Replies.{Outcome, accepted, refused_by, broken_at}

-- ---- the demands
-- how many records a directory has, and the test that record i is to pass
pub record Asked : Type 0 where
  pub count : ℕ
  pub test : ℕ → Bool

abbrev each : ℕ → (ℕ → Bool) → Asked
each n P = record { count = n; test = P }

-- what is asked of each record of a directory
pub data Demand : Type 0 where
  Zone : Demand
  Polygon : Demand
  Op : Demand
  Ring : Demand
  Room : Demand
  Decode : Demand
  Chunk : Demand
  Joints : Demand
  Group : Demand
  RingBox : Demand
  PolygonBox : Demand
  ZoneBox : Demand

abbrev pub asked : Opened → List ℕ → Demand → Asked
-- F2 "Every zone, polygon and ring meets the record rule,
asked o s Zone = each o.zones.count (λ i. answered (tz_at o s i))
asked o s Polygon = each o.polys.count (λ i. answered (poly_at o s i))
-- every ring op names a group,
asked o s Op = each o.ops.count (λ i. answered (op_at o s i))
-- every ring's groups' point counts, less its number of groups, add to its point count." (A ring that does not meet the record rule has no counts that add.)
asked o s Ring = each o.rings.count (λ i. holds (points_add o s) (ring_at o s i))
-- and, by document 02, "at least three segments, counted as in the exact geometry, degenerate ones not counted": the segments of the ring's shape, made of the points that its chunks decode to. Judged where all of these are there.
asked o s Room = each o.rings.count (λ i. has_room (Layout.ring_at (directories o s) i))
-- F3 "Every chunk decodes."
asked o s Decode = each o.chunks.count (λ i. answered (chunk_points o s i))
-- F4 "Each chunk's box covers its points
asked o s Chunk = each o.chunks.count (chunk_covers o s)
-- and, within a group, the next chunk's first."
asked o s Joints = each o.groups.count (λ i. holds (joints_cover o s) (group_at o s i))
-- F5 "Each group's box covers its chunks' boxes; entry and exit are its first and last point."
asked o s Group = each o.groups.count (λ i. holds (group_covers o s) (group_at o s i))
-- F6 "Each ring's box covers its groups',
asked o s RingBox = each o.rings.count (λ i. holds (ring_covers o s) (ring_at o s i))
-- each polygon's its rings',
asked o s PolygonBox = each o.polys.count (λ i. holds (poly_covers o s) (poly_at o s i))
-- each zone's its polygons'."
asked o s ZoneBox = each o.zones.count (λ i. holds (zone_covers o s) (tz_at o s i))

-- every record of the directory passes, also one that nothing points at
unfoldable pub met : Opened → List ℕ → Demand → Bool
met o s d = all (asked o s d).test (asked o s d).count 0

unfoldable pub all_met : Opened → List ℕ → List Demand → Bool
all_met o s [] = true
all_met o s (d ∷ l) = met o s d && all_met o s l

-- ---- the rules
-- F2, the older part
unfoldable pub records_hold : Opened → List ℕ → Bool
records_hold o s = all_met o s (Zone ∷ Polygon ∷ Op ∷ Ring ∷ [])

-- F3
unfoldable pub chunks_decode : Opened → List ℕ → Bool
chunks_decode o s = all_met o s (Decode ∷ [])

-- F2, document 02's part
unfoldable pub rings_have_room : Opened → List ℕ → Bool
rings_have_room o s = all_met o s (Room ∷ [])

-- F4
unfoldable pub chunk_boxes_cover : Opened → List ℕ → Bool
chunk_boxes_cover o s = all_met o s (Chunk ∷ Joints ∷ [])

-- F5
unfoldable pub groups_cover : Opened → List ℕ → Bool
groups_cover o s = all_met o s (Group ∷ [])

-- F6
unfoldable pub boxes_cover : Opened → List ℕ → Bool
boxes_cover o s = all_met o s (RingBox ∷ PolygonBox ∷ ZoneBox ∷ [])

-- a rule with its number, and what comes after it where it holds
unfoldable pub rule : ℕ → Bool → ℕ → ℕ
rule n true after = after
rule n false after = n

-- the lowest broken rule, 2 to 6; 0 where none is. They are judged in this order: document 02's part of F2 "only where F2's older part and F3 hold, and before F4"
unfoldable pub lowest_broken : Opened → List ℕ → ℕ
lowest_broken o s =
    rule 2 (records_hold o s)
    (rule 3 (chunks_decode o s)
    (rule 2 (rings_have_room o s)
    (rule 4 (chunk_boxes_cover o s)
    (rule 5 (groups_cover o s)
    (rule 6 (boxes_cover o s)
    0)))))

abbrev pub judged : ℕ → Outcome
judged zero = accepted
judged (suc n) = broken_at (refusal 47) (suc n)

-- of what opening answers
unfoldable pub check_of : Answer Opened → List ℕ → Outcome
check_of (ok o) s = judged (lowest_broken o s)
check_of (refused r) s = refused_by r
