-- Document 01, "What the full check demands": what is asked of one ring, one chunk, one group, one box. For any opened record and any bytes.
-- Assumes nothing.
use Rattle.std.specs.Prelude.{ℕ, zero, suc, ◌+◌, ◌-◌, Bool, ◌&&◌, List}
use Rattle.plane.specs.Lines.{every, last_of}
use Rattle.answer.specs.Answers.{Answer, ok, ◌then◌, holds}
use Rattle.boxes.specs.declared.BBox.{BBox}
use Rattle.boxes.specs.Box.{in_box}
use Rattle.opened.specs.declared.Opened.{Opened}
use Rattle.reader_records.specs.declared.ListRecord.{ListRecord}
use Rattle.reader_records.specs.declared.RingRecord.{RingRecord}
use Rattle.reader_records.specs.declared.GroupRecord.{GroupRecord}
use Rattle.reader_records.specs.Records.{poly_at, ring_at, group_index, op_at, group_at, chunk_at, count_rule}
use Rattle.reader_chunks.specs.Chunks.{first_at, chunk_points}
use Rattle.shapes.specs.Shapes.{covers}
use Rattle.reader_cover.specs.All.{all}
use Rattle.plane.specs.Segment.{same_point}
use Rattle.reader_cover.specs.declared.Part.{Part}
use Rattle.reader_cover.specs.declared.Part.TheVariants as P

-- the group that op j names
unfoldable pub group_of_op : Opened → List ℕ → ℕ → Answer GroupRecord
group_of_op o s j = op_at o s j then λ w. group_at o s (group_index w)

-- ---- F2 Every ring's groups' point counts, less its number of groups, add to its point count.
-- the point counts of the groups that n ops name, from op j on, added
unfoldable pub sum_of_ops : Opened → List ℕ → ℕ → ℕ → Answer ℕ
sum_of_ops o s zero j = ok 0
sum_of_ops o s (suc n) j = group_of_op o s j then λ g. sum_of_ops o s n (j + 1) then λ t. ok (g.points + t)

-- of a ring
unfoldable pub points_add : Opened → List ℕ → RingRecord → Bool
points_add o s r = holds (count_rule r) (sum_of_ops o s r.count r.first)

-- ---- F4 Each chunk's box covers its points and, within a group, the next chunk's first.
-- chunk i's box covers its points
unfoldable pub chunk_covers : Opened → List ℕ → ℕ → Bool
chunk_covers o s i = holds (λ v. holds (every (in_box v.bbox)) (chunk_points o s i)) (chunk_at o s i)

-- chunk i's box covers the next chunk's first
unfoldable pub joint_covers : Opened → List ℕ → ℕ → Bool
joint_covers o s i = holds (λ v. holds (in_box v.bbox) (first_at o s (i + 1))) (chunk_at o s i)

-- within a group: of each chunk but the last
unfoldable pub joints_cover : Opened → List ℕ → GroupRecord → Bool
joints_cover o s g = all (joint_covers o s) (g.count - 1) g.first

-- ---- F5 and F6
-- the box b covers that of chunk j, of the group that op j names, of ring j, of polygon j
unfoldable pub chunk_under : Opened → List ℕ → BBox → ℕ → Bool
chunk_under o s b j = holds (λ v. covers b v.bbox) (chunk_at o s j)

unfoldable pub group_under : Opened → List ℕ → BBox → ℕ → Bool
group_under o s b j = holds (λ g. covers b g.bbox) (group_of_op o s j)

unfoldable pub ring_under : Opened → List ℕ → BBox → ℕ → Bool
ring_under o s b j = holds (λ r. covers b r.bbox) (ring_at o s j)

unfoldable pub poly_under : Opened → List ℕ → BBox → ℕ → Bool
poly_under o s b j = holds (λ v. covers b v.bbox) (poly_at o s j)

-- F5: entry and exit are the group's first and last point: the first of its first chunk, the last of its last
unfoldable pub ends_fit : Opened → List ℕ → GroupRecord → Bool
ends_fit o s g =
    holds (same_point g.entry) (first_at o s g.first)
    && holds (λ l. same_point g.exit (last_of l)) (chunk_points o s (g.first + (g.count - 1)))

-- F5: the group's box covers its chunks' boxes, and its ends fit
unfoldable pub group_covers : Opened → List ℕ → GroupRecord → Bool
group_covers o s g = all (chunk_under o s g.bbox) g.count g.first && ends_fit o s g

-- F6: a ring's box covers its groups', a polygon's its rings', a zone's its polygons'
unfoldable pub ring_covers : Opened → List ℕ → RingRecord → Bool
ring_covers o s r = all (group_under o s r.bbox) r.count r.first

unfoldable pub poly_covers : Opened → List ℕ → ListRecord → Bool
poly_covers o s v = all (ring_under o s v.bbox) v.count v.first

unfoldable pub zone_covers : Opened → List ℕ → ListRecord → Bool
zone_covers o s v = all (poly_under o s v.bbox) v.count v.first

-- ---- one part under its whole, of each kind
-- what is asked of each part of something larger
abbrev pub part_fits : Opened → List ℕ → Part → ℕ → Bool
part_fits o s (P.Chunk b) = chunk_under o s b
part_fits o s (P.Group b) = group_under o s b
part_fits o s (P.Ring b) = ring_under o s b
part_fits o s (P.Polygon b) = poly_under o s b
part_fits o s P.Joint = joint_covers o s
