-- A worked file, which the full check accepts, and bytes of it changed: one change for each clause of each rule, and the number that is then given.
-- Assumes nothing.
use Rattle.std.specs.Prelude.{ℕ, Bool, List, [], ◌∷◌, pos, set, T, eqb}
use Rattle.plane.specs.Domain.{in_domain}
use Rattle.plane.specs.Lines.{every}
use Rattle.plane.specs.Runs.{run}
use Rattle.fields.specs.Le.{le}
use Rattle.fields.specs.Loads as Loads
use Rattle.boxes.specs.Box.{ordered, box_in_domain}
use Rattle.chunks.specs.Delta.{add_delta, fits32}
use Rattle.varints.specs.Varint.{number_at, digits}
use Rattle.chunks.specs.Points as Points
use Rattle.chunks.specs.Along.{along, walk_from}
use Rattle.chunks.specs.Decode.{points_of}
use Rattle.shapes.specs.Shapes.{in_box, covers}
use Rattle.shapes.specs.Words.{ring_sides, proper, has_room}
use Rattle.shapes.specs.Layout as Layout
use Rattle.directories.specs.Directories.{ring_record, op_word, group_record, chunk_shape, directories}
use Rattle.opened.specs.declared.Opened.{Opened}
use Rattle.reader_records.specs.Records as Records
use Rattle.reader_chunks.specs.Chunks.{start_of, end_of, span, bytes_of, first_in, first_at, chunk_points}
use Rattle.reader_cover.specs.Cover.{points_add, chunk_covers, joint_covers, joints_cover, chunk_under, group_under, ring_under, poly_under, ends_fit, group_covers, ring_covers, poly_covers, zone_covers, group_of_op, sum_of_ops}
use Rattle.reader_check.specs.FullCheck.{met, all_met, records_hold, chunks_decode, rings_have_room, chunk_boxes_cover, groups_cover, boxes_cover, rule, lowest_broken}
use Rattle.answer.specs.Answers.{holds, answered}
use Rattle.reader_cover.specs.All.{all}
use Rattle.plane.specs.Segment.{same_point}
use Rattle.chunks.specs.Steps.{points_from}

-- a zone of two polygons with a ring each; the first ring is a square from two groups, the second goes back along one of them
abbrev pub bytes : List ℕ
bytes =
    -- the zone: first polygon, how many, box
    0 ∷ 0 ∷ 0 ∷ 0 ∷ 2 ∷ 0 ∷ 0 ∷ 0 ∷ 0 ∷ 0 ∷ 0 ∷ 0 ∷ 0 ∷ 0 ∷ 0 ∷ 0 ∷ 10 ∷ 0 ∷ 0 ∷ 0 ∷ 10 ∷ 0 ∷ 0 ∷ 0
    -- polygons: first ring, how many, box
    ∷ 0 ∷ 0 ∷ 0 ∷ 0 ∷ 1 ∷ 0 ∷ 0 ∷ 0 ∷ 0 ∷ 0 ∷ 0 ∷ 0 ∷ 0 ∷ 0 ∷ 0 ∷ 0 ∷ 10 ∷ 0 ∷ 0 ∷ 0 ∷ 10 ∷ 0 ∷ 0 ∷ 0
    ∷ 1 ∷ 0 ∷ 0 ∷ 0 ∷ 1 ∷ 0 ∷ 0 ∷ 0 ∷ 0 ∷ 0 ∷ 0 ∷ 0 ∷ 0 ∷ 0 ∷ 0 ∷ 0 ∷ 10 ∷ 0 ∷ 0 ∷ 0 ∷ 10 ∷ 0 ∷ 0 ∷ 0
    -- rings: first op, points, how many, box
    ∷ 0 ∷ 0 ∷ 0 ∷ 0 ∷ 4 ∷ 0 ∷ 0 ∷ 0 ∷ 2 ∷ 0 ∷ 0 ∷ 0 ∷ 0 ∷ 0 ∷ 0 ∷ 0 ∷ 0 ∷ 0 ∷ 0 ∷ 0 ∷ 10 ∷ 0 ∷ 0 ∷ 0 ∷ 10 ∷ 0 ∷ 0 ∷ 0
    ∷ 2 ∷ 0 ∷ 0 ∷ 0 ∷ 2 ∷ 0 ∷ 0 ∷ 0 ∷ 1 ∷ 0 ∷ 0 ∷ 0 ∷ 0 ∷ 0 ∷ 0 ∷ 0 ∷ 0 ∷ 0 ∷ 0 ∷ 0 ∷ 10 ∷ 0 ∷ 0 ∷ 0 ∷ 10 ∷ 0 ∷ 0 ∷ 0
    -- ops: group, and in the top bit whether turned
    ∷ 0 ∷ 0 ∷ 0 ∷ 0
    ∷ 1 ∷ 0 ∷ 0 ∷ 0
    ∷ 1 ∷ 0 ∷ 0 ∷ 128
    -- groups: first chunk, points, how many, entry, exit, box
    ∷ 0 ∷ 0 ∷ 0 ∷ 0 ∷ 3 ∷ 0 ∷ 0 ∷ 0 ∷ 2 ∷ 0 ∷ 0 ∷ 0 ∷ 0 ∷ 0 ∷ 0 ∷ 0 ∷ 0 ∷ 0 ∷ 0 ∷ 0 ∷ 10 ∷ 0 ∷ 0 ∷ 0 ∷ 10 ∷ 0 ∷ 0 ∷ 0 ∷ 0 ∷ 0 ∷ 0 ∷ 0 ∷ 0 ∷ 0 ∷ 0 ∷ 0 ∷ 10 ∷ 0 ∷ 0 ∷ 0 ∷ 10 ∷ 0 ∷ 0 ∷ 0
    ∷ 2 ∷ 0 ∷ 0 ∷ 0 ∷ 3 ∷ 0 ∷ 0 ∷ 0 ∷ 1 ∷ 0 ∷ 0 ∷ 0 ∷ 10 ∷ 0 ∷ 0 ∷ 0 ∷ 10 ∷ 0 ∷ 0 ∷ 0 ∷ 0 ∷ 0 ∷ 0 ∷ 0 ∷ 0 ∷ 0 ∷ 0 ∷ 0 ∷ 0 ∷ 0 ∷ 0 ∷ 0 ∷ 0 ∷ 0 ∷ 0 ∷ 0 ∷ 10 ∷ 0 ∷ 0 ∷ 0 ∷ 10 ∷ 0 ∷ 0 ∷ 0
    -- chunks: where their points stand, how many, box
    ∷ 0 ∷ 0 ∷ 0 ∷ 0 ∷ 2 ∷ 0 ∷ 0 ∷ 0 ∷ 0 ∷ 0 ∷ 0 ∷ 0 ∷ 0 ∷ 0 ∷ 0 ∷ 0 ∷ 10 ∷ 0 ∷ 0 ∷ 0 ∷ 10 ∷ 0 ∷ 0 ∷ 0
    ∷ 4 ∷ 0 ∷ 0 ∷ 0 ∷ 1 ∷ 0 ∷ 0 ∷ 0 ∷ 0 ∷ 0 ∷ 0 ∷ 0 ∷ 0 ∷ 0 ∷ 0 ∷ 0 ∷ 10 ∷ 0 ∷ 0 ∷ 0 ∷ 10 ∷ 0 ∷ 0 ∷ 0
    ∷ 6 ∷ 0 ∷ 0 ∷ 0 ∷ 3 ∷ 0 ∷ 0 ∷ 0 ∷ 0 ∷ 0 ∷ 0 ∷ 0 ∷ 0 ∷ 0 ∷ 0 ∷ 0 ∷ 10 ∷ 0 ∷ 0 ∷ 0 ∷ 10 ∷ 0 ∷ 0 ∷ 0
    -- points: the first whole, then deltas, zigzag
    ∷ 0 ∷ 0 ∷ 20 ∷ 0
    ∷ 20 ∷ 20
    ∷ 20 ∷ 20 ∷ 19 ∷ 0 ∷ 0 ∷ 19
    ∷ []

-- directories in a row; no names and no GRID, of which the rules do not speak
abbrev pub opened : Opened
opened =
    record {
      flags = 0;
      names = record { off = 0; len = 0 };
      zones = record { off = 0; count = 1 };
      polys = record { off = 24; count = 2 };
      rings = record { off = 72; count = 2 };
      ops = record { off = 128; count = 3 };
      groups = record { off = 140; count = 2 };
      chunks = record { off = 228; count = 3 };
      points = record { off = 300; len = 12 };
      grid = record { off = 0; lng = pos 0; lat = pos 0; cols = 0; rows = 0; total = 0 };
    }

-- places, what stands there instead, and the lowest broken rule
pub data Row : Type 0 where
  row : List (ℕ × ℕ) → ℕ → Row

abbrev pub changed : List ℕ → List (ℕ × ℕ) → List ℕ
changed s [] = s
changed s (c ∷ cs) = changed (set s c.0 c.1) cs

abbrev pub told : Row → Bool
told (row changes n) = eqb (lowest_broken opened (changed bytes changes)) n

abbrev pub rows : List Row
rows =
    -- as it stands: accepted
    (row [] 0)
    -- F2: the zone's box turned round
    ∷ (row ((8, 11) ∷ []) 2)
    -- the zone names no polygon
    ∷ (row ((4, 0) ∷ []) 2)
    -- the zone names a third polygon
    ∷ (row ((4, 3) ∷ []) 2)
    -- the second polygon's box turned round
    ∷ (row ((56, 11) ∷ []) 2)
    -- the second polygon names a third ring
    ∷ (row ((52, 2) ∷ []) 2)
    -- the second ring's box turned round
    ∷ (row ((112, 11) ∷ []) 2)
    -- the first ring counts a point more
    ∷ (row ((76, 5) ∷ []) 2)
    -- the second ring counts a point less
    ∷ (row ((104, 1) ∷ []) 2)
    -- the last op names a third group
    ∷ (row ((136, 2) ∷ []) 2)
    -- the second ring goes to (0, 0) and back: two segments that are not degenerate
    ∷ (row ((309, 19) ∷ (311, 0) ∷ []) 2)
    -- the same where no polygon names it
    ∷ (row ((48, 0) ∷ (309, 19) ∷ (311, 0) ∷ []) 2)
    -- it stays at (10, 10): none; its group's exit is elsewhere too
    ∷ (row ((308, 0) ∷ (311, 0) ∷ []) 2)
    -- F3: the first chunk's last number goes on
    ∷ (row ((303, 128) ∷ []) 3)
    -- the second chunk counts a point more
    ∷ (row ((256, 2) ∷ []) 3)
    -- the last chunk counts a point less
    ∷ (row ((280, 2) ∷ []) 3)
    -- the last chunk's last number goes on
    ∷ (row ((311, 128) ∷ []) 3)
    -- the last chunk has no point
    ∷ (row ((280, 0) ∷ []) 3)
    -- F4: the first chunk's box does not reach its last point
    ∷ (row ((244, 9) ∷ []) 4)
    -- it does, and not the next chunk's first
    ∷ (row ((248, 9) ∷ []) 4)
    -- the last chunk's box does not reach its first point
    ∷ (row ((292, 9) ∷ []) 4)
    -- F5: the first group's box does not reach its chunks'
    ∷ (row ((176, 9) ∷ []) 5)
    -- its second chunk's box reaches further than its own
    ∷ (row ((268, 11) ∷ []) 5)
    -- the first group's entry is elsewhere
    ∷ (row ((152, 1) ∷ []) 5)
    -- the first group's exit is elsewhere
    ∷ (row ((164, 9) ∷ []) 5)
    -- the second group's entry is elsewhere
    ∷ (row ((196, 9) ∷ []) 5)
    -- the second group's exit is elsewhere
    ∷ (row ((204, 1) ∷ []) 5)
    -- F6: the second group's box reaches further than the first ring's, whose second op names it
    ∷ (row ((220, 11) ∷ (120, 11) ∷ (64, 11) ∷ (16, 11) ∷ []) 6)
    -- the second ring's box does not reach its group's
    ∷ (row ((120, 9) ∷ []) 6)
    -- the second ring's box reaches further than its polygon's
    ∷ (row ((120, 11) ∷ []) 6)
    -- the second polygon's box reaches further than its zone's
    ∷ (row ((64, 11) ∷ []) 6)
    -- the zone's box does not reach its polygons'
    ∷ (row ((20, 9) ∷ []) 6)
    -- two at once: the lower is given
    ∷ (row ((248, 9) ∷ (152, 1) ∷ []) 4)
    ∷ (row ((311, 128) ∷ (136, 2) ∷ []) 2)
    ∷ (row ((16, 9) ∷ (292, 9) ∷ []) 4)
    ∷ (row ((20, 9) ∷ (204, 1) ∷ []) 5)
    -- a ring of two segments, and a chunk that does not decode: the segments are not looked at
    ∷ (row ((303, 128) ∷ (309, 19) ∷ (311, 0) ∷ []) 3)
    -- a ring of two segments, and F4, F5, F6
    ∷ (row ((244, 9) ∷ (309, 19) ∷ (311, 0) ∷ []) 2)
    ∷ (row ((152, 1) ∷ (309, 19) ∷ (311, 0) ∷ []) 2)
    ∷ (row ((20, 9) ∷ (309, 19) ∷ (311, 0) ∷ []) 2)
    ∷ []

pub judged : T (every told rows)
unfolding lowest_broken rule records_hold chunks_decode rings_have_room has_room proper ring_sides directories ring_record op_word group_record chunk_shape Layout.ring_at Layout.leg_at Layout.group_at chunk_boxes_cover groups_cover boxes_cover all_met met all run holds answered group_of_op sum_of_ops points_add chunk_covers joint_covers joints_cover chunk_under group_under ring_under poly_under ends_fit group_covers ring_covers poly_covers zone_covers in_box covers same_point Records.list_at Records.ring_at Records.op_at Records.group_at Records.chunk_at Records.ruled Records.record_at Records.list_in Records.list_rule Records.ring_in Records.ring_rule Records.count_rule Records.op_rule Records.group_in Records.group_rule Records.chunk_in Records.chunk_rule Records.box_in Records.point_in Records.fits_below Loads.inside le ordered box_in_domain in_domain chunk_points bytes_of end_of span start_of first_in first_at points_of points_from walk_from along Points.first_from Points.next_at Points.numbers_at Points.moved_by Points.must_lie add_delta fits32 number_at digits
judged = tt
