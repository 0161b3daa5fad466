-- The worked zone of shapes as bytes (directories/specs/Example): the walk over them answers as drawn.
-- Assumes nothing.
use Rattle.std.specs.Prelude.{Bool, false, T}
use Rattle.std.specs.Bool.{beq}
use Rattle.std.specs.Float.Ieee as Ieee
use Rattle.std.specs.Float.Ieee.{lt, eq, of_int, sub, div}
use Rattle.plane.specs.Domain.{in_domain}
use Rattle.plane.specs.Lines.{every}
use Rattle.rounding.specs.Upward.{next_up}
use Rattle.answer.specs.Answers.{Answer, ok, refused}
use Rattle.answer.specs.Walks.{add}
use Rattle.fields.specs.Le.{le}
use Rattle.fields.specs.Loads as Loads
use Rattle.boxes.specs.Box.{ordered, box_in_domain, contains, relevant, right}
use Rattle.chunks.specs.Delta.{add_delta, fits32}
use Rattle.rays.specs.Ray.{ray_of, ray_at, touches, crosses, above_of, parity_of}
use Rattle.chunks.specs.Along.{along, walk_from}
use Rattle.chunks.specs.Scan.{scan_of}
use Rattle.varints.specs.Varint.{number_at, digits}
use Rattle.chunks.specs.Points as Points
use Rattle.shapes.specs.Example.{Row, rows}
use Rattle.reader_records.specs.Records as Records
use Rattle.reader_chunks.specs.Chunks.{start_of, end_of, span, first_in, scan_in}
use Rattle.reader_groups.specs.Groups.{next_first, skip_to, scan_to, joined_to, pass_at, last_in, last_at, chunks_from, group_scan}
use Rattle.reader_rings.specs.Rings.{turn_of, turned_at, joint_of, group_walk, turn_walk, op_step, ops_from, ring_end, ring_rest, ring_of, ring_contains}
use Rattle.reader_ways.specs.Ways.{group_scan_by}
use Rattle.reader_zones.specs.Zones.{poly_of, zone_by, contains_by, contains_at, first_so}
use Rattle.directories.specs.Example.{opened, bytes}
use Rattle.plane.specs.Segment.{same_point}
use Rattle.chunks.specs.Steps.{onward}

-- a row of the drawing is answered as drawn
abbrev pub said : Answer Bool → Bool → Bool
said (ok b) answer = beq b answer
said (refused r) answer = false

pub walked : T (every (λ (r : Row). said (contains_at opened bytes 0 r.p) r.answer) rows)
unfolding contains_by zone_by first_so poly_of ring_contains ring_of ring_rest ring_end ops_from op_step turn_walk group_walk joint_of turned_at turn_of group_scan_by group_scan chunks_from last_at last_in pass_at joined_to scan_to skip_to next_first scan_in first_in scan_of onward walk_from along add Records.count_rule contains relevant right ray_of ray_at touches crosses above_of parity_of same_point lt Ieee.le eq of_int sub div Ieee.ne Ieee.to_bits Ieee.of_bits next_up Records.list_at Records.ring_at Records.op_at Records.group_at Records.chunk_at Records.ruled Records.record_at Records.list_in Records.list_rule Records.ring_in Records.ring_rule Records.op_rule Records.group_in Records.group_rule Records.chunk_in Records.chunk_rule Records.box_in Records.point_in Records.fits_below Loads.inside le ordered box_in_domain in_domain end_of span start_of Points.first_from Points.next_at Points.numbers_at Points.moved_by Points.must_lie add_delta fits32 number_at digits
walked = tt
