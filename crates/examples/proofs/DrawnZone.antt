-- The full check accepts the worked file, so all that is said of accepted files is said of this one: containment in its zone is, at every whole-number point, what exact geometry says of the zone as it was drawn; and two lookups.
-- Assumes nothing.
use Prim.Native.Nat.{ℕ}
use native.Mathlib.Omega.{arith}
use mathlib.Core.Path.{◌≡◌, refl, sym, ap, ◌∙◌}
use mathlib.Core.Bool.{Bool, true, false, cond}
use lib.IntN.{pos}
use lib.Ieee as I
use lib.Ieee.{Float, fin, binary64, of_bits, of_int, mul}
use Rattle.plane.specs.declared.I32Point.{I32Point}
use Rattle.plane.specs.Segment.{cross, amid_z, on_z, counts_z, seg, same_point}
use Rattle.plane.specs.Runs.{run}
use Rattle.plane.specs.Domain as A
use Rattle.answer.specs.Answers.{ok, holds, answered}
use Rattle.answer.specs.Checks as K
use Rattle.fields.specs.Le as E
use Rattle.fields.specs.Loads as L
use Rattle.checksum.specs.Crc32 as R
use Rattle.boxes.specs.Box as B
use Rattle.chunks.specs.Delta as Deltas
use Rattle.varints.specs.Varint.{number_at, digits}
use Rattle.chunks.specs.Points as Points
use Rattle.chunks.specs.Along.{along, walk_from}
use Rattle.chunks.specs.Decode.{points_of}
use Rattle.shapes.specs.Shapes.{Zone, ring_in, polygon_in, zone_in, in_box, covers}
use Rattle.shapes.specs.Words.{ring_sides, proper, has_room}
use Rattle.shapes.specs.Layout.{group_at, leg_at, ring_at, polygon_at, zone_at}
use Rattle.shapes.specs.Example.{zone}
use Rattle.reader_head.specs.Head as H
use Rattle.reader_table.specs.Table as T
use Rattle.reader_opened.specs.Opened as O
use Rattle.reader_names.specs.Names as N
use Rattle.reader_cells.specs.Asked as C
use Rattle.reader_records.specs.Records as S
use Rattle.reader_dirs.specs.Dirs as D
use Rattle.reader_chunks.specs.Chunks.{start_of, end_of, span, bytes_of, first_in, first_at, chunk_points}
use Rattle.reader_zones.specs.Zones.{contains_at}
use Rattle.directories.specs.Directories.{zone_record, poly_record, ring_record, op_word, group_record, chunk_shape, directories}
use Rattle.reader_cover.specs.Cover.{points_add, chunk_covers, joint_covers, joints_cover, chunk_under, group_under, ring_under, poly_under, ends_fit, group_covers, ring_covers, poly_covers, zone_covers, group_of_op, sum_of_ops}
use Rattle.reader_check.specs.FullCheck.{met, all_met, records_hold, chunks_decode, rings_have_room, chunk_boxes_cover, groups_cover, boxes_cover, rule, lowest_broken}
use Rattle.reader_lookup.specs.Asking.{scaled, lookup_of}
use Rattle.tzb.specs.Opening as P
use Rattle.tzb.specs.FullCheck.{full_check_of}
use Rattle.examples.specs.DrawnZone.{file, opened}
use Rattle.demands.specs.Words.{Position}
use Rattle.demands.specs.Lookups.{exactly_in, candidate_zones, first_that, shortcut}
use Rattle.demands.proofs.Demand3.{contains_is}
use Rattle.demands.proofs.Lookups.{lookups_exact}
use Rattle.plane.specs.Places.{point_of}
use Rattle.reader_cover.specs.All.{all}
use Rattle.replies.specs.Replies.{accepted, nowhere, in_zone}
use Rattle.basics.specs.Total.{total}
use Rattle.replies.specs.Replies as Told
use Rattle.tzb.proofs.FullCheckLaws.{full_accepted}
use Rattle.chunks.specs.Steps.{points_from}

-- F1
pub opens : ok opened ≡ P.open_of file
unfolding file opened E.le R.step R.steps R.bytes R.crc32 K.claim K.deny K.and_then K.first K.each K.seek K.at_most K.below K.same K.both K.either H.start_check H.is_count H.fields_check H.is_zero H.not_zero H.version_end H.version_check H.bounds_check H.head_check T.is_type T.has T.repeats T.banned T.apart T.apart_at T.placed_check T.typed_check T.entry_check T.entries_check T.entry_at T.section_of O.present_at O.present_check O.bit O.flag_check O.zones_check O.lengths_check O.counts_check O.sections_of O.grid_of O.directory_of O.opened_of N.shape_check N.offset_rule N.prior N.offset_check N.text_check N.text_at N.names_check S.record_at S.ruled S.box_in S.point_in S.fits_below S.list_in S.list_rule S.list_at S.ring_in S.ring_rule S.ring_at S.count_rule S.op_rule S.op_at S.group_in S.group_rule S.group_at S.chunk_in S.chunk_rule S.chunk_at D.chunk_check D.least_off D.chunk_check_at D.chunks_check total D.count_at D.group_check D.group_check_at D.groups_check P.table_check P.sizes_check P.names_in P.grid_in P.contents_check P.open_of B.contains B.relevant B.right B.ordered B.box_in_domain Deltas.fits32 Deltas.add_delta A.in_domain
opens = refl

-- F2 to F6
none_broken : 0 ≡ lowest_broken opened file
unfolding file opened lowest_broken rule records_hold chunks_decode rings_have_room has_room proper ring_sides directories ring_record op_word group_record chunk_shape ring_at leg_at group_at chunk_boxes_cover groups_cover boxes_cover all_met met all run holds answered group_of_op sum_of_ops points_add chunk_covers joint_covers joints_cover chunk_under group_under ring_under poly_under ends_fit group_covers ring_covers poly_covers zone_covers in_box covers same_point S.list_at S.ring_at S.op_at S.group_at S.chunk_at S.ruled S.record_at S.list_in S.list_rule S.ring_in S.ring_rule S.count_rule S.op_rule S.group_in S.group_rule S.chunk_in S.chunk_rule S.box_in S.point_in S.fits_below L.inside E.le B.ordered B.box_in_domain A.in_domain chunk_points bytes_of end_of span start_of first_in first_at points_of points_from walk_from along Points.first_from Points.next_at Points.numbers_at Points.moved_by Points.must_lie Deltas.add_delta Deltas.fits32 number_at digits
none_broken = refl

pub accepts : full_check_of file ≡ accepted
accepts = sym (full_accepted file opened opens 0 none_broken refl)

-- its zone is the drawn one
pub made : zone_at (directories opened file) 0 ≡ zone
unfolding file opened directories zone_record poly_record ring_record op_word group_record chunk_shape zone_at polygon_at ring_at leg_at group_at run S.list_at S.ring_at S.op_at S.group_at S.chunk_at S.ruled S.record_at S.list_in S.list_rule S.ring_in S.ring_rule S.op_rule S.group_in S.group_rule S.chunk_in S.chunk_rule S.box_in S.point_in S.fits_below L.inside E.le B.ordered B.box_in_domain A.in_domain chunk_points bytes_of end_of span start_of points_of points_from walk_from along Points.first_from Points.next_at Points.numbers_at Points.moved_by Points.must_lie Deltas.add_delta Deltas.fits32 number_at digits
made = refl

-- demand 3 for it: at every whole-number point
pub as_drawn : (q : I32Point) → contains_at opened file 0 q ≡ ok (zone_in (seg q) zone)
unfolding opened
as_drawn q = contains_is file accepts opened opens 0 (omega arith) q ∙ ap (λ (z : Zone). ok (zone_in (seg q) z)) made

-- ---- two lookups: of the only zone, with no GRID
abbrev at : ℕ → ℕ → I32Point
at x y = record { x = pos x; y = pos y }

-- the floats nearest to 0.00017 and 0.0001 degrees
abbrev pub seventeen : Float
seventeen = of_bits binary64 0x3f26_4840_e171_9f80

abbrev pub ten : Float
ten = of_bits binary64 0x3f1a_36e2_eb1c_432d

one_zone : (q : I32Point) (b : Bool) → zone_in (seg q) zone ≡ b → first_that (exactly_in opened file q) (candidate_zones opened file (Told.all 1)) ≡ cond b (in_zone 0) nowhere
unfolding first_that candidate_zones run
one_zone q b e = rw (made, e)

all_zones : (lng lat : Float) → C.on_earth lng lat ≡ true → ok (Told.all 1) ≡ C.candidates_of opened file lng lat
unfolding C.candidates_of opened K.same
all_zones lng lat e = rw e

looked : (lng lat : Float) → C.on_earth lng lat ≡ true → (p : Position) → scaled lng lat ≡ point_of p.at → (b : Bool) → zone_in (seg p.at) zone ≡ b → lookup_of opened file lng lat ≡ ok (cond b (in_zone 0) nowhere)
unfolding shortcut
looked lng lat on p whole b e =
    (lookups_exact file accepts opened opens lng lat (Told.all 1) (all_zones lng lat on) p whole).lookup refl
    ∙ ap ok (one_zone p.at b e)

-- both are scaled to whole numbers
abbrev hundred_thousand : Float
hundred_thousand = of_int binary64 (pos 100_000)

is_17 : mul binary64 seventeen hundred_thousand ≡ fin false 17 (pos 0)
unfolding mul of_int of_bits
is_17 = refl

is_10 : mul binary64 ten hundred_thousand ≡ fin false 5 (pos 1)
unfolding mul of_int of_bits
is_10 = refl

float_17 : of_int binary64 (pos 17) ≡ fin false 17 (pos 0)
unfolding of_int
float_17 = refl

float_10 : of_int binary64 (pos 10) ≡ fin false 5 (pos 1)
unfolding of_int
float_10 = refl

scaled_to : (lng lat : Float) (m n : ℕ) → mul binary64 lng hundred_thousand ≡ of_int binary64 (pos m) → mul binary64 lat hundred_thousand ≡ of_int binary64 (pos n) → scaled lng lat ≡ point_of (at m n)
unfolding scaled
scaled_to lng lat m n e f = rw (e, f)

-- 17, 10: between the hole and the square's edge
pub in_square : lookup_of opened file seventeen ten ≡ ok (in_zone 0)
unfolding C.on_earth I.le I.lt I.eq of_int of_bits zone_in polygon_in ring_in seg on_z counts_z amid_z cross same_point
in_square = looked seventeen ten refl (record { at = at 17 10; longitude = omega arith; latitude = omega arith }) (scaled_to seventeen ten 17 10 (is_17 ∙ sym float_17) (is_10 ∙ sym float_10)) true refl

-- 10, 10: in the hole
pub in_hole_law : lookup_of opened file ten ten ≡ ok nowhere
unfolding C.on_earth I.le I.lt I.eq of_int of_bits zone_in polygon_in ring_in seg on_z counts_z amid_z cross same_point
in_hole_law = looked ten ten refl (record { at = at 10 10; longitude = omega arith; latitude = omega arith }) (scaled_to ten ten 10 10 (is_10 ∙ sym float_10) (is_10 ∙ sym float_10)) false refl
