-- The directories that a file holds, as shapes has them: each record, and each chunk's points, as the reader answers them. Where it refuses, a fixed value stands in; of a sound file (specs/Sound) none is ever asked for.
-- Assumes nothing.
use Rattle.std.specs.Prelude.{ℕ, List, [], ◌∷◌, pos}
use Rattle.plane.specs.declared.I32Point.{I32Point}
use Rattle.plane.specs.Lines.{origin}
use Rattle.answer.specs.Answers.{ok, ◌then◌, value_or}
use Rattle.boxes.specs.declared.BBox.{BBox}
use Rattle.shapes.specs.Shapes.{Chunk}
use Rattle.shapes.specs.Layout.{Span, Directories}
use Rattle.opened.specs.declared.Opened.{Opened}
use Rattle.reader_records.specs.declared.ListRecord.{ListRecord}
use Rattle.reader_records.specs.declared.RingRecord.{RingRecord}
use Rattle.reader_records.specs.declared.GroupRecord.{GroupRecord}
use Rattle.reader_records.specs.Records.{poly_at, ring_at, group_index, turns_round, op_at, group_at, chunk_at, tz_at}
use Rattle.reader_chunks.specs.Chunks.{chunk_points}

-- ---- what stands in
pub nowhere : BBox
nowhere = record { minx = pos 0; miny = pos 0; maxx = pos 0; maxy = pos 0 }

pub no_list : ListRecord
no_list = record { first = 0; count = 0; bbox = nowhere }

unfoldable pub no_ring : RingRecord
no_ring = record { first = 0; points = 0; count = 0; bbox = nowhere }

pub no_group : GroupRecord
no_group = record { first = 0; points = 0; count = 0; entry = origin; exit = origin; bbox = nowhere }

pub no_chunk : Chunk
no_chunk = record { box = nowhere; first = origin; rest = [] }

-- a chunk with its points
abbrev pub shape_from : BBox → List I32Point → Chunk
shape_from b [] = record { box = b; first = origin; rest = [] }
shape_from b (q ∷ l) = record { box = b; first = q; rest = l }

-- what a record names: of a zone or a polygon, of a ring, of a group
abbrev pub list_span : ListRecord → Span
list_span v = record { box = v.bbox; first = v.first; count = v.count }

abbrev pub ring_span : RingRecord → Span
ring_span v = record { box = v.bbox; first = v.first; count = v.count }

abbrev pub group_span : GroupRecord → Span
group_span v = record { box = v.bbox; first = v.first; count = v.count }

module _ (o : Opened) (s : List ℕ) where
  -- ---- each record, by index
  unfoldable pub zone_record : ℕ → ListRecord
  zone_record i = value_or no_list (tz_at o s i)

  unfoldable pub poly_record : ℕ → ListRecord
  poly_record i = value_or no_list (poly_at o s i)

  unfoldable pub ring_record : ℕ → RingRecord
  ring_record i = value_or no_ring (ring_at o s i)

  -- a ring op's word
  unfoldable pub op_word : ℕ → ℕ
  op_word i = value_or 0 (op_at o s i)

  unfoldable pub group_record : ℕ → GroupRecord
  group_record i = value_or no_group (group_at o s i)

  unfoldable pub chunk_shape : ℕ → Chunk
  chunk_shape i = value_or no_chunk (chunk_at o s i then λ v. chunk_points o s i then λ l. ok (shape_from v.bbox l))

  -- the group that an op names, and its point count
  abbrev pub op_group : ℕ → ℕ
  op_group i = group_index (op_word i)

  abbrev pub op_points : ℕ → ℕ
  op_points i = (group_record (op_group i)).points

  -- ---- all of them
  unfoldable pub directories : Directories
  directories =
      record {
        chunks = o.chunks.count;
        groups = o.groups.count;
        ops = o.ops.count;
        rings = o.rings.count;
        polygons = o.polys.count;
        zones = o.zones.count;
        chunk_at = chunk_shape;
        group_span = λ i. group_span (group_record i);
        entry_at = λ i. (group_record i).entry;
        exit_at = λ i. (group_record i).exit;
        op_group = op_group;
        op_turned = λ i. turns_round (op_word i);
        ring_span = λ i. ring_span (ring_record i);
        polygon_span = λ i. list_span (poly_record i);
        zone_span = λ i. list_span (zone_record i);
      }
