-- A file's directories, by index; the zone that a zone number names; and what the record rule and the rules of the full check say of every entry.
-- Assumes nothing.
use Rattle.std.specs.Prelude.{ℕ, ◌+◌, ◌-◌, ◌≤◌, ◌<◌, ◌≡◌, Bool, true}
use Rattle.plane.specs.declared.I32Point.{I32Point}
use Rattle.plane.specs.Domain.{in_domain}
use Rattle.plane.specs.Lines.{every, last_of}
use Rattle.plane.specs.Runs.{run}
use Rattle.boxes.specs.declared.BBox.{BBox}
use Rattle.boxes.specs.Box.{box_in_domain}
use Rattle.shapes.specs.Shapes.{Chunk, Group, Leg, Ring, Polygon, Zone, chunk_points, in_box, covers, chunk_in_domain}
use Rattle.plane.specs.Segment.{same_point}

-- a record: its box, and the run of records of the directory below that it names
pub record Span : Type 0 where
  pub box : BBox
  pub first : ℕ
  pub count : ℕ

-- "count at least 1 and first + count within the directory below"
pub record Names (s : Span) (size : ℕ) : Type 0 where
  pub some : 0 < s.count
  pub fits : s.first + s.count ≤ size

-- how many records there are of each kind, and what each holds; a chunk with its points
pub record Directories : Type 0 where
  pub chunks : ℕ
  pub groups : ℕ
  pub ops : ℕ
  pub rings : ℕ
  pub polygons : ℕ
  pub zones : ℕ
  pub chunk_at : ℕ → Chunk
  pub group_span : ℕ → Span
  pub entry_at : ℕ → I32Point
  pub exit_at : ℕ → I32Point
  pub op_group : ℕ → ℕ
  pub op_turned : ℕ → Bool
  pub ring_span : ℕ → Span
  pub polygon_span : ℕ → Span
  pub zone_span : ℕ → Span

-- the place j is one of those that the record names
pub record Among (s : Span) (j : ℕ) : Type 0 where
  pub from : s.first ≤ j
  pub before : j < s.first + s.count

module _ (d : Directories) where
  -- ---- the shape that an index names
  unfoldable pub group_at : ℕ → Group
  group_at i =
      record {
        box = (d.group_span i).box;
        entry = d.entry_at i;
        exit = d.exit_at i;
        head = d.chunk_at (d.group_span i).first;
        tail = run d.chunk_at ((d.group_span i).count - 1) ((d.group_span i).first + 1);
      }

  unfoldable pub leg_at : ℕ → Leg
  leg_at i = record { turned = d.op_turned i; group = group_at (d.op_group i) }

  unfoldable pub ring_at : ℕ → Ring
  ring_at i = record { box = (d.ring_span i).box; legs = run leg_at (d.ring_span i).count (d.ring_span i).first }

  unfoldable pub polygon_at : ℕ → Polygon
  polygon_at i =
      record {
        box = (d.polygon_span i).box;
        outer = ring_at (d.polygon_span i).first;
        holes = run ring_at ((d.polygon_span i).count - 1) ((d.polygon_span i).first + 1);
      }

  unfoldable pub zone_at : ℕ → Zone
  zone_at i = record { box = (d.zone_span i).box; polygons = run polygon_at (d.zone_span i).count (d.zone_span i).first }

  -- ---- what the record rule and F2 say of every entry: what it names is there
  pub record Named : Type 0 where
    pub zone_names : (i : ℕ) → i < d.zones → Names (d.zone_span i) d.polygons
    pub polygon_names : (i : ℕ) → i < d.polygons → Names (d.polygon_span i) d.rings
    pub ring_names : (i : ℕ) → i < d.rings → Names (d.ring_span i) d.ops
    pub op_names : (i : ℕ) → i < d.ops → d.op_group i < d.groups
    pub group_names : (i : ℕ) → i < d.groups → Names (d.group_span i) d.chunks

  -- ---- F4 to F6, of every entry
  pub record Covered : Type 0 where
    -- "F4 Each chunk's box covers its points"
    pub chunk_covers_law : (i : ℕ) → i < d.chunks → every (in_box (d.chunk_at i).box) (chunk_points (d.chunk_at i)) ≡ true
    -- "and, within a group, the next chunk's first."
    pub joint_covers_law : (i j : ℕ) → i < d.groups → Among (d.group_span i) j → Among (d.group_span i) (j + 1) → in_box (d.chunk_at j).box (d.chunk_at (j + 1)).first ≡ true
    -- "F5 Each group's box covers its chunks' boxes;"
    pub group_covers_law : (i j : ℕ) → i < d.groups → Among (d.group_span i) j → covers (d.group_span i).box (d.chunk_at j).box ≡ true
    -- "entry and exit are its first and last point."
    pub entry_first : (i : ℕ) → i < d.groups → same_point (d.entry_at i) (d.chunk_at (d.group_span i).first).first ≡ true
    pub exit_last : (i : ℕ) → i < d.groups → same_point (d.exit_at i) (last_of (chunk_points (d.chunk_at ((d.group_span i).first + ((d.group_span i).count - 1))))) ≡ true
    -- "F6 Each ring's box covers its groups', each polygon's its rings', each zone's its polygons'."
    pub ring_covers_law : (i j : ℕ) → i < d.rings → Among (d.ring_span i) j → covers (d.ring_span i).box (d.group_span (d.op_group j)).box ≡ true
    pub polygon_covers : (i j : ℕ) → i < d.polygons → Among (d.polygon_span i) j → covers (d.polygon_span i).box (d.ring_span j).box ≡ true
    pub zone_covers_law : (i j : ℕ) → i < d.zones → Among (d.zone_span i) j → covers (d.zone_span i).box (d.polygon_span j).box ≡ true

  -- ---- the domain: the record rule asks it of boxes, entries and exits, and decoding (F3) of points
  pub record Domain : Type 0 where
    pub chunk_in_law : (i : ℕ) → i < d.chunks → chunk_in_domain (d.chunk_at i) ≡ true
    pub group_in_law : (i : ℕ) → i < d.groups → box_in_domain (d.group_span i).box ≡ true
    pub entry_in_law : (i : ℕ) → i < d.groups → in_domain (d.entry_at i) ≡ true
    pub exit_in : (i : ℕ) → i < d.groups → in_domain (d.exit_at i) ≡ true
    pub ring_in_law : (i : ℕ) → i < d.rings → box_in_domain (d.ring_span i).box ≡ true
    pub polygon_in_law : (i : ℕ) → i < d.polygons → box_in_domain (d.polygon_span i).box ≡ true
    pub zone_in_law : (i : ℕ) → i < d.zones → box_in_domain (d.zone_span i).box ≡ true
