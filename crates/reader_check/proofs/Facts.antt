-- What each rule says of each record, by its index.
-- Assumes nothing.
use Prim.Native.Nat.{ℕ, ◌+◌, ◌-◌, ◌≤◌, ◌<◌}
use native.Mathlib.Omega.{arith}
use mathlib.Core.Path.{◌≡◌}
use mathlib.Core.Bool.{true}
use mathlib.Core.List.{List, ◌∷◌}
use Rattle.basics.specs.Truth.{and_l, and_r}
use Rattle.plane.specs.declared.I32Point.{I32Point}
use Rattle.plane.specs.Lines.{every, last_of}
use Rattle.answer.specs.Answers.{ok, holds}
use Rattle.shapes.specs.Shapes.{in_box, covers}
use Rattle.opened.specs.declared.Opened.{Opened}
use Rattle.reader_records.specs.declared.ListRecord.{ListRecord}
use Rattle.reader_records.specs.declared.RingRecord.{RingRecord}
use Rattle.reader_records.specs.declared.GroupRecord.{GroupRecord}
use Rattle.reader_records.specs.declared.ChunkRecord.{ChunkRecord}
use Rattle.reader_records.specs.Records.{poly_at, ring_at, op_at, group_at, group_index, chunk_at, count_rule, tz_at}
use Rattle.reader_chunks.specs.Chunks.{first_at, chunk_points}
use Rattle.reader_cover.specs.Cover.{points_add, chunk_covers, joint_covers, joints_cover, chunk_under, group_under, ring_under, poly_under, ends_fit, group_covers, ring_covers, poly_covers, zone_covers, group_of_op, sum_of_ops}
use Rattle.reader_check.specs.FullCheck as D
use Rattle.reader_check.specs.FullCheck.{Demand, asked, met, all_met, records_hold, chunks_decode, rings_have_room, chunk_boxes_cover, groups_cover, boxes_cover}
use Rattle.reader_cover.specs.All.{all}
use Rattle.shapes.specs.Words.{has_room}
use Rattle.shapes.specs.Layout as Layout
use Rattle.directories.specs.Directories.{directories}
use Rattle.answer.proofs.AnswersLaws.{then_inv, holds_at, held, answer_of_law}
use Rattle.reader_cover.proofs.Sums.{sum_each}
use Rattle.reader_cover.proofs.AllLaws.{all_at}
use Rattle.plane.specs.Segment.{same_point}

module _ (o : Opened) (s : List ℕ) where
  -- of demands that are all met: the first, and the rest
  one : (d : Demand) (l : List Demand) → all_met o s (d ∷ l) ≡ true → met o s d ≡ true
  unfolding all_met
  one d l h = and_l (met o s d) (all_met o s l) h

  rest : (d : Demand) (l : List Demand) → all_met o s (d ∷ l) ≡ true → all_met o s l ≡ true
  unfolding all_met
  rest d l h = and_r (met o s d) (all_met o s l) h

  -- what a demand that is met asks of record i
  each : (d : Demand) → met o s d ≡ true → (i : ℕ) → i < (asked o s d).count → (asked o s d).test i ≡ true
  unfolding met
  each d h i l = all_at (asked o s d).test (asked o s d).count 0 h i (omega arith) (omega arith)

-- ---- F2
module _ (o : Opened) (s : List ℕ) (h : records_hold o s ≡ true) where
  parts : (met o s D.Zone ≡ true) × (met o s D.Polygon ≡ true) × (met o s D.Op ≡ true) × (met o s D.Ring ≡ true)
  unfolding records_hold
  parts =
      let a = rest o s _ _ h in
      let b = rest o s _ _ a in
      (one o s _ _ h, one o s _ _ a, one o s _ _ b, one o s _ _ (rest o s _ _ b))

  module _ (i : ℕ) where
    pub zone_there : i < o.zones.count → (v : ListRecord) × (ok v ≡ tz_at o s i)
    zone_there l = answer_of_law (tz_at o s i) (each o s D.Zone parts.0 i l)

    pub poly_there : i < o.polys.count → (v : ListRecord) × (ok v ≡ poly_at o s i)
    poly_there l = answer_of_law (poly_at o s i) (each o s D.Polygon parts.1 i l)

    pub op_there : i < o.ops.count → (w : ℕ) × (ok w ≡ op_at o s i)
    op_there l = answer_of_law (op_at o s i) (each o s D.Op parts.2 i l)

    module _ (l : i < o.rings.count) where
      ring_passes : holds (points_add o s) (ring_at o s i) ≡ true
      ring_passes = each o s D.Ring parts.3 i l

      pub ring_there : (v : RingRecord) × (ok v ≡ ring_at o s i)
      ring_there = let g = held (points_add o s) (ring_at o s i) ring_passes in (g.0, g.1)

      -- its groups' point counts, and that they add
      pub ring_adds : (v : RingRecord) → ok v ≡ ring_at o s i → (t : ℕ) × (ok t ≡ sum_of_ops o s v.count v.first) × (count_rule v t ≡ true)
      unfolding points_add
      ring_adds v e = held (count_rule v) (sum_of_ops o s v.count v.first) (holds_at (points_add o s) (ring_at o s i) v e ring_passes)

      -- and each of its ops has its group
      pub ring_legs : (v : RingRecord) → ok v ≡ ring_at o s i → (j : ℕ) → v.first ≤ j → j < v.first + v.count → (w : ℕ) × (g : GroupRecord) × (ok w ≡ op_at o s j) × (ok g ≡ group_at o s (group_index w))
      unfolding group_of_op
      ring_legs v e j a b =
          let t = ring_adds v e in
          let g = sum_each o s v.count v.first t.0 t.1 j a b in
          let w = then_inv (op_at o s j) (λ w. group_at o s (group_index w)) g.0 g.1 in
          (w.0, g.0, w.1, w.2)

-- ---- F3
module _ (o : Opened) (s : List ℕ) (h : chunks_decode o s ≡ true) where
  pub chunk_decodes : (i : ℕ) → i < o.chunks.count → (l : List I32Point) × (ok l ≡ chunk_points o s i)
  unfolding chunks_decode
  chunk_decodes i m = answer_of_law (chunk_points o s i) (each o s D.Decode (one o s _ _ h) i m)

-- ---- F2, document 02's part
module _ (o : Opened) (s : List ℕ) (h : rings_have_room o s ≡ true) where
  pub ring_room : (i : ℕ) → i < o.rings.count → has_room (Layout.ring_at (directories o s) i) ≡ true
  unfolding rings_have_room
  ring_room i m = each o s D.Room (one o s _ _ h) i m

-- ---- F4
module _ (o : Opened) (s : List ℕ) (h : chunk_boxes_cover o s ≡ true) where
  own : met o s D.Chunk ≡ true
  unfolding chunk_boxes_cover
  own = one o s _ _ h

  next : met o s D.Joints ≡ true
  unfolding chunk_boxes_cover
  next = one o s _ _ (rest o s _ _ h)

  pub chunk_covers_law : (i : ℕ) → i < o.chunks.count → (v : ChunkRecord) → ok v ≡ chunk_at o s i → (l : List I32Point) → ok l ≡ chunk_points o s i → every (in_box v.bbox) l ≡ true
  unfolding chunk_covers
  chunk_covers_law i m v e l f =
      holds_at (every (in_box v.bbox)) (chunk_points o s i) l f
      (holds_at (λ v. holds (every (in_box v.bbox)) (chunk_points o s i)) (chunk_at o s i) v e (each o s D.Chunk own i m))

  pub joint_covers_law : (i : ℕ) → i < o.groups.count → (g : GroupRecord) → ok g ≡ group_at o s i → (j : ℕ) → g.first ≤ j → j + 1 < g.first + g.count
      → (v : ChunkRecord) → ok v ≡ chunk_at o s j → (q : I32Point) → ok q ≡ first_at o s (j + 1) → in_box v.bbox q ≡ true
  unfolding joints_cover joint_covers
  joint_covers_law i m g e j a b v f q k =
      holds_at (in_box v.bbox) (first_at o s (j + 1)) q k
      (holds_at (λ v. holds (in_box v.bbox) (first_at o s (j + 1))) (chunk_at o s j) v f
      (all_at (joint_covers o s) (g.count - 1) g.first (holds_at (joints_cover o s) (group_at o s i) g e (each o s D.Joints next i m)) j a (omega arith)))

-- ---- F5
module _ (o : Opened) (s : List ℕ) (h : groups_cover o s ≡ true) (i : ℕ) (m : i < o.groups.count) (g : GroupRecord) (e : ok g ≡ group_at o s i) where
  passes : group_covers o s g ≡ true
  unfolding groups_cover
  passes = holds_at (group_covers o s) (group_at o s i) g e (each o s D.Group (one o s _ _ h) i m)

  ends : ends_fit o s g ≡ true
  unfolding group_covers
  ends = and_r (all (chunk_under o s g.bbox) g.count g.first) (ends_fit o s g) passes

  pub group_covers_law : (j : ℕ) → g.first ≤ j → j < g.first + g.count → (v : ChunkRecord) → ok v ≡ chunk_at o s j → covers g.bbox v.bbox ≡ true
  unfolding group_covers chunk_under
  group_covers_law j a b v f =
      holds_at (λ v. covers g.bbox v.bbox) (chunk_at o s j) v f
      (all_at (chunk_under o s g.bbox) g.count g.first (and_l (all (chunk_under o s g.bbox) g.count g.first) (ends_fit o s g) passes) j a b)

  pub entry_first : (q : I32Point) → ok q ≡ first_at o s g.first → same_point g.entry q ≡ true
  unfolding ends_fit
  entry_first q f =
      holds_at (same_point g.entry) (first_at o s g.first) q f
      (and_l (holds (same_point g.entry) (first_at o s g.first)) (holds (λ l. same_point g.exit (last_of l)) (chunk_points o s (g.first + (g.count - 1)))) ends)

  pub exit_last : (l : List I32Point) → ok l ≡ chunk_points o s (g.first + (g.count - 1)) → same_point g.exit (last_of l) ≡ true
  unfolding ends_fit
  exit_last l f =
      holds_at (λ l. same_point g.exit (last_of l)) (chunk_points o s (g.first + (g.count - 1))) l f
      (and_r (holds (same_point g.entry) (first_at o s g.first)) (holds (λ l. same_point g.exit (last_of l)) (chunk_points o s (g.first + (g.count - 1)))) ends)

-- ---- F6
module _ (o : Opened) (s : List ℕ) (h : boxes_cover o s ≡ true) where
  levels : (met o s D.RingBox ≡ true) × (met o s D.PolygonBox ≡ true) × (met o s D.ZoneBox ≡ true)
  unfolding boxes_cover
  levels =
      let a = rest o s _ _ h in
      (one o s _ _ h, one o s _ _ a, one o s _ _ (rest o s _ _ a))

  pub ring_covers_law : (i : ℕ) → i < o.rings.count → (v : RingRecord) → ok v ≡ ring_at o s i → (j : ℕ) → v.first ≤ j → j < v.first + v.count
      → (g : GroupRecord) → ok g ≡ group_of_op o s j → covers v.bbox g.bbox ≡ true
  unfolding ring_covers group_under
  ring_covers_law i m v e j a b g f =
      holds_at (λ g. covers v.bbox g.bbox) (group_of_op o s j) g f
      (all_at (group_under o s v.bbox) v.count v.first (holds_at (ring_covers o s) (ring_at o s i) v e (each o s D.RingBox levels.0 i m)) j a b)

  pub poly_covers_law : (i : ℕ) → i < o.polys.count → (v : ListRecord) → ok v ≡ poly_at o s i → (j : ℕ) → v.first ≤ j → j < v.first + v.count
      → (r : RingRecord) → ok r ≡ ring_at o s j → covers v.bbox r.bbox ≡ true
  unfolding poly_covers ring_under
  poly_covers_law i m v e j a b r f =
      holds_at (λ r. covers v.bbox r.bbox) (ring_at o s j) r f
      (all_at (ring_under o s v.bbox) v.count v.first (holds_at (poly_covers o s) (poly_at o s i) v e (each o s D.PolygonBox levels.1 i m)) j a b)

  pub zone_covers_law : (i : ℕ) → i < o.zones.count → (v : ListRecord) → ok v ≡ tz_at o s i → (j : ℕ) → v.first ≤ j → j < v.first + v.count
      → (u : ListRecord) → ok u ≡ poly_at o s j → covers v.bbox u.bbox ≡ true
  unfolding zone_covers poly_under
  zone_covers_law i m v e j a b u f =
      holds_at (λ u. covers v.bbox u.bbox) (poly_at o s j) u f
      (all_at (poly_under o s v.bbox) v.count v.first (holds_at (zone_covers o s) (tz_at o s i) v e (each o s D.ZoneBox levels.2 i m)) j a b)
