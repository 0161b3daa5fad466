-- From the rules to what exactness takes: of a file of which F1 to F6 hold, F2 and F3, with what opening asks of groups, make it sound; F4 to F6 make its boxes cover. By index.
-- Assumes nothing.
use Prim.Native.Nat.{ℕ, ◌+◌, ◌-◌, ◌<◌}
use native.Mathlib.Omega.{arith}
use mathlib.Core.Path.{◌≡◌, sym, ap, ◌∙◌}
use mathlib.Core.Bool.{Bool, true}
use mathlib.Core.List.{List, ◌∷◌}
use Rattle.plane.specs.Lines.{every, last_of}
use Rattle.answer.specs.Answers.{Answer, ok, Given}
use Rattle.boxes.specs.declared.BBox.{BBox}
use Rattle.shapes.specs.Shapes.{in_box, covers}
use Rattle.shapes.specs.Layout.{Among, Covered}
use Rattle.opened.specs.declared.Opened.{Opened}
use Rattle.reader_records.specs.declared.RingRecord.{RingRecord}
use Rattle.reader_records.specs.declared.GroupRecord.{GroupRecord}
use Rattle.reader_records.specs.Records.{ring_at, group_at, count_rule}
use Rattle.directories.specs.Directories as D
use Rattle.directories.specs.Directories.{directories, zone_record, poly_record, ring_record, group_record, chunk_shape}
use Rattle.reader_exact.specs.Sound.{Sound}
use Rattle.reader_exact.proofs.Given.{zone_is, zone_ruled, poly_is, poly_ruled, ring_is, ring_ruled, op_is, op_named, group_is, group_ruled}
use Rattle.directories.proofs.Held.{Holds, holds, first_given}
use Rattle.reader_check.proofs.Facts as Facts
use Rattle.tzb.proofs.Given.{group_answered}
use Rattle.demands.specs.Accepted.{Accepted}
use Rattle.demands.proofs.Sums.{points_total}
use Rattle.basics.specs.Total.{total}
use Rattle.reader_cover.proofs.CoverLaws.{op_group_is}
use Rattle.plane.specs.Segment.{same_point}
use Rattle.reader_cover.specs.Cover.{group_of_op}

given : {A : Type 0} {x : Answer A} → (a : A) × (ok a ≡ x) → Given x
given p = record { value = p.0; is = p.1 }

module _ (file : List ℕ) (o : Opened) (a : Accepted file o) where
  -- ---- sound
  ring_value : (i : ℕ) (r : RingRecord) → ok r ≡ ring_at o file i → ring_record o file i ≡ r
  unfolding ring_record
  ring_value i r e = rw (← e)

  ring_counts : (i : ℕ) → i < o.rings.count → count_rule (ring_record o file i) (total (D.op_points o file) (ring_record o file i).count (ring_record o file i).first) ≡ true
  ring_counts i h =
      let r = Facts.ring_there o file a.f2 i h in
      let t = Facts.ring_adds o file a.f2 i h r.0 r.1 in
      ap (λ (v : RingRecord). count_rule v (total (D.op_points o file) v.count v.first)) (ring_value i r.0 r.1)
      ∙ ap (count_rule r.0) (sym (points_total o file r.0.count r.0.first t.0 t.1))
      ∙ t.2

  pub accepted_sound : Sound o file
  accepted_sound =
      record {
        zone_given = λ i h. given (Facts.zone_there o file a.f2 i h);
        poly_given = λ i h. given (Facts.poly_there o file a.f2 i h);
        ring_given = λ i h. given (Facts.ring_there o file a.f2 i h);
        op_given = λ i h. given (Facts.op_there o file a.f2 i h);
        ring_counts = ring_counts;
        group_given = λ i h. record { value = _; is = group_answered file o a.f1 i h };
        chunk_given = λ i h. given (Facts.chunk_decodes o file a.f3 i h);
      }

  -- ---- covered
  abbrev k : Sound o file
  k = accepted_sound

  -- chunk i with its points
  pub chunk_there : (i : ℕ) → i < o.chunks.count → Holds o file i
  chunk_there i h = holds o file i (k.chunk_given i h)

  -- a test of its record's box is one of its shape's
  by_box : (i : ℕ) (h : i < o.chunks.count) (P : BBox → Bool) → P (chunk_there i h).found.bbox ≡ true → P (chunk_shape o file i).box ≡ true
  by_box i h P e = ap P (sym (chunk_there i h).box_is) ∙ e

  chunk_covers_law : (i : ℕ) → i < o.chunks.count → every (in_box (chunk_shape o file i).box) ((chunk_shape o file i).first ∷ (chunk_shape o file i).rest) ≡ true
  chunk_covers_law i h =
      let c = chunk_there i h in
      let l = (chunk_shape o file i).first ∷ (chunk_shape o file i).rest in
      by_box i h (λ b. every (in_box b) l) (Facts.chunk_covers_law o file a.f4 i h c.found c.there l c.points)

  -- ---- a group
  module _ (i : ℕ) (h : i < o.groups.count) where
    abbrev g : GroupRecord
    g = group_record o file i

    at : ok g ≡ group_at o file i
    at = group_is o file k i h

    -- its chunks are there
    below : (j : ℕ) → j < g.first + g.count → j < o.chunks.count
    below j b = omega (arith, (group_ruled o file k i h).names.fits)

    abbrev last : ℕ
    last = g.first + (g.count - 1)

    joint_covers_law : (j : ℕ) → Among (D.group_span g) j → Among (D.group_span g) (j + 1) → in_box (chunk_shape o file j).box (chunk_shape o file (j + 1)).first ≡ true
    joint_covers_law j m n =
        let l = below j m.before in
        let c = chunk_there j l in
        let q = (chunk_shape o file (j + 1)).first in
        by_box j l (λ b. in_box b q)
        (Facts.joint_covers_law o file a.f4 i h g at j m.from n.before c.found c.there q (first_given o file (j + 1) (chunk_there (j + 1) (below (j + 1) n.before))))

    group_covers_law : (j : ℕ) → Among (D.group_span g) j → covers g.bbox (chunk_shape o file j).box ≡ true
    group_covers_law j m =
        let l = below j m.before in
        let c = chunk_there j l in
        by_box j l (covers g.bbox) (Facts.group_covers_law o file a.f5 i h g at j m.from m.before c.found c.there)

    entry_first : same_point g.entry (chunk_shape o file g.first).first ≡ true
    entry_first =
        let c = chunk_there g.first (below g.first (omega (arith, (group_ruled o file k i h).names.some))) in
        Facts.entry_first o file a.f5 i h g at (chunk_shape o file g.first).first (first_given o file g.first c)

    exit_last : same_point g.exit (last_of ((chunk_shape o file last).first ∷ (chunk_shape o file last).rest)) ≡ true
    exit_last =
        let c = chunk_there last (below last (omega (arith, (group_ruled o file k i h).names.some))) in
        Facts.exit_last o file a.f5 i h g at ((chunk_shape o file last).first ∷ (chunk_shape o file last).rest) c.points

  -- ---- a ring, a polygon, a zone
  op_group_law : (j : ℕ) → j < o.ops.count → ok (group_record o file (D.op_group o file j)) ≡ group_of_op o file j
  op_group_law j h = group_is o file k (D.op_group o file j) (op_named o file k j h) ∙ op_group_is o file j (D.op_word o file j) (op_is o file k j h)

  ring_covers_law : (i : ℕ) → i < o.rings.count → (j : ℕ) → Among (D.ring_span (ring_record o file i)) j → covers (ring_record o file i).bbox (group_record o file (D.op_group o file j)).bbox ≡ true
  ring_covers_law i h j m =
      Facts.ring_covers_law o file a.f6 i h (ring_record o file i) (ring_is o file k i h) j m.from m.before
      (group_record o file (D.op_group o file j)) (op_group_law j (omega (arith, m.before, (ring_ruled o file k i h).names.fits)))

  poly_covers_law : (i : ℕ) → i < o.polys.count → (j : ℕ) → Among (D.list_span (poly_record o file i)) j → covers (poly_record o file i).bbox (ring_record o file j).bbox ≡ true
  poly_covers_law i h j m =
      Facts.poly_covers_law o file a.f6 i h (poly_record o file i) (poly_is o file k i h) j m.from m.before
      (ring_record o file j) (ring_is o file k j (omega (arith, m.before, (poly_ruled o file k i h).names.fits)))

  zone_covers_law : (i : ℕ) → i < o.zones.count → (j : ℕ) → Among (D.list_span (zone_record o file i)) j → covers (zone_record o file i).bbox (poly_record o file j).bbox ≡ true
  zone_covers_law i h j m =
      Facts.zone_covers_law o file a.f6 i h (zone_record o file i) (zone_is o file k i h) j m.from m.before
      (poly_record o file j) (poly_is o file k j (omega (arith, m.before, (zone_ruled o file k i h).names.fits)))

  pub accepted_covered : Covered (directories o file)
  unfolding directories
  accepted_covered =
      record {
        chunk_covers_law = chunk_covers_law;
        joint_covers_law = λ i j h m n. joint_covers_law i h j m n;
        group_covers_law = λ i j h m. group_covers_law i h j m;
        entry_first = entry_first;
        exit_last = exit_last;
        ring_covers_law = λ i j h m. ring_covers_law i h j m;
        polygon_covers = λ i j h m. poly_covers_law i h j m;
        zone_covers_law = λ i j h m. zone_covers_law i h j m;
      }
