-- THE THEOREM from bytes to exact geometry: of a sound file whose boxes cover what they should (F4 to F6), containment in any zone, at any whole-number point, is what exact geometry says of the zone's shape.
-- Assumes nothing.
use Prim.Native.Nat.{ℕ, ◌<◌}
use mathlib.Core.Path.{◌≡◌, refl, sym, ap, ◌∙◌}
use mathlib.Core.Bool.{Bool, true, false, cond}
use mathlib.Core.List.{List}
use borrow.Author.Tests.{lt-ltb}
use Rattle.plane.specs.declared.I32Point.{I32Point}
use Rattle.plane.specs.Segment.{seg}
use Rattle.plane.specs.Domain.{in_domain}
use Rattle.answer.specs.Answers.{Answer, ok}
use Rattle.shapes.specs.Shapes.{zone_in}
use Rattle.shapes.specs.Layout.{Named, Covered, Domain, zone_at}
use Rattle.shapes.proofs.File.{float_file_exact, file_elsewhere}
use Rattle.opened.specs.declared.Opened.{Opened}
use Rattle.reader_zones.specs.Zones.{zone_of, contains_by, contains_at}
use Rattle.directories.specs.Directories.{directories}
use Rattle.reader_exact.specs.Sound.{Sound}
use Rattle.reader_exact.proofs.Given.{zone_ruled, poly_ruled, ring_ruled, op_named, group_ruled, entry_in_law, exit_in}
use Rattle.directories.proofs.Held.{holds}
use Rattle.reader_exact.proofs.Chunks.{chunk_in_law}
use Rattle.reader_exact.proofs.Zones.{zone_walk_law}
use Rattle.plane.specs.Places.{point_of}

module _ (o : Opened) (s : List ℕ) (k : Sound o s) where
  -- what each record names is there
  pub sound_named : Named (directories o s)
  unfolding directories
  sound_named =
      record {
        zone_names = λ i h. (zone_ruled o s k i h).names;
        polygon_names = λ i h. (poly_ruled o s k i h).names;
        ring_names = λ i h. (ring_ruled o s k i h).names;
        op_names = λ i h. op_named o s k i h;
        group_names = λ i h. (group_ruled o s k i h).names;
      }

  -- every box and point lies in the domain
  pub sound_domain : Domain (directories o s)
  unfolding directories
  sound_domain =
      record {
        chunk_in_law = λ i h. chunk_in_law o s i (holds o s i (k.chunk_given i h));
        group_in_law = λ i h. (group_ruled o s k i h).box_in_law;
        entry_in_law = λ i h. entry_in_law o s k i h;
        exit_in = λ i h. exit_in o s k i h;
        ring_in_law = λ i h. (ring_ruled o s k i h).box_in_law;
        polygon_in_law = λ i h. (poly_ruled o s k i h).box_in_law;
        zone_in_law = λ i h. (zone_ruled o s k i h).box_in_law;
      }

  module _ (c : Covered (directories o s)) (i : ℕ) (h : i < o.zones.count) (q : I32Point) where
    there : i < (directories o s).zones
    unfolding directories
    there = h

    -- the walk itself, at a point of the domain made floats
    pub walk_exact : in_domain q ≡ true → zone_of o s (point_of q) i ≡ ok (zone_in (seg q) (zone_at (directories o s) i))
    walk_exact e = zone_walk_law o s k (point_of q) i h ∙ ap ok (float_file_exact (directories o s) sound_named c sound_domain q e i there)

    elsewhere : in_domain q ≡ false → ◌≡◌ {A = Answer Bool} (ok false) (ok (zone_in (seg q) (zone_at (directories o s) i)))
    elsewhere e = ap ok (sym (file_elsewhere (directories o s) sound_named c sound_domain q e i there))

    -- and the question of scanners, at any point
    pub contains_exact : contains_at o s i q ≡ ok (zone_in (seg q) (zone_at (directories o s) i))
    unfolding contains_by
    contains_exact = rw (lt-ltb i o.zones.count h) (either (in_domain q) refl)
      where
        either : (b : Bool) → in_domain q ≡ b → cond b (zone_of o s (point_of q) i) (ok false) ≡ ok (zone_in (seg q) (zone_at (directories o s) i))
        either true e = walk_exact e
        either false e = elsewhere e
