-- THE LINK from bytes to shapes: of a sound file, the walk over a zone's bytes gives no refusal, and is the walk in floats over the zone's shape. At any point of floats.
-- Assumes nothing.
use Prim.Native.Nat.{ℕ, zero, suc, ◌+◌, ◌-◌, ◌≤◌, ◌<◌}
use native.Mathlib.Omega.{arith}
use mathlib.Core.Path.{◌≡◌, refl, ◌∙◌}
use mathlib.Core.Bool.{Bool, true, false, not, ◌&&◌, ◌||◌, cond}
use mathlib.Core.List.{List}
use Rattle.plane.specs.declared.Point.{Point}
use Rattle.plane.specs.Lines.{some}
use Rattle.plane.specs.Runs.{run}
use Rattle.answer.specs.Answers.{Answer, ok, ◌then◌}
use Rattle.boxes.specs.Box.{contains}
use Rattle.shapes.specs.Walk.{float_tests, ring_walk, polygon_walk, zone_walk}
use Rattle.shapes.specs.Layout.{ring_at, polygon_at, zone_at}
use Rattle.opened.specs.declared.Opened.{Opened}
use Rattle.reader_rings.specs.Rings.{ring_contains}
use Rattle.reader_ways.specs.Ways.{plain}
use Rattle.reader_zones.specs.Zones.{poly_of, zone_by, zone_of, first_so}
use Rattle.directories.specs.Directories.{zone_record, poly_record, directories}
use Rattle.reader_exact.specs.Sound.{Sound}
use Rattle.reader_exact.proofs.Given.{zone_is, zone_ruled, poly_is, poly_ruled}
use Rattle.reader_exact.proofs.Rings.{ring_walk_law}

-- the first of n that is the sought one: whether some is
seek_some : {A : Type 0} (f : ℕ → Answer Bool) (P : A → Bool) (g : ℕ → A) (found other : Bool) (n i : ℕ) → ((j : ℕ) → i ≤ j → j < i + n → f j ≡ ok (P (g j)))
    → first_so f found other n i ≡ ok (cond (some P (run g n i)) found other)
unfolding first_so run
seek_some f P g found other zero i h = refl
seek_some f P g found other (suc n) i h = rw (h i (omega arith) (omega arith)) (either (P (g i)) (seek_some f P g found other n (i + 1) (λ j l m. h j (omega arith) (omega arith))))
  where
    either : (b : Bool) → first_so f found other n (i + 1) ≡ ok (cond (some P (run g n (i + 1))) found other) → cond b (ok found) (first_so f found other n (i + 1)) ≡ ok (cond (b || some P (run g n (i + 1))) found other)
    either true e = refl
    either false e = e

module _ (o : Opened) (s : List ℕ) (k : Sound o s) (p : Point) where
  -- ---- a polygon
  module _ (i : ℕ) (h : i < o.polys.count) where
    -- some hole, of those after the first ring
    abbrev in_hole : Bool
    in_hole = some (ring_walk (float_tests p) false) (run (ring_at (directories o s)) ((poly_record o s i).count - 1) ((poly_record o s i).first + 1))

    in_outer : Bool
    in_outer = ring_walk (float_tests p) true (ring_at (directories o s) (poly_record o s i).first)

    rings_walk : (ring_contains plain o s p true (poly_record o s i).first then λ b. cond b (first_so (ring_contains plain o s p false) false true ((poly_record o s i).count - 1) ((poly_record o s i).first + 1)) (ok false)) ≡ ok (in_outer && not in_hole)
    unfolding in_outer
    rings_walk =
        let n = (poly_ruled o s k i h).names in
        rw (
          ring_walk_law o s k p true (poly_record o s i).first (omega (arith, n.some, n.fits)),
          seek_some (ring_contains plain o s p false) (ring_walk (float_tests p) false) (ring_at (directories o s)) false true ((poly_record o s i).count - 1) ((poly_record o s i).first + 1) (λ j l m. ring_walk_law o s k p false j (omega (arith, n.some, n.fits))),
        )
        (either in_outer in_hole)
      where
        either : (b c : Bool) → ◌≡◌ {A = Answer Bool} (cond b (ok (cond c false true)) (ok false)) (ok (b && not c))
        either true true = refl
        either true false = refl
        either false c = refl

    poly_walk : poly_of plain o s p i ≡ ok (polygon_walk (float_tests p) (polygon_at (directories o s) i))
    unfolding poly_of polygon_walk polygon_at directories in_outer
    poly_walk = rw (← poly_is o s k i h) (either (contains (poly_record o s i).bbox p))
      where
        either : (b : Bool) → cond b (ring_contains plain o s p true (poly_record o s i).first then λ b. cond b (first_so (ring_contains plain o s p false) false true ((poly_record o s i).count - 1) ((poly_record o s i).first + 1)) (ok false)) (ok false) ≡ ok (b && (in_outer && not in_hole))
        either true = rings_walk
        either false = refl

  -- ---- a zone
  pub zone_walk_law : (i : ℕ) → i < o.zones.count → zone_of o s p i ≡ ok (zone_walk (float_tests p) (zone_at (directories o s) i))
  unfolding zone_by zone_walk zone_at directories
  zone_walk_law i h = rw (← zone_is o s k i h) (either (contains (zone_record o s i).bbox p))
    where
      in_some : Bool
      in_some = some (polygon_walk (float_tests p)) (run (polygon_at (directories o s)) (zone_record o s i).count (zone_record o s i).first)

      yes : (b : Bool) → ◌≡◌ {A = Answer Bool} (ok (cond b true false)) (ok b)
      yes true = refl
      yes false = refl

      polygons : first_so (poly_of plain o s p) true false (zone_record o s i).count (zone_record o s i).first ≡ ok in_some
      polygons =
          let n = (zone_ruled o s k i h).names in
          seek_some (poly_of plain o s p) (polygon_walk (float_tests p)) (polygon_at (directories o s)) true false (zone_record o s i).count (zone_record o s i).first (λ j l m. poly_walk j (omega (arith, n.some, n.fits)))
          ∙ yes in_some

      either : (b : Bool) → cond b (first_so (poly_of plain o s p) true false (zone_record o s i).count (zone_record o s i).first) (ok false) ≡ ok (b && in_some)
      either true = polygons
      either false = refl
