-- Rings, polygons and zones of a file: what each part's text is made of.
-- Assumes nothing.
use Prim.Native.Nat.{ℕ, ◌+◌, ◌-◌, ◌≤◌, ◌<◌}
use native.Mathlib.Omega.{arith}
use mathlib.Core.Path.{◌≡◌, refl, sym, ap, ap₂, ◌∙◌}
use mathlib.Core.Bool.{Bool, true, false, not, ◌&&◌, cond}
use mathlib.Core.List.{List, ◌∷◌, ◌++◌, map, reverse}
use lib.ListN.{length}
use lib.Dec.{leb}
use lib.IntN.{ℤ}
use borrow.Author.Tests.{leb-true, lt-ltb, le-ltb}
use Rattle.basics.specs.Truth.{and_l, and_r}
use Rattle.basics.specs.Whole.{is_zero}
use Rattle.plane.specs.declared.I32Point.{I32Point}
use Rattle.plane.specs.Lines.{every}
use Rattle.plane.specs.Runs.{run}
use Rattle.answer.specs.declared.Refusal.{Refusal}
use Rattle.answer.specs.Refusals.{refusal}
use Rattle.answer.specs.Answers.{ok, refused}
use Rattle.answer.proofs.AnswersLaws.{need_inv, ok_inv, zero_one}
use Rattle.shapes.specs.Layout.{ring_at, polygon_at, zone_at}
use Rattle.shapes.specs.Outline.{doubled_area, drawable, backwards, outline, outlines, zone_drawable}
use Rattle.geojson.specs.Text.{array, ring_text, polygon_text, head_text, tail_text, map_text}
use Rattle.opened.specs.declared.Opened.{Opened}
use Rattle.reader_records.specs.declared.ListRecord.{ListRecord}
use Rattle.reader_records.specs.Records.{poly_at, tz_at}
use Rattle.directories.specs.Directories.{directories, poly_record, zone_record}
use Rattle.reader_exact.specs.Sound.{Sound}
use Rattle.reader_exact.proofs.Given.{poly_is, poly_ruled, zone_is, zone_ruled}
use Rattle.reader_outline.specs.Held.{points_in}
use Rattle.reader_outline.specs.Told.{positions_at, drawn_by, outline_at, Keeps}
use Rattle.reader_map.specs.Steps.{to_come, way, ring_fits, polygon_fits, sides, side_text, part_text}
use Rattle.reader_map.proofs.Onward.{refused_need}
use Rattle.reader_map.proofs.Rows.{listed_first, listed_row, run_first, map_run}

-- ---- a ring
drawable_some : (l : List I32Point) → drawable l ≡ true → 4 ≤ length l
unfolding drawable
drawable_some l h =
    let n = leb 4 (length l) in
    let m = leb (length l) 10_000 in
    leb-true 4 (length l) (and_l n m (and_l (n && m) (not (is_zero (doubled_area l))) h))

drawable_few : (l : List I32Point) → drawable l ≡ true → length l ≤ 10_000
unfolding drawable
drawable_few l h =
    let n = leb 4 (length l) in
    let m = leb (length l) 10_000 in
    leb-true (length l) 10_000 (and_r n m (and_l (n && m) (not (is_zero (doubled_area l))) h))

module _ (o : Opened) (s : List ℕ) (i : ℕ) (hole : Bool) where
  pub outline_no : (k : Refusal) → refused k ≡ outline_at o s i hole → (drawable (positions_at o s i) ≡ false) × (k ≡ refusal 48)
  unfolding drawn_by
  outline_no k e = refused_need (drawable (positions_at o s i)) (length (positions_at o s i), backwards hole (positions_at o s i)) k e

  module _ (k : ℕ) (back : Bool) (e : ok (k, back) ≡ outline_at o s i hole) where
    pub outline_fits : drawable (positions_at o s i) ≡ true
    unfolding drawn_by
    outline_fits = (need_inv 48 (drawable (positions_at o s i)) (ok (length (positions_at o s i), backwards hole (positions_at o s i))) (k, back) e).0

    told : ◌≡◌ {A = ℕ × Bool} (k, back) (length (positions_at o s i), backwards hole (positions_at o s i))
    unfolding drawn_by
    told = ok_inv (k, back) (length (positions_at o s i), backwards hole (positions_at o s i)) (need_inv 48 (drawable (positions_at o s i)) (ok (length (positions_at o s i), backwards hole (positions_at o s i))) (k, back) e).1

    count : k ≡ length (positions_at o s i)
    count = ap (λ (t : ℕ × Bool). t.0) told

    pub outline_some : 0 < k
    outline_some = omega (arith, count, drawable_some (positions_at o s i) outline_fits)

    pub outline_few : k ≤ 10_000
    outline_few = omega (arith, count, drawable_few (positions_at o s i) outline_fits)

    -- what stands in the lent numbers is the outline
    pub outline_is : (held : List ℤ) → Keeps held (positions_at o s i) → ring_text (way back (points_in held k)) ≡ ring_text (outline hole (ring_at (directories o s) i))
    unfolding way outline Keeps
    outline_is held h =
        let kept : points_in held k ≡ positions_at o s i = ap (points_in held) count ∙ h (drawable_few (positions_at o s i) outline_fits) in
        ap₂ (λ (b : Bool) (l : List I32Point). ring_text (cond b (reverse l) l)) (ap (λ (t : ℕ × Bool). t.1) told) kept

-- ---- texts by the places of rings and polygons
sides_row : (o : Opened) (s : List ℕ) (first count : ℕ) → 0 < count → polygon_text (outline false (ring_at (directories o s) first) ∷ map (outline true) (run (ring_at (directories o s)) (count - 1) (first + 1))) ≡ to_come (side_text o s first) 91 count first
unfolding side_text
sides_row o s first count h =
    ap (λ (l : List (List I32Point)). polygon_text (outline false (ring_at (directories o s) first) ∷ l)) (map_run (outline true) (ring_at (directories o s)) (count - 1) (first + 1))
    ∙ listed_first ring_text (outline false (ring_at (directories o s) first)) (λ (j : ℕ). outline true (ring_at (directories o s) j)) (side_text o s first) count first h
    (ap (λ (b : Bool). ring_text (outline b (ring_at (directories o s) first))) (sym (le-ltb first first (omega arith))))
    (λ j l. ap (λ (b : Bool). ring_text (outline b (ring_at (directories o s) j))) (sym (lt-ltb first j l)))

parts_row : (o : Opened) (s : List ℕ) (first count : ℕ) → 0 < count → array polygon_text (map sides (run (polygon_at (directories o s)) count first)) ≡ to_come (part_text o s) 91 count first
unfolding part_text
parts_row o s first count h =
    ap (array polygon_text) (map_run sides (polygon_at (directories o s)) count first)
    ∙ listed_row polygon_text (λ (j : ℕ). sides (polygon_at (directories o s) j)) (part_text o s) count first h (λ j. refl)

-- ---- a polygon: the rings that its record names
module _ (o : Opened) (s : List ℕ) (sound : Sound o s) (i : ℕ) where
  module _ (h : i < o.polys.count) where
    pub poly_there : (k : Refusal) → refused k ≡ poly_at o s i → ⊥
    poly_there k e =
        let g = poly_is o s sound i h in
        let z : ◌≡◌ {A = ℕ} 0 1 = cc in
        zero_one z

    module _ (v : ListRecord) (e : ok v ≡ poly_at o s i) (from : ℕ) (f : from ≡ v.first) where
      poly_record_law : v ≡ poly_record o s i
      poly_record_law = ok_inv v (poly_record o s i) (e ∙ sym (poly_is o s sound i h))

      poly_first : from ≡ (poly_record o s i).first
      poly_first = f ∙ ap (λ (u : ListRecord). u.first) poly_record_law

      poly_count : v.count ≡ (poly_record o s i).count
      poly_count = ap (λ (u : ListRecord). u.count) poly_record_law

      pub poly_in : from + v.count ≤ o.rings.count
      poly_in = omega (arith, (poly_ruled o s sound i h).names.fits, poly_first, poly_count)

      pub poly_fits : every ring_fits (run (ring_at (directories o s)) v.count from) ≡ polygon_fits (polygon_at (directories o s) i)
      unfolding polygon_at directories
      poly_fits =
          ap₂ (λ (n j : ℕ). every ring_fits (run (ring_at (directories o s)) n j)) poly_count poly_first
          ∙ ap (every ring_fits) (run_first (ring_at (directories o s)) (poly_record o s i).count (poly_record o s i).first (poly_ruled o s sound i h).names.some)

      pub poly_text : to_come (side_text o s from) 91 v.count from ≡ part_text o s i
      unfolding part_text polygon_at directories
      poly_text =
          ap₂ (λ (n j : ℕ). to_come (side_text o s j) 91 n j) poly_count poly_first
          ∙ sym (sides_row o s (poly_record o s i).first (poly_record o s i).count (poly_ruled o s sound i h).names.some)

-- ---- a zone: the polygons that its record names
module _ (o : Opened) (s : List ℕ) (sound : Sound o s) (i : ℕ) where
  module _ (h : i < o.zones.count) where
    pub zone_there : (k : Refusal) → refused k ≡ tz_at o s i → ⊥
    zone_there k e =
        let g = zone_is o s sound i h in
        let z : ◌≡◌ {A = ℕ} 0 1 = cc in
        zero_one z

    module _ (v : ListRecord) (e : ok v ≡ tz_at o s i) (from : ℕ) (f : from ≡ v.first) where
      zone_record_law : v ≡ zone_record o s i
      zone_record_law = ok_inv v (zone_record o s i) (e ∙ sym (zone_is o s sound i h))

      zone_first : from ≡ (zone_record o s i).first
      zone_first = f ∙ ap (λ (u : ListRecord). u.first) zone_record_law

      zone_count : v.count ≡ (zone_record o s i).count
      zone_count = ap (λ (u : ListRecord). u.count) zone_record_law

      pub zone_in_law : from + v.count ≤ o.polys.count
      zone_in_law = omega (arith, (zone_ruled o s sound i h).names.fits, zone_first, zone_count)

      pub zone_fits_law : every polygon_fits (run (polygon_at (directories o s)) v.count from) ≡ zone_drawable (zone_at (directories o s) i)
      unfolding zone_drawable zone_at directories
      zone_fits_law = ap₂ (λ (n j : ℕ). every polygon_fits (run (polygon_at (directories o s)) n j)) zone_count zone_first

      pub zone_text_law : (head_text ++ to_come (part_text o s) 91 v.count from) ++ tail_text ≡ map_text (outlines (zone_at (directories o s) i))
      unfolding map_text outlines zone_at directories
      zone_text_law =
          ap₂ (λ (n j : ℕ). (head_text ++ to_come (part_text o s) 91 n j) ++ tail_text) zone_count zone_first
          ∙ ap (λ (t : List ℕ). (head_text ++ t) ++ tail_text) (sym (parts_row o s (zone_record o s i).first (zone_record o s i).count (zone_ruled o s sound i h).names.some))
