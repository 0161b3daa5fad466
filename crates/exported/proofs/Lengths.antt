-- How long the text of a zone can be: 1,202,567,027,705,320 bytes at most, so that its length is told as it is.
-- Assumes nothing.
use Prim.Native.Nat.{ℕ, zero, suc, ◌+◌, ◌-◌, ◌*◌, ◌≤◌, ◌<◌}
use native.Mathlib.Omega.{arith}
use mathlib.Core.Path.{◌≡◌, refl, ap}
use mathlib.Core.Bool.{Bool, true, false, ◌&&◌, not, cond}
use mathlib.Core.List.{List, [], ◌∷◌, ◌++◌, map, reverse}
use lib.ListN.{length, length-append, length-map, length-reverse}
use lib.Dec.{leb}
use borrow.Author.Tests.{leb-true, le-leb}
use Rattle.basics.specs.Truth.{and_i, and_l, and_r}
use Rattle.basics.specs.Whole.{is_zero}
use Rattle.plane.specs.declared.I32Point.{I32Point}
use Rattle.plane.specs.Domain.{in_domain}
use Rattle.plane.specs.Lines.{every}
use Rattle.plane.specs.Runs.{run, run_every, every_run}
use Rattle.plane.proofs.DomainLaws.{domain_x, domain_y}
use Rattle.fields.proofs.Join.{fits}
use Rattle.answer.specs.Answers.{ok}
use Rattle.answer.proofs.AnswersLaws.{then_inv, need_inv, ok_inv}
use Rattle.geojson.specs.Text.{others, array, position_text, ring_text, polygon_text, head_text, tail_text, map_text}
use Rattle.geojson.proofs.Lengths.{position_most}
use Rattle.shapes.specs.Shapes.{Ring, Polygon}
use Rattle.shapes.specs.Layout.{ring_at, polygon_at, zone_at}
use Rattle.shapes.specs.Outline.{ring_positions, doubled_area, drawable, backwards, outline, outlines, zone_drawable}
use Rattle.shapes.proofs.Outline.{every_reverse, positions_in}
use Rattle.shapes.proofs.File.{ring_in_law}
use Rattle.opened.specs.declared.Directory.{Directory}
use Rattle.opened.specs.declared.Opened.{Opened}
use Rattle.opened.specs.Widths.{list_wide}
use Rattle.reader_records.specs.declared.ListRecord.{ListRecord}
use Rattle.reader_records.specs.Records.{record_at, ruled, list_in, list_rule, list_at}
use Rattle.directories.specs.Directories.{directories, zone_record, poly_record}
use Rattle.reader_exact.specs.Sound.{Sound}
use Rattle.reader_exact.proofs.Given.{zone_is, zone_ruled, poly_is, poly_ruled}
use Rattle.reader_exact.proofs.Exact.{sound_named, sound_domain}
use Rattle.demands.specs.Accepted.{Accepted}
use Rattle.demands.proofs.Rules.{accepted_sound, accepted_covered}
use Rattle.exported.specs.Words.{Bytes}

-- ---- arrays of what takes so many bytes at most
module _ {A : Type 0} (f : A → List ℕ) (most : ℕ) where
  abbrev short : A → Bool
  short a = leb (length (f a)) most

  others_most : (l : List A) → every short l ≡ true → length (others f l) ≤ length l * (most + 1) + 1
  unfolding others
  others_most [] h = omega arith
  others_most (a ∷ l) h =
      omega (arith, length-append (f a) (others f l), leb-true (length (f a)) most (and_l (short a) (every short l) h), others_most l (and_r (short a) (every short l) h))

  array_most : (l : List A) → every short l ≡ true → length (array f l) ≤ length l * (most + 1) + 2
  unfolding array
  array_most [] h = omega arith
  array_most (a ∷ l) h =
      omega (arith, length-append (f a) (others f l), leb-true (length (f a)) most (and_l (short a) (every short l) h), others_most l (and_r (short a) (every short l) h))

run_length : {A : Type 0} (g : ℕ → A) (n b : ℕ) → length (run g n b) ≡ n
unfolding run
run_length g zero b = refl
run_length g (suc n) b = ap suc (run_length g n (b + 1))

map_every : {A B : Type 0} (P : B → Bool) (h : A → B) (l : List A) → every (λ a. P (h a)) l ≡ true → every P (map h l) ≡ true
map_every P h [] e = refl
map_every P h (a ∷ l) e = and_i (P (h a)) (every P (map h l)) (and_l (P (h a)) (every (λ a. P (h a)) l) e) (map_every P h l (and_r (P (h a)) (every (λ a. P (h a)) l) e))

-- ---- positions in the domain
positions_short : (l : List I32Point) → every in_domain l ≡ true → every (short position_text 27) l ≡ true
positions_short [] h = refl
positions_short (q ∷ l) h =
    let d = and_l (in_domain q) (every in_domain l) h in
    and_i (short position_text 27 q) (every (short position_text 27) l)
    (le-leb (length (position_text q)) 27 (position_most q (omega (arith, domain_x q d)) (omega (arith, domain_y q d))))
    (positions_short l (and_r (in_domain q) (every in_domain l) h))

drawn_few : (l : List I32Point) → drawable l ≡ true → length l ≤ 10_000
unfolding drawable
drawn_few l h =
    let c = and_l (leb 4 (length l) && leb (length l) 10_000) (not (is_zero (doubled_area l))) h in
    leb-true (length l) 10_000 (and_r (leb 4 (length l)) (leb (length l) 10_000) c)

ring_most : (l : List I32Point) → every in_domain l ≡ true → length l ≤ 10_000 → length (ring_text l) ≤ 280_002
ring_most l d h = omega (arith, array_most position_text 27 l (positions_short l d))

turned_most : (back : Bool) (l : List I32Point) → every in_domain l ≡ true → length l ≤ 10_000 → length (ring_text (cond back (reverse l) l)) ≤ 280_002
turned_most true l d h = ring_most (reverse l) (every_reverse in_domain l d) (omega (arith, length-reverse l))
turned_most false l d h = ring_most l d h

-- ---- a record names 65,535 others at most
list_count : (s : List ℕ) → Bytes s → (d : Directory) (below i : ℕ) (v : ListRecord) → ok v ≡ list_at s d below i → v.count ≤ 65_535
unfolding list_at ruled list_in
list_count s byte d below i v e =
    let t = then_inv (record_at s d list_wide i) _ v e in
    let n = need_inv 34 (list_rule below (list_in s t.0)) (ok (list_in s t.0)) v t.2 in
    let g : v.count ≡ (list_in s t.0).count = ap (λ (w : ListRecord). w.count) (ok_inv v (list_in s t.0) n.1) in
    omega (arith, g, fits 2 s (t.0 + 4) byte)

-- ---- of an accepted file
abbrev sides : Polygon → List (List I32Point)
sides p = outline false p.outer ∷ map (outline true) p.holes

abbrev ring_fits : Ring → Bool
ring_fits r = drawable (ring_positions r)

abbrev polygon_fits : Polygon → Bool
polygon_fits p = every ring_fits (p.outer ∷ p.holes)

module _ (s : List ℕ) (byte : Bytes s) (o : Opened) (a : Accepted s o) where
  abbrev k : Sound o s
  k = accepted_sound s o a

  outline_most : (hole : Bool) (i : ℕ) → i < o.rings.count → ring_fits (ring_at (directories o s) i) ≡ true → length (ring_text (outline hole (ring_at (directories o s) i))) ≤ 280_002
  unfolding directories outline
  outline_most hole i h f =
      let d = directories o s in
      let l = ring_positions (ring_at d i) in
      turned_most (backwards hole l) l (positions_in (ring_at d i) (ring_in_law d (sound_named o s k) (accepted_covered s o a) (sound_domain o s k) i h)) (drawn_few l f)

  polygon_most : (i : ℕ) → i < o.polys.count → polygon_fits (polygon_at (directories o s) i) ≡ true → length (polygon_text (sides (polygon_at (directories o s) i))) ≤ 18_349_996_607
  unfolding directories polygon_at
  polygon_most i h f =
      let v = poly_record o s i in
      let g = ring_at (directories o s) in
      let names = (poly_ruled o s k i h).names in
      let holes = run g (v.count - 1) (v.first + 1) in
      let few = list_count s byte o.polys o.rings.count i v (poly_is o s k i h) in
      let ring = short ring_text 280_002 in
      let outer : ring (outline false (g v.first)) ≡ true =
      le-leb (length (ring_text (outline false (g v.first)))) 280_002 (outline_most false v.first (omega (arith, names.some, names.fits)) (and_l (ring_fits (g v.first)) (every ring_fits holes) f)) in
      let hole : (j : ℕ) → v.first + 1 ≤ j → j < v.first + 1 + (v.count - 1) → ring (outline true (g j)) ≡ true = λ j l u.
      le-leb (length (ring_text (outline true (g j)))) 280_002 (outline_most true j (omega (arith, names.some, names.fits, l, u)) (every_run ring_fits g (v.count - 1) (v.first + 1) (and_r (ring_fits (g v.first)) (every ring_fits holes) f) j l u)) in
      let all = and_i (ring (outline false (g v.first))) (every ring (map (outline true) holes)) outer
      (map_every ring (outline true) holes (run_every (λ r. ring (outline true r)) g (v.count - 1) (v.first + 1) hole)) in
      omega (
        arith,
        array_most ring_text 280_002 (outline false (g v.first) ∷ map (outline true) holes) all,
        length-map holes (outline true),
        run_length g (v.count - 1) (v.first + 1),
        few,
        names.some,
      )

  pub text_most : (zone : ℕ) → zone < o.zones.count → zone_drawable (zone_at (directories o s) zone) ≡ true → length (map_text (outlines (zone_at (directories o s) zone))) ≤ 1_202_567_027_705_320
  unfolding directories zone_at zone_drawable outlines map_text
  text_most i h f =
      let v = zone_record o s i in
      let g = polygon_at (directories o s) in
      let names = (zone_ruled o s k i h).names in
      let polygons = run g v.count v.first in
      let few = list_count s byte o.zones o.polys.count i v (zone_is o s k i h) in
      let polygon = short polygon_text 18_349_996_607 in
      let each : (j : ℕ) → v.first ≤ j → j < v.first + v.count → polygon (sides (g j)) ≡ true = λ j l u.
      le-leb (length (polygon_text (sides (g j)))) 18_349_996_607 (polygon_most j (omega (arith, names.fits, l, u)) (every_run polygon_fits g v.count v.first f j l u)) in
      let all = map_every polygon sides polygons (run_every (λ p. polygon (sides p)) g v.count v.first each) in
      omega (
        arith,
        length-append head_text (array polygon_text (map sides polygons) ++ tail_text),
        length-append (array polygon_text (map sides polygons)) tail_text,
        array_most polygon_text 18_349_996_607 (map sides polygons) all,
        length-map polygons sides,
        run_length g v.count v.first,
        few,
      )
