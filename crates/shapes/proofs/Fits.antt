-- Where the rules F4 to F6 hold of every entry of a file's directories, every zone's shape fits.
-- Assumes nothing.
use Prim.Native.Nat.{ℕ, zero, suc, ◌+◌, ◌-◌, ◌≤◌, ◌<◌}
use native.Mathlib.Omega.{arith}
use mathlib.Core.Path.{◌≡◌, refl, ap, ◌∙◌}
use mathlib.Core.Bool.{Bool, true, ◌&&◌}
use mathlib.Core.List.{◌∷◌, ◌++◌, append-nil}
use Rattle.basics.specs.Truth.{and_i}
use Rattle.plane.specs.Lines.{every, every_append, first_of, last_of, last_append}
use Rattle.plane.specs.Runs.{run, run_every}
use Rattle.shapes.specs.Shapes.{Chunk, chunk_points, points, group_chunks, group_points, in_box, covers, next, chunks_fit, group_fits, leg_fits, ring_fits, polygon_fits, zone_fits}
use Rattle.shapes.specs.Layout.{Span, Names, Among, Directories, group_at, leg_at, ring_at, polygon_at, Named, Covered, zone_at}
use Rattle.plane.specs.Segment.{same_point}

-- a place that a record names is inside the directory below
pub below : (s : Span) (size j : ℕ) → Names s size → Among s j → j < size
below s size j n m = omega arith

-- all that a record names pass a test
pub named : {A : Type 0} (P : A → Bool) (f : ℕ → A) (s : Span) → ((j : ℕ) → Among s j → P (f j) ≡ true) → every P (run f s.count s.first) ≡ true
named P f s h = run_every P f s.count s.first (λ j l m. h j (record { from = l; before = m }))

-- the same, where the first stands by itself
pub named_apart : {A : Type 0} (P : A → Bool) (f : ℕ → A) (s : Span) → 0 < s.count → ((j : ℕ) → Among s j → P (f j) ≡ true) → every P (f s.first ∷ run f (s.count - 1) (s.first + 1)) ≡ true
named_apart P f s n h =
    and_i (P (f s.first)) (every P (run f (s.count - 1) (s.first + 1)))
    (h s.first (record { from = omega arith; before = omega arith }))
    (run_every P f (s.count - 1) (s.first + 1) (λ j l m. h j (record { from = omega arith; before = omega arith })))

-- ---- chunks in a row: the one at i, and n more
module _ (f : ℕ → Chunk) where
  row_fits : (n i : ℕ) → ((j : ℕ) → i ≤ j → j ≤ i + n → every (in_box (f j).box) (chunk_points (f j)) ≡ true) → ((j : ℕ) → i ≤ j → j < i + n → in_box (f j).box (f (j + 1)).first ≡ true)
      → chunks_fit (f i ∷ run f n (i + 1)) ≡ true
  unfolding chunks_fit run
  row_fits zero i own joint =
      and_i (every (in_box (f i).box) (chunk_points (f i) ++ next (run f zero (i + 1)))) true
      (ap (every (in_box (f i).box)) (append-nil (chunk_points (f i))) ∙ own i (omega arith) (omega arith))
      refl
  row_fits (suc n) i own joint =
      and_i (every (in_box (f i).box) (chunk_points (f i) ++ next (run f (suc n) (i + 1)))) (chunks_fit (run f (suc n) (i + 1)))
      (every_append (in_box (f i).box) (chunk_points (f i)) (next (run f (suc n) (i + 1))) (own i (omega arith) (omega arith)) (and_i (in_box (f i).box (f (i + 1)).first) true (joint i (omega arith) (omega arith)) refl))
      (row_fits n (i + 1) (λ j l m. own j (omega arith) (omega arith)) (λ j l m. joint j (omega arith) (omega arith)))

  row_last : (n i : ℕ) → last_of (points (f i ∷ run f n (i + 1))) ≡ last_of (chunk_points (f (i + n)))
  unfolding run
  row_last zero i =
      let e : i ≡ i + 0 = omega arith in
      ap last_of (append-nil (chunk_points (f i))) ∙ ap (λ (j : ℕ). last_of (chunk_points (f j))) e
  row_last (suc n) i =
      let e : i + 1 + n ≡ i + suc n = omega arith in
      last_append (f i).first (f i).rest (f (i + 1)).first ((f (i + 1)).rest ++ points (run f n (i + 1 + 1)))
      ∙ row_last n (i + 1)
      ∙ ap (λ (j : ℕ). last_of (chunk_points (f j))) e

module _ (d : Directories) (n : Named d) (c : Covered d) where
  -- ---- groups
  module _ (i : ℕ) (h : i < d.groups) where
    pub chunks_fit_law : chunks_fit (group_chunks (group_at d i)) ≡ true
    unfolding group_at
    chunks_fit_law =
        let t = n.group_names i h in
        row_fits d.chunk_at ((d.group_span i).count - 1) (d.group_span i).first
        (λ j l m. c.chunk_covers_law j (omega (arith, t.some, t.fits)))
        (λ j l m. c.joint_covers_law i j h (record { from = l; before = omega (arith, t.some) }) (record { from = omega arith; before = omega (arith, t.some) }))

    pub group_fits_law : group_fits (group_at d i) ≡ true
    unfolding group_fits group_at
    group_fits_law =
        let g = group_at d i in
        and_i (every (λ k. covers (d.group_span i).box k.box) (group_chunks g) && same_point (d.entry_at i) (first_of (group_points g))) (same_point (d.exit_at i) (last_of (group_points g)))
        (and_i (every (λ k. covers (d.group_span i).box k.box) (group_chunks g)) (same_point (d.entry_at i) (first_of (group_points g)))
        (named_apart (λ k. covers (d.group_span i).box k.box) d.chunk_at (d.group_span i) (n.group_names i h).some (λ j a. c.group_covers_law i j h a))
        (c.entry_first i h))
        (ap (same_point (d.exit_at i)) (row_last d.chunk_at ((d.group_span i).count - 1) (d.group_span i).first) ∙ c.exit_last i h)

  -- ---- rings, polygons, zones
  leg_fits_law : (i j : ℕ) → i < d.rings → Among (d.ring_span i) j → leg_fits (d.ring_span i).box (leg_at d j) ≡ true
  unfolding leg_fits leg_at group_at
  leg_fits_law i j h m =
      let o : d.op_group j < d.groups = n.op_names j (below (d.ring_span i) d.ops j (n.ring_names i h) m) in
      let g = group_at d (d.op_group j) in
      and_i (covers (d.ring_span i).box (d.group_span (d.op_group j)).box && chunks_fit (group_chunks g)) (group_fits g)
      (and_i (covers (d.ring_span i).box (d.group_span (d.op_group j)).box) (chunks_fit (group_chunks g)) (c.ring_covers_law i j h m) (chunks_fit_law (d.op_group j) o))
      (group_fits_law (d.op_group j) o)

  ring_fits_law : (i j : ℕ) → i < d.polygons → Among (d.polygon_span i) j → ring_fits (d.polygon_span i).box (ring_at d j) ≡ true
  unfolding ring_fits ring_at
  ring_fits_law i j h m =
      and_i (covers (d.polygon_span i).box (d.ring_span j).box) (every (leg_fits (d.ring_span j).box) (run (leg_at d) (d.ring_span j).count (d.ring_span j).first))
      (c.polygon_covers i j h m)
      (named (leg_fits (d.ring_span j).box) (leg_at d) (d.ring_span j) (λ k. leg_fits_law j k (below (d.polygon_span i) d.rings j (n.polygon_names i h) m)))

  polygon_fits_law : (i j : ℕ) → i < d.zones → Among (d.zone_span i) j → polygon_fits (d.zone_span i).box (polygon_at d j) ≡ true
  unfolding polygon_fits polygon_at
  polygon_fits_law i j h m =
      let o : j < d.polygons = below (d.zone_span i) d.polygons j (n.zone_names i h) m in
      and_i (covers (d.zone_span i).box (d.polygon_span j).box) (every (ring_fits (d.polygon_span j).box) (ring_at d (d.polygon_span j).first ∷ run (ring_at d) ((d.polygon_span j).count - 1) ((d.polygon_span j).first + 1)))
      (c.zone_covers_law i j h m)
      (named_apart (ring_fits (d.polygon_span j).box) (ring_at d) (d.polygon_span j) (n.polygon_names j o).some (λ k. ring_fits_law j k o))

  pub zone_fits_law : (i : ℕ) → i < d.zones → zone_fits (zone_at d i) ≡ true
  unfolding zone_fits zone_at
  zone_fits_law i h = named (polygon_fits (d.zone_span i).box) (polygon_at d) (d.zone_span i) (λ j. polygon_fits_law i j h)
