-- THE THEOREM for a whole file: where the rules hold of every entry, every zone's shape fits and lies in the domain. So at every whole-number point of the domain the walk in floats is exact for every zone number, and a point outside the domain is in no zone.
-- Assumes nothing.
use Prim.Native.Nat.{ℕ, ◌+◌, ◌-◌, ◌<◌}
use mathlib.Core.Path.{◌≡◌}
use mathlib.Core.Bool.{true, false}
use mathlib.Core.List.{◌∷◌}
use Rattle.basics.specs.Truth.{and_i, and4_i}
use Rattle.plane.specs.declared.I32Point.{I32Point}
use Rattle.plane.specs.Segment.{seg}
use Rattle.plane.specs.Domain.{in_domain}
use Rattle.plane.specs.Lines.{every}
use Rattle.plane.specs.Runs.{run}
use Rattle.boxes.specs.Box.{box_in_domain}
use Rattle.shapes.specs.Shapes.{group_chunks, zone_in, chunk_in_domain, group_in_domain, leg_in_domain, ring_in_domain, polygon_in_domain, zone_in_domain}
use Rattle.shapes.specs.Walk.{float_tests, whole_tests, zone_walk}
use Rattle.shapes.specs.Layout.{Directories, group_at, leg_at, ring_at, polygon_at, Named, Covered, Domain, zone_at}
use Rattle.shapes.proofs.Fits.{below, named, named_apart, zone_fits_law}
use Rattle.shapes.proofs.Whole.{skips_are_exact}
use Rattle.shapes.proofs.Elsewhere.{zone_elsewhere}
use Rattle.shapes.proofs.Floats.{float_walk_exact}
use Rattle.plane.specs.Places.{point_of}

module _ (d : Directories) (n : Named d) (c : Covered d) where
  -- in whole numbers, wherever the file lies
  pub file_exact : (p : I32Point) (i : ℕ) → i < d.zones → zone_walk (whole_tests p) (zone_at d i) ≡ zone_in (seg p) (zone_at d i)
  file_exact p i h = skips_are_exact p (zone_at d i) (zone_fits_law d n c i h)

  -- ---- and lies in the domain
  module _ (m : Domain d) where
    chunks_in_law : (i : ℕ) → i < d.groups → every chunk_in_domain (group_chunks (group_at d i)) ≡ true
    unfolding group_at
    chunks_in_law i h = named_apart chunk_in_domain d.chunk_at (d.group_span i) (n.group_names i h).some (λ j a. m.chunk_in_law j (below (d.group_span i) d.chunks j (n.group_names i h) a))

    leg_in : (j : ℕ) → j < d.ops → leg_in_domain (leg_at d j) ≡ true
    unfolding leg_in_domain group_in_domain leg_at group_at
    leg_in j h =
        let i = d.op_group j in
        let o : d.op_group j < d.groups = n.op_names j h in
        and4_i (box_in_domain (d.group_span i).box) (in_domain (d.entry_at i)) (in_domain (d.exit_at i)) (every chunk_in_domain (group_chunks (group_at d i)))
        (m.group_in_law i o) (m.entry_in_law i o) (m.exit_in i o) (chunks_in_law i o)

    pub ring_in_law : (i : ℕ) → i < d.rings → ring_in_domain (ring_at d i) ≡ true
    unfolding ring_in_domain ring_at
    ring_in_law i h =
        and_i (box_in_domain (d.ring_span i).box) (every leg_in_domain (run (leg_at d) (d.ring_span i).count (d.ring_span i).first))
        (m.ring_in_law i h)
        (named leg_in_domain (leg_at d) (d.ring_span i) (λ j a. leg_in j (below (d.ring_span i) d.ops j (n.ring_names i h) a)))

    polygon_in_law : (i : ℕ) → i < d.polygons → polygon_in_domain (polygon_at d i) ≡ true
    unfolding polygon_in_domain polygon_at
    polygon_in_law i h =
        and_i (box_in_domain (d.polygon_span i).box) (every ring_in_domain (ring_at d (d.polygon_span i).first ∷ run (ring_at d) ((d.polygon_span i).count - 1) ((d.polygon_span i).first + 1)))
        (m.polygon_in_law i h)
        (named_apart ring_in_domain (ring_at d) (d.polygon_span i) (n.polygon_names i h).some (λ j a. ring_in_law j (below (d.polygon_span i) d.rings j (n.polygon_names i h) a)))

    pub zone_in_law : (i : ℕ) → i < d.zones → zone_in_domain (zone_at d i) ≡ true
    unfolding zone_in_domain zone_at
    zone_in_law i h =
        and_i (box_in_domain (d.zone_span i).box) (every polygon_in_domain (run (polygon_at d) (d.zone_span i).count (d.zone_span i).first))
        (m.zone_in_law i h)
        (named polygon_in_domain (polygon_at d) (d.zone_span i) (λ j a. polygon_in_law j (below (d.zone_span i) d.polygons j (n.zone_names i h) a)))

    pub file_elsewhere : (p : I32Point) → in_domain p ≡ false → (i : ℕ) → i < d.zones → zone_in (seg p) (zone_at d i) ≡ false
    file_elsewhere p e i h = zone_elsewhere p e (zone_at d i) (zone_in_law i h) (zone_fits_law d n c i h)

    pub float_file_exact : (p : I32Point) → in_domain p ≡ true → (i : ℕ) → i < d.zones → zone_walk (float_tests (point_of p)) (zone_at d i) ≡ zone_in (seg p) (zone_at d i)
    float_file_exact p e i h = float_walk_exact p e (zone_at d i) (zone_in_law i h) (zone_fits_law d n c i h)
