-- A group of a sound file: the walk over its chunks' bytes is the walk over its shape.
-- Assumes nothing.
use Prim.Native.Nat.{ℕ, zero, suc, ◌+◌, ◌-◌, ◌<◌}
use native.Mathlib.Omega.{arith}
use mathlib.Core.Path.{◌≡◌, refl, sym, ap, ◌∙◌}
use mathlib.Core.Bool.{Bool, true, false}
use mathlib.Core.List.{List, [], ◌∷◌}
use Rattle.plane.specs.declared.Point.{Point}
use Rattle.plane.specs.declared.I32Point.{I32Point}
use Rattle.plane.specs.Sight.{Sight}
use Rattle.plane.specs.Tally.{⊕_idr}
use Rattle.plane.specs.Runs.{run}
use Rattle.boxes.specs.Box.{relevant, right}
use Rattle.rays.specs.Ray.{parity_of}
use Rattle.chunks.specs.Scan.{past}
use Rattle.shapes.specs.Shapes.{Chunk, group_chunks}
use Rattle.shapes.specs.Walk as Shapes
use Rattle.shapes.specs.Walk.{float_tests, chunk_walk, chunks_walk}
use Rattle.shapes.specs.Layout as Layout
use Rattle.opened.specs.declared.Opened.{Opened}
use Rattle.reader_groups.specs.Groups.{pass_at, chunks_from, group_scan}
use Rattle.reader_ways.specs.Ways.{plain}
use Rattle.reader_ways.proofs.WaysLaws.{by_plain}
use Rattle.reader_rings.specs.Rings.{group_walk}
use Rattle.directories.specs.Directories.{group_record, chunk_shape, directories}
use Rattle.reader_exact.specs.Sound.{Sound}
use Rattle.reader_exact.proofs.Walks.{past_go, past_done}
use Rattle.reader_exact.proofs.Given.{group_ruled}
use Rattle.directories.proofs.Held.{Holds, holds}
use Rattle.reader_exact.proofs.Chunks.{last_walk, joined_walk}

module _ (o : Opened) (s : List ℕ) (p : Point) where
  -- a chunk that another follows, and what follows it
  pass_walk : (exit : I32Point) (i : ℕ) (h : Holds o s i) (g : Holds o s (i + 1)) → i + 1 < o.chunks.count → (ds : List Chunk)
      → pass_at o s p i h.found ≡ past (chunk_walk (float_tests p) exit (chunk_shape o s i) (chunk_shape o s (i + 1) ∷ ds)) g.found
  unfolding pass_at
  pass_walk exit i h g j ds =
      rw (← g.there, joined_walk o s i h p g j exit ds)
      (past_done (chunk_walk (float_tests p) exit (chunk_shape o s i) (chunk_shape o s (i + 1) ∷ ds)) tt g.found)

  module _ (k : Sound o s) where
    held : (i : ℕ) → i < o.chunks.count → Holds o s i
    held i j = holds o s i (k.chunk_given i j)

    -- chunk i, and the n after it
    chunks_walk_law : (exit : I32Point) (n i : ℕ) → i + n < o.chunks.count → (h : Holds o s i)
        → chunks_from o s p exit n i h.found ≡ past (chunks_walk (float_tests p) exit (chunk_shape o s i ∷ run (chunk_shape o s) n (i + 1))) tt
    unfolding chunks_from chunks_walk run
    chunks_walk_law exit zero i j h =
        last_walk o s i h p exit
        ∙ ap (λ (u : Sight). past u tt) (sym (⊕_idr (chunk_walk (float_tests p) exit (chunk_shape o s i) [])))
    chunks_walk_law exit (suc n) i j h =
        let g = held (i + 1) (omega arith) in
        let ds = run (chunk_shape o s) n (i + 1 + 1) in
        rw (pass_walk exit i h g (omega arith) ds)
        (past_go (chunk_walk (float_tests p) exit (chunk_shape o s i) (chunk_shape o s (i + 1) ∷ ds)) g.found (λ w. chunks_from o s p exit n (i + 1) w)
        (chunks_walk (float_tests p) exit (chunk_shape o s (i + 1) ∷ ds)) tt (chunks_walk_law exit n (i + 1) (omega arith) g))

    module _ (i : ℕ) (j : i < o.groups.count) where
      group_of : group_scan o s p (group_record o s i) ≡ past (chunks_walk (float_tests p) (group_record o s i).exit (group_chunks (Layout.group_at (directories o s) i))) tt
      unfolding group_scan Layout.group_at directories
      group_of =
          let r = group_ruled o s k i j in
          let g = group_record o s i in
          let h = held g.first (omega (arith, r.names.some, r.names.fits)) in
          rw (← h.there) (chunks_walk_law g.exit (g.count - 1) g.first (omega (arith, r.names.some, r.names.fits)) h)

      pub group_walk_law : group_walk plain o s p i (group_record o s i) ≡ past (Shapes.group_walk (float_tests p) (Layout.group_at (directories o s) i)) tt
      unfolding group_walk Shapes.group_walk parity_of directories Layout.group_at
      group_walk_law = pick (relevant (group_record o s i).bbox p) (right (group_record o s i).bbox p) refl refl
        where
          pick : (a b : Bool) → relevant (group_record o s i).bbox p ≡ a → right (group_record o s i).bbox p ≡ b → group_walk plain o s p i (group_record o s i) ≡ past (Shapes.group_walk (float_tests p) (Layout.group_at (directories o s) i)) tt
          pick false b e f = rw e
          pick true true e f = rw (e, f)
          pick true false e f = rw (e, f, by_plain o s p i (group_record o s i)) group_of
