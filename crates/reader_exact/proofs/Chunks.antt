-- A chunk of a sound file: it lies in the domain, and its walk over bytes is the walk over its shape.
-- Assumes nothing.
use Prim.Native.Nat.{ℕ, ◌+◌, ◌<◌}
use mathlib.Core.Path.{◌≡◌, refl, sym, ap, ◌∙◌}
use mathlib.Core.Bool.{Bool, true, false}
use mathlib.Core.List.{List, [], ◌∷◌}
use Rattle.basics.specs.Truth.{and_i}
use Rattle.plane.specs.declared.Point.{Point}
use Rattle.plane.specs.declared.I32Point.{I32Point}
use Rattle.plane.specs.Sight.{Sight}
use Rattle.plane.specs.Tally.{none}
use Rattle.plane.specs.Lines.{every, last_from, chain}
use Rattle.plane.specs.Domain.{in_domain}
use Rattle.answer.specs.Answers.{ok}
use Rattle.answer.specs.Walks.{done, walk_behind}
use Rattle.boxes.specs.declared.BBox.{BBox}
use Rattle.boxes.specs.Box.{box_in_domain, relevant, right}
use Rattle.rays.specs.Ray.{ray_of, parity_of}
use Rattle.chunks.specs.Scan.{past}
use Rattle.chunks.proofs.Neighbours.{scan_list, domain_list}
use Rattle.chunks.proofs.ScanLaws.{past_placeless}
use Rattle.shapes.specs.Shapes.{Chunk, chunk_in_domain}
use Rattle.shapes.specs.Walk.{float_tests, chunk_walk}
use Rattle.opened.specs.declared.Opened.{Opened}
use Rattle.opened.specs.Widths.{chunk_wide}
use Rattle.reader_records.specs.declared.ChunkRecord.{ChunkRecord}
use Rattle.reader_records.specs.Records.{record_at, chunk_in, chunk_rule, chunk_at}
use Rattle.reader_chunks.specs.Chunks.{start_of, first_in, scan_in}
use Rattle.reader_groups.specs.Groups.{next_first, skip_to, scan_to, joined_to, last_in, last_at}
use Rattle.directories.specs.Directories.{chunk_shape}
use Rattle.directories.proofs.Held.{Holds, held_first}
use Rattle.reader_exact.proofs.Walks.{past_go}
use Rattle.reader_records.proofs.RecordsLaws.{ruled_kept}
use Rattle.answer.proofs.AnswersLaws.{ok_inv}
use Rattle.reader_chunks.proofs.ChunksLaws.{end_is, scan_is}

-- the segments between the points of a chunk, and its last point
abbrev through : Point → Chunk → Sight
through p c = chain (λ a b. ray_of a b p) c.first c.rest

abbrev last : Chunk → I32Point
last c = last_from c.first c.rest

module _ (o : Opened) (s : List ℕ) (i : ℕ) (h : Holds o s i) where
  -- it lies in the domain
  pub chunk_in_law : chunk_in_domain (chunk_shape o s i) ≡ true
  unfolding chunk_in_domain chunk_at chunk_rule
  chunk_in_law =
      let c = chunk_shape o s i in
      and_i (box_in_domain c.box) (every in_domain (c.first ∷ c.rest))
      (ap box_in_domain (sym h.box_is) ∙ ruled_kept (record_at s o.chunks chunk_wide i) (chunk_in s) chunk_rule 34 h.found h.there)
      (domain_list h.bytes h.found.count c.first c.rest h.decodes)

module _ (o : Opened) (s : List ℕ) (i : ℕ) (h : Holds o s i) where
  abbrev c : Chunk
  c = chunk_shape o s i

  abbrev v : ChunkRecord
  v = h.found

  own_first_law : ok c.first ≡ first_in s (start_of o v) h.end
  own_first_law = held_first o s i h

  module _ (p : Point) where
    held_scan : scan_in s v.count p (start_of o v) h.end ≡ past (through p c) (last c)
    held_scan =
        sym (scan_is s (start_of o v) h.end v.count p h.bytes h.spans)
        ∙ ap (walk_behind (start_of o v)) (scan_list h.bytes v.count c.first c.rest h.decodes p)
        ∙ sym (past_placeless (start_of o v) (through p c) (last c))

    -- the tests of the record's box are those of the shape's
    rel : (b : Bool) → relevant c.box p ≡ b → relevant v.bbox p ≡ b
    rel b e = ap (λ (x : BBox). relevant x p) h.box_is ∙ e

    rig : (b : Bool) → right c.box p ≡ b → right v.bbox p ≡ b
    rig b e = ap (λ (x : BBox). right x p) h.box_is ∙ e

    -- ---- the walk over the last chunk of a group
    pub last_walk : (exit : I32Point) → last_at o s p i h.found exit ≡ past (chunk_walk (float_tests p) exit (chunk_shape o s i) []) tt
    unfolding last_at last_in chunk_walk parity_of
    last_walk exit = pick (relevant c.box p) (right c.box p) refl refl
      where
        pick : (a b : Bool) → relevant c.box p ≡ a → right c.box p ≡ b → last_at o s p i v exit ≡ past (chunk_walk (float_tests p) exit c []) tt
        pick false b e f = rw (rel false e, e)
        pick true true e f = rw (rel true e, e, ← h.ends, rig true f, f, ← own_first_law)
        pick true false e f = rw (rel true e, e, ← h.ends, rig false f, f, held_scan) (past_go (through p c) (last c) (λ q. done tt) none tt refl)

    -- ---- and over one that another follows
    module _ (g : Holds o s (i + 1)) (j : i + 1 < o.chunks.count) where
      -- it ends where the next starts
      meet : h.end ≡ start_of o g.found
      meet = ok_inv h.end (start_of o g.found) (h.ends ∙ sym (end_is o s i j g.found g.there))

      next_first_law : ok (chunk_shape o s (i + 1)).first ≡ next_first o s i g.found
      unfolding next_first
      next_first_law = rw (← g.ends) (held_first o s (i + 1) g)

      pub joined_walk : (exit : I32Point) (ds : List Chunk) → joined_to o s p i h.found g.found ≡ past (chunk_walk (float_tests p) exit (chunk_shape o s i) (chunk_shape o s (i + 1) ∷ ds)) tt
      unfolding joined_to skip_to scan_to chunk_walk parity_of
      joined_walk exit ds = pick (relevant c.box p) (right c.box p) refl refl
        where
          near : ok c.first ≡ first_in s (start_of o v) (start_of o g.found)
          near = own_first_law ∙ ap (first_in s (start_of o v)) meet

          scan : scan_in s v.count p (start_of o v) (start_of o g.found) ≡ past (through p c) (last c)
          scan = ap (scan_in s v.count p (start_of o v)) (sym meet) ∙ held_scan

          pick : (a b : Bool) → relevant c.box p ≡ a → right c.box p ≡ b → joined_to o s p i v g.found ≡ past (chunk_walk (float_tests p) exit c (chunk_shape o s (i + 1) ∷ ds)) tt
          pick false b e f = rw (rel false e, e)
          pick true true e f = rw (rel true e, e, rig true f, f, ← near, ← next_first_law)
          pick true false e f =
              rw (rel true e, e, rig false f, f, scan, ← next_first_law)
              (past_go (through p c) (last c) (λ q. past (ray_of q (chunk_shape o s (i + 1)).first p) tt) (ray_of (last c) (chunk_shape o s (i + 1)).first p) tt refl)
