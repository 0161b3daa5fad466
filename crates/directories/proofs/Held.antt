-- A chunk that decodes: its record, where its bytes end, and that they decode to the points of its shape; its first point, read alone.
-- Assumes nothing.
use Prim.Native.Nat.{ℕ}
use mathlib.Core.Path.{◌≡◌, sym, ap, ◌∙◌}
use mathlib.Core.List.{List, [], ◌∷◌}
use lib.Dec.{ltb}
use Rattle.plane.specs.declared.I32Point.{I32Point}
use Rattle.answer.specs.Answers.{ok, ◌then◌, need, behind, Given}
use Rattle.chunks.specs.Decode.{points_of}
use Rattle.chunks.proofs.Neighbours.{first_list, never_empty}
use Rattle.shapes.specs.Shapes.{Chunk}
use Rattle.opened.specs.declared.Opened.{Opened}
use Rattle.reader_records.specs.declared.ChunkRecord.{ChunkRecord}
use Rattle.reader_records.specs.Records.{chunk_at}
use Rattle.reader_chunks.specs.Chunks.{start_of, end_of, span, bytes_of, first_in, first_at, chunk_points}
use Rattle.directories.specs.Directories.{chunk_shape, shape_from}
use Rattle.answer.proofs.AnswersLaws.{then_inv, need_inv}
use Rattle.answer.proofs.RefusalsLaws.{behind_inv}
use Rattle.reader_chunks.proofs.ChunksLaws.{first_is}

-- chunk i of the file: its record, where it ends, and its bytes, which decode to the points of its shape
pub record Holds (o : Opened) (s : List ℕ) (i : ℕ) : Type 0 where
  pub found : ChunkRecord
  pub there : ok found ≡ chunk_at o s i
  pub box_is : found.bbox ≡ (chunk_shape o s i).box
  pub end : ℕ
  pub ends : ok end ≡ end_of o s i
  pub bytes : List ℕ
  pub spans : ok bytes ≡ span s (start_of o found) end
  pub decodes : ok ((chunk_shape o s i).first ∷ (chunk_shape o s i).rest) ≡ points_of bytes found.count
  pub points : ok ((chunk_shape o s i).first ∷ (chunk_shape o s i).rest) ≡ chunk_points o s i

-- the shape is made of the record and the points
pub shape_is : (o : Opened) (s : List ℕ) (i : ℕ) (l : List I32Point) (v : ChunkRecord) → ok l ≡ chunk_points o s i → ok v ≡ chunk_at o s i → chunk_shape o s i ≡ shape_from v.bbox l
unfolding chunk_shape
shape_is o s i l v p t = rw (← t, ← p)

pub holds : (o : Opened) (s : List ℕ) (i : ℕ) → Given (chunk_points o s i) → Holds o s i
unfolding chunk_points bytes_of
holds o s i g =
    let a = then_inv (chunk_at o s i) (λ v. need 32 (ltb 0 v.count) (bytes_of o s i v then λ b. behind (start_of o v) (points_of b v.count))) g.value g.is in
    let v = a.0 in
    let b = need_inv 32 (ltb 0 v.count) (bytes_of o s i v then λ b. behind (start_of o v) (points_of b v.count)) g.value a.2 in
    let c = then_inv (bytes_of o s i v) (λ b. behind (start_of o v) (points_of b v.count)) g.value b.1 in
    let d = then_inv (end_of o s i) (λ e. span s (start_of o v) e) c.0 c.1 in
    make g.value g.is v a.1 d.0 d.1 c.0 d.2 (behind_inv (start_of o v) _ g.value c.2)
  where
    make : (l : List I32Point) → ok l ≡ chunk_points o s i → (v : ChunkRecord) → ok v ≡ chunk_at o s i → (e : ℕ) → ok e ≡ end_of o s i → (b : List ℕ) → ok b ≡ span s (start_of o v) e → ok l ≡ points_of b v.count → Holds o s i
    make [] p v t e m b n d = absurd (never_empty b v.count d)
    make (q ∷ l) p v t e m b n d =
        let shape : chunk_shape o s i ≡ shape_from v.bbox (q ∷ l) = shape_is o s i (q ∷ l) v p t in
        record {
          found = v;
          there = t;
          box_is = sym (ap (λ (c : Chunk). c.box) shape);
          end = e;
          ends = m;
          bytes = b;
          spans = n;
          decodes = ap (λ (c : Chunk). ok (c.first ∷ c.rest)) shape ∙ d;
          points = ap (λ (c : Chunk). ok (c.first ∷ c.rest)) shape ∙ p;
        }

module _ (o : Opened) (s : List ℕ) (i : ℕ) (h : Holds o s i) where
  -- its first point, read alone
  pub held_first : ok (chunk_shape o s i).first ≡ first_in s (start_of o h.found) h.end
  held_first =
      let c = chunk_shape o s i in
      let k = first_list h.bytes h.found.count c.first c.rest h.decodes in
      first_is s (start_of o h.found) h.end h.bytes h.spans c.first k.0 k.1

  -- and asked for by the chunk's number
  pub first_given : ok (chunk_shape o s i).first ≡ first_at o s i
  unfolding first_at
  first_given = rw (← h.there, ← h.ends) held_first
