-- The bytes of a chunk of a file that opening accepts: there are some, and they lie in the file. So what a chunk's questions answer hangs on these bytes alone, and on room.
-- Assumes nothing.
use Prim.Native.Nat.{ℕ, ◌+◌, ◌*◌, ◌≤◌, ◌<◌}
use native.Mathlib.Omega.{arith}
use mathlib.Core.Path.{◌≡◌, refl, sym, ap, ◌∙◌}
use mathlib.Core.Bool.{Bool, true, false}
use mathlib.Core.List.{List}
use borrow.Author.Tests.{ltb-true, ltb-false, lt-ltb}
use lib.Dec.{ltb, leb}
use lib.ListN.{length}
use lib.IntN.{ℤ}
use Rattle.fields.specs.Part.{part}
use Rattle.plane.specs.declared.I32Point.{I32Point}
use Rattle.answer.specs.Answers.{Answer, ok, need, ◌then◌, behind}
use Rattle.chunks.specs.Points.{first_of}
use Rattle.chunks.specs.Decode.{points_of}
use Rattle.opened.specs.declared.Opened.{Opened}
use Rattle.reader_records.specs.declared.ChunkRecord.{ChunkRecord}
use Rattle.reader_records.specs.Records.{chunk_at}
use Rattle.reader_dirs.specs.Dirs.{chunk_of}
use Rattle.reader_chunks.specs.Chunks.{start_of, end_of, span, bytes_of, first_in, first_at, chunk_points, decode_by, decode_in}
use Rattle.tzb.specs.Opening.{open_of}
use Rattle.tzb.proofs.Given.{chunk_answered, chunk_counts, chunk_begins, chunks_rise, points_within}
use Rattle.answer.proofs.AnswersLaws.{need_met, then_ok}
use Rattle.reader_chunks.proofs.ChunksLaws.{end_last, end_is, span_is}

-- where a chunk ends
pub record ChunkEnd (o : Opened) (file : List ℕ) (i : ℕ) : Type 0 where
  pub end : ℕ
  pub given : ok end ≡ end_of o file i
  pub after : start_of o (chunk_of file o.chunks i) < end
  pub inside : end ≤ length file

module _ (file : List ℕ) (o : Opened) (opened : ok o ≡ open_of file) (i : ℕ) (h : i < o.chunks.count) where
  -- with the points, or where the next chunk starts
  pub chunk_ends : ChunkEnd o file i
  unfolding start_of
  chunk_ends = by (ltb (i + 1) o.chunks.count) refl
    where
      by : (b : Bool) → ltb (i + 1) o.chunks.count ≡ b → ChunkEnd o file i
      by true e =
          let next = ltb-true (i + 1) o.chunks.count e in
          record {
            end = start_of o (chunk_of file o.chunks (i + 1));
            given = end_is o file i next _ (chunk_answered file o opened (i + 1) next);
            after = omega (arith, chunks_rise file o opened i (i + 1) (omega arith) next);
            inside = omega (arith, chunk_begins file o opened (i + 1) next, (points_within file o opened).fits);
          }
      by false e =
          record {
            end = o.points.off + o.points.len;
            given = end_last o file i (ltb-false (i + 1) o.chunks.count e);
            after = omega (arith, chunk_begins file o opened i h);
            inside = (points_within file o opened).fits;
          }

  -- the bytes between
  unfoldable pub chunk_bytes : List ℕ
  chunk_bytes = part file (start_of o (chunk_of file o.chunks i)) chunk_ends.end

  spanned : ok chunk_bytes ≡ span file (start_of o (chunk_of file o.chunks i)) chunk_ends.end
  unfolding chunk_bytes
  spanned = span_is file _ _ chunk_ends.after chunk_ends.inside

  -- neither 37 nor 44
  pub bytes_answered : ok chunk_bytes ≡ bytes_of o file i (chunk_of file o.chunks i)
  unfolding bytes_of
  bytes_answered = spanned ∙ then_ok (end_of o file i) (λ (e : ℕ). span file (start_of o (chunk_of file o.chunks i)) e) chunk_ends.end chunk_ends.given

  -- its first point is what the bytes begin with, a refusal's place counted from the file's first byte
  pub first_by_bytes : (behind (start_of o (chunk_of file o.chunks i)) (first_of chunk_bytes) then λ t. ok t.0) ≡ first_at o file i
  unfolding first_at first_in
  first_by_bytes =
      let v = chunk_of file o.chunks i in
      then_ok (span file (start_of o v) chunk_ends.end) (λ (b : List ℕ). behind (start_of o v) (first_of b) then λ t. ok t.0) chunk_bytes spanned
      ∙ then_ok (end_of o file i) (λ (e : ℕ). first_in file (start_of o v) e) chunk_ends.end chunk_ends.given
      ∙ then_ok (chunk_at o file i) (λ (w : ChunkRecord). end_of o file i then λ e. first_in file (start_of o w) e) v (chunk_answered file o opened i h)

  -- its points are those that the bytes decode to, likewise
  pub points_by_bytes : behind (start_of o (chunk_of file o.chunks i)) (points_of chunk_bytes (chunk_of file o.chunks i).count) ≡ chunk_points o file i
  unfolding chunk_points
  points_by_bytes =
      let v = chunk_of file o.chunks i in
      then_ok (bytes_of o file i v) (λ (b : List ℕ). behind (start_of o v) (points_of b v.count)) chunk_bytes bytes_answered
      ∙ need_met 32 (ltb 0 v.count) _ (lt-ltb 0 v.count (chunk_counts file o opened i h))
      ∙ then_ok (chunk_at o file i) (λ (w : ChunkRecord). need 32 (ltb 0 w.count) (bytes_of o file i w then λ b. behind (start_of o w) (points_of b w.count))) v (chunk_answered file o opened i h)

  -- into lent room likewise: 46, and else as the bytes decode
  pub room_by_bytes : (out : List ℤ) → need 46 (leb (2 * (chunk_of file o.chunks i).count) (length out)) (chunk_points o file i) ≡ decode_in o file i out
  unfolding decode_in decode_by
  room_by_bytes out =
      let v = chunk_of file o.chunks i in
      ap (λ (x : Answer (List I32Point)). need 46 (leb (2 * v.count) (length out)) x) (sym points_by_bytes ∙ then_ok (bytes_of o file i v) (λ (b : List ℕ). behind (start_of o v) (points_of b v.count)) chunk_bytes bytes_answered)
      ∙ need_met 32 (ltb 0 v.count) _ (lt-ltb 0 v.count (chunk_counts file o opened i h))
      ∙ then_ok (chunk_at o file i) (decode_by o file i out) v (chunk_answered file o opened i h)
