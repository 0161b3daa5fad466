-- What a range that is not refused tells: it holds a byte, and lies within the bytes. A chunk that another follows ends where that one starts.
-- Assumes nothing.
use Prim.Native.Nat.{ℕ, ◌+◌, ◌≤◌, ◌<◌}
use mathlib.Core.Path.{◌≡◌}
use mathlib.Core.List.{List}
use lib.ListN.{length}
use lib.Dec.{ltb, leb}
use borrow.Author.Tests.{ltb-true, leb-true}
use Rattle.answer.specs.Answers.{ok, need}
use Rattle.fields.specs.Part.{part}
use Rattle.opened.specs.declared.Opened.{Opened}
use Rattle.opened.specs.Widths.{chunk_wide}
use Rattle.reader_records.specs.declared.ChunkRecord.{ChunkRecord}
use Rattle.reader_records.specs.Records.{chunk_in, chunk_rule, chunk_at}
use Rattle.reader_chunks.specs.Chunks.{span, start_of, end_of}
use Rattle.answer.proofs.AnswersLaws.{need_inv}
use Rattle.reader_chunks.proofs.ChunksLaws.{end_is}
use Rattle.reader_records.proofs.RecordsLaws.{ruled_inside}

pub span_in : (s : List ℕ) (a e : ℕ) (b : List ℕ) → ok b ≡ span s a e → (a < e) × (e ≤ length s)
unfolding span
span_in s a e b h =
    let f = need_inv 37 (ltb a e) (need 44 (leb e (length s)) (ok (part s a e))) b h in
    let g = need_inv 44 (leb e (length s)) (ok (part s a e)) b f.1 in
    (ltb-true a e f.0, leb-true e (length s) g.0)

-- a chunk that there is has its index in the directory
pub chunk_inside : (o : Opened) (s : List ℕ) (i : ℕ) (n : ChunkRecord) → ok n ≡ chunk_at o s i → i < o.chunks.count
unfolding chunk_at
chunk_inside o s i n e = ruled_inside s o.chunks chunk_wide i (chunk_in s) chunk_rule 34 n e

pub end_next : (o : Opened) (s : List ℕ) (i : ℕ) (n : ChunkRecord) → ok n ≡ chunk_at o s (i + 1) → ok (start_of o n) ≡ end_of o s i
end_next o s i n e = end_is o s i (chunk_inside o s (i + 1) n e) n e
