-- A chunk that is decoded has as many points as its record says; and where it has no record it is not decoded.
-- Assumes nothing.
use Prim.Native.Nat.{ℕ}
use mathlib.Core.Path.{◌≡◌, sym, ap, ◌∙◌}
use mathlib.Core.List.{List}
use lib.IntN.{ℤ}
use Rattle.answer.specs.declared.Refusal.{Refusal}
use Rattle.answer.specs.Answers.{ok, refused, fine, outcome, how_many}
use Rattle.answer.proofs.AnswersLaws.{then_no, ok_inv, outcome_fine, many_is}
use Rattle.opened.specs.declared.Opened.{Opened}
use Rattle.reader_records.specs.declared.ChunkRecord.{ChunkRecord}
use Rattle.reader_records.specs.Records.{chunk_at}
use Rattle.reader_chunks.specs.Chunks.{decode_by, decode_in}
use Rattle.reader_chunks.proofs.Decodes.{decoded_are, stands, count_stands}

module _ (o : Opened) (s : List ℕ) (i : ℕ) (out : List ℤ) where
  pub unread : (k : Refusal) → refused k ≡ chunk_at o s i → refused k ≡ decode_in o s i out
  unfolding decode_in
  unread k e = then_no (chunk_at o s i) (λ v. decode_by o s i out v) k e

  pub many_decoded : (v : ChunkRecord) → ok v ≡ chunk_at o s i → fine ≡ outcome (decode_in o s i out) → ok v.count ≡ how_many (decode_in o s i out)
  many_decoded v g e =
      let f = outcome_fine (decode_in o s i out) e in
      let d = decoded_are o s i out f.0 f.1 in
      let t = stands o s i f.0 d in
      many_is (decode_in o s i out) f.0 f.1 v.count (ap (λ (w : ChunkRecord). w.count) (ok_inv v t.entry (g ∙ sym t.found)) ∙ sym (count_stands o s i f.0 d))
