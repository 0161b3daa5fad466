-- What is asked of a record as bytes: it is refused, or the question is asked of what it says; and how many points a decoded chunk has.
-- Assumes nothing.
use Prim.Native.Nat.{ℕ, ◌≤◌}
use mathlib.Core.Path.{◌≡◌, sym, ◌∙◌}
use mathlib.Core.List.{List}
use lib.IntN.{ℤ}
use lib.Ieee.{Float}
use lib.ListN.{length}
use Rattle.answer.specs.declared.Refusal.{Refusal}
use Rattle.answer.specs.Answers.{Answer, ok, refused, fine, outcome, how_many, ◌then◌}
use Rattle.answer.proofs.CheckLaws.{le_at}
use Rattle.answer.proofs.AnswersLaws.{outcome_fine, many_is}
use Rattle.opened.specs.declared.Opened.{Opened}
use Rattle.reader_records.specs.declared.ChunkRecord.{ChunkRecord}
use Rattle.reader_records.specs.Records.{chunk_at}
use Rattle.reader_chunks.specs.Chunks.{decode_in}
use Rattle.reader_chunks.proofs.Decodes.{decoded_are, stands, count_stands}
use Rattle.tzb_record.specs.Layout.{record_of}
use Rattle.tzb_asked.specs.Asked.{name_asked, ends_asked, decode_asked, list_asked_by, stripes_asked}
use Rattle.reader_listing.specs.All.{list_by}
use Rattle.reader_stripes.specs.Building.{stripes_of}
use Rattle.reader_ways.specs.Ways.{Way}

-- ---- the record is refused, or the question is asked of it
module _ {A : Type 0} (b : List ℕ) (f : Opened → Answer A) where
  pub barred : (k : Refusal) → refused k ≡ record_of b → refused k ≡ (record_of b then f)
  barred k e = rw (← e)

  pub asked : (o : Opened) (x : Answer A) → ok o ≡ record_of b → x ≡ f o → x ≡ (record_of b then f)
  asked o x e g = rw (← e) g

module _ (b s : List ℕ) (chunk : ℕ) (out : List ℤ) where
  pub decode_barred : (k : Refusal) → refused k ≡ record_of b → refused k ≡ decode_asked b s chunk out
  unfolding decode_asked
  decode_barred k e = rw (← e)

  pub decode_asked_law : (o : Opened) → ok o ≡ record_of b → decode_in o s chunk out ≡ decode_asked b s chunk out
  unfolding decode_asked
  decode_asked_law o e = rw (← e)

module _ (b s : List ℕ) (zone : ℕ) (out : List ℕ) where
  module _ (from to : ℕ) (e : ok (from, to) ≡ name_asked b s zone) where
    pub ends_asked_law : 2 ≤ length out → ok (from, to) ≡ ends_asked b s zone (length out)
    unfolding ends_asked
    ends_asked_law h = rw (← e, le_at 2 (length out) h)

module _ (w : Way) (b s : List ℕ) (lng lat : Float) (places : ℕ) where
  pub list_asked_law : (o : Opened) → ok o ≡ record_of b → list_by w o s lng lat places ≡ list_asked_by w b s lng lat places
  unfolding list_asked_by
  list_asked_law o e = rw (← e)

module _ (b s : List ℕ) (room : ℕ) where
  pub stripes_asked_law : (o : Opened) → ok o ≡ record_of b → stripes_of o s room ≡ stripes_asked b s room
  unfolding stripes_asked
  stripes_asked_law o e = rw (← e)

-- the point count of a chunk's record, 0 where there is none
unfoldable pub chunk_count : Opened → List ℕ → ℕ → ℕ
chunk_count o s i = counts (chunk_at o s i)
  where
    counts : Answer ChunkRecord → ℕ
    counts (ok v) = v.count
    counts (refused k) = 0

count_is : (o : Opened) (s : List ℕ) (i : ℕ) (v : ChunkRecord) → ok v ≡ chunk_at o s i → v.count ≡ chunk_count o s i
unfolding chunk_count
count_is o s i v e = rw (← e)

-- a chunk that is decoded has as many points as its record says
pub many_decoded : (o : Opened) (s : List ℕ) (i : ℕ) (out : List ℤ) → fine ≡ outcome (decode_in o s i out) → (n : ℕ) → n ≡ chunk_count o s i → ok n ≡ how_many (decode_in o s i out)
many_decoded o s i out e n h =
    let f = outcome_fine (decode_in o s i out) e in
    let g = decoded_are o s i out f.0 f.1 in
    many_is (decode_in o s i out) f.0 f.1 n
    (h ∙ sym (count_is o s i (stands o s i f.0 g).entry (stands o s i f.0 g).found) ∙ sym (count_stands o s i f.0 g))
