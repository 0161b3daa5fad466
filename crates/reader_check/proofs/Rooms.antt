-- Where records hold and every chunk decodes, the count of a ring's segments says whether it has room; and a box that covers a chunk's points says that they decode.
-- Assumes nothing.
use Prim.Native.Nat.{ℕ, ◌<◌}
use mathlib.Core.Path.{◌≡◌, refl, sym}
use mathlib.Core.Bool.{true}
use mathlib.Core.List.{List}
use Rattle.plane.specs.Lines.{every}
use Rattle.answer.specs.Answers.{Answer, ok, refused, holds, answered}
use Rattle.boxes.specs.Box.{in_box}
use Rattle.shapes.specs.Words.{has_room}
use Rattle.shapes.specs.Layout as Layout
use Rattle.opened.specs.declared.Opened.{Opened}
use Rattle.opened.specs.Widths.{ring_wide}
use Rattle.reader_records.specs.declared.RingRecord.{RingRecord}
use Rattle.reader_records.specs.Records.{ring_in, ring_rule, ring_at, chunk_at}
use Rattle.reader_records.proofs.RecordsLaws.{ruled_inside}
use Rattle.reader_chunks.specs.Chunks.{chunk_points}
use Rattle.reader_cover.specs.Cover.{chunk_covers}
use Rattle.reader_cover.specs.All.{all}
use Rattle.reader_cover.proofs.AllLaws.{all_at, at_all}
use Rattle.directories.specs.Directories.{directories}
use Rattle.reader_room.specs.Steps.{room_of}
use Rattle.reader_room.proofs.Room.{room_is, room_none}
use Rattle.answer.proofs.AnswersLaws.{held, answered_ok}
use Rattle.reader_check.specs.FullCheck as D
use Rattle.reader_check.specs.FullCheck.{asked, met, all_met, records_hold, chunks_decode}
use Rattle.reader_check.proofs.Facts.{ring_legs, chunk_decodes}

module _ (o : Opened) (s : List ℕ) where
  -- a ring that is answered is one of the directory
  ring_inside : (i : ℕ) (v : RingRecord) → ok v ≡ ring_at o s i → i < o.rings.count
  unfolding ring_at
  ring_inside i v e = ruled_inside s o.rings ring_wide i (ring_in s) (ring_rule o.ops.count) 34 v e

  module _ (records : records_hold o s ≡ true) (decode : chunks_decode o s ≡ true) where
    room_read : (i : ℕ) (v : RingRecord) → ok v ≡ ring_at o s i → holds (λ b. b) (room_of o s v) ≡ has_room (Layout.ring_at (directories o s) i)
    room_read i v e =
        let l = ring_inside i v e in
        room_is o s (λ j m. let d = chunk_decodes o s decode j m in record { value = d.0; is = d.1 }) i v e (ring_legs o s records i l v e)

    pub rooms_read : (i : ℕ) → holds (λ v. holds (λ b. b) (room_of o s v)) (ring_at o s i) ≡ has_room (Layout.ring_at (directories o s) i)
    unfolding holds
    rooms_read i = go (ring_at o s i) refl
      where
        go : (x : Answer RingRecord) → x ≡ ring_at o s i → holds (λ v. holds (λ b. b) (room_of o s v)) x ≡ has_room (Layout.ring_at (directories o s) i)
        go (ok v) e = room_read i v e
        go (refused k) e = room_none o s i k e

  -- ---- F4 of a chunk says F3 of it
  covers_decodes : (i : ℕ) → chunk_covers o s i ≡ true → answered (chunk_points o s i) ≡ true
  unfolding chunk_covers
  covers_decodes i h =
      let v = held (λ v. holds (every (in_box v.bbox)) (chunk_points o s i)) (chunk_at o s i) h in
      let l = held (every (in_box v.0.bbox)) (chunk_points o s i) v.2 in
      sym (answered_ok (chunk_points o s i) l.0 l.1)

  pub all_decode : met o s D.Chunk ≡ true → chunks_decode o s ≡ true
  unfolding chunks_decode all_met met
  all_decode h = rw (at_all (asked o s D.Decode).test o.chunks.count 0 (λ j a b. covers_decodes j (all_at (asked o s D.Chunk).test o.chunks.count 0 h j a b))) refl
