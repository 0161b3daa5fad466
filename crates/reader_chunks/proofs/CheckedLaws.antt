-- A chunk is checked as it is decoded: 32 and 46 come first, and then its trace is refused as its points are. Nothing here need be believed.
-- Assumes nothing.
use Prim.Native.Nat.{ℕ, ◌*◌, ◌≤◌, ◌<◌}
use mathlib.Core.Path.{◌≡◌, refl, sym, ap, ◌∙◌}
use mathlib.Core.Bool.{Bool, true, false}
use mathlib.Core.List.{List}
use lib.ListN.{length}
use lib.Dec.{ltb, leb}
use lib.IntN.{ℤ}
use borrow.Author.Tests.{ltb-true, leb-true}
use Rattle.plane.specs.declared.I32Point.{I32Point}
use Rattle.answer.specs.declared.Refusal.{Refusal}
use Rattle.answer.specs.Answers.{Answer, ok, refused, ◌then◌, need, ◌before◌, behind, Check, fine, outcome}
use Rattle.answer.specs.Checks.{claim}
use Rattle.answer.proofs.AnswersLaws.{need_inv, zero_one}
use Rattle.answer.proofs.RefusalsLaws.{behind_outcome}
use Rattle.boxes.specs.declared.BBox.{BBox}
use Rattle.chunks.specs.Decode.{points_of}
use Rattle.chunks.specs.Trace.{trace_of, traced}
use Rattle.chunks.proofs.Neighbours.{trace_points}
use Rattle.opened.specs.declared.Opened.{Opened}
use Rattle.reader_records.specs.declared.ChunkRecord.{ChunkRecord}
use Rattle.reader_records.specs.Records.{chunk_at}
use Rattle.reader_chunks.specs.Chunks.{start_of, end_of, span, trace_in, trace_at, decode_by, decode_in}
use Rattle.reader_chunks.specs.Steps.{points_in, room_for}
use Rattle.reader_chunks.proofs.ChunksLaws.{trace_at_far, trace_at_is, by_far, by_is, in_is}

-- ---- the claims of the code
claim_no : {A : Type 0} (n : ℕ) (b : Bool) (x : Answer A) (r : Refusal) → refused r ≡ claim n b → refused r ≡ need n b x
unfolding claim
claim_no n true x r e = let z : ◌≡◌ {A = ℕ} 0 1 = cc in absurd (zero_one z)
claim_no n false x r e = let z : r ≡ _ = cc in ap refused z

claim_met : {A : Type 0} (n : ℕ) (b : Bool) (x : Answer A) → fine ≡ claim n b → x ≡ need n b x
unfolding claim
claim_met n true x e = refl
claim_met n false x e = let z : ◌≡◌ {A = ℕ} 0 1 = cc in absurd (zero_one z)

-- ---- 32 and 46
module _ (n room : ℕ) where
  pub room_barred : (r : Refusal) → refused r ≡ claim 32 (ltb 0 n) → refused r ≡ room_for n room
  unfolding room_for
  room_barred r h = claim_no 32 (ltb 0 n) (need 46 (leb (2 * n) room) fine) r h

  pub room_told : fine ≡ claim 32 (ltb 0 n) → claim 46 (leb (2 * n) room) ≡ room_for n room
  unfolding room_for claim
  room_told h = last (leb (2 * n) room) ∙ claim_met 32 (ltb 0 n) (need 46 (leb (2 * n) room) fine) h
    where
      last : (b : Bool) → claim 46 b ≡ need 46 b fine
      last true = refl
      last false = refl

  -- and back
  pub room_fine : fine ≡ room_for n room → (0 < n) × (2 * n ≤ room)
  unfolding room_for
  room_fine e =
      let f = need_inv 32 (ltb 0 n) (need 46 (leb (2 * n) room) fine) tt e in
      let g = need_inv 46 (leb (2 * n) room) fine tt f.1 in
      (ltb-true 0 n f.0, leb-true (2 * n) room g.0)

module _ (o : Opened) (s : List ℕ) (i : ℕ) (out : List ℤ) (v : ChunkRecord) where
  -- decoding is refused by these first
  pub by_barred : (r : Refusal) → refused r ≡ room_for v.count (length out) → refused r ≡ decode_by o s i out v
  unfolding room_for decode_by
  by_barred r e = first _ _ e ∙ go (ltb 0 v.count) (leb (2 * v.count) (length out)) _
    where
      first : (c : Check) (x : Answer (List I32Point)) → refused r ≡ c → refused r ≡ (c before x)
      first c x e = rw (← e)

      go : (a b : Bool) (x : Answer (List I32Point)) → (need 32 a (need 46 b fine) before x) ≡ need 32 a (need 46 b x)
      go true true x = refl
      go true false x = refl
      go false b x = refl

-- ---- the bytes
-- a trace is refused as the points are, and told where they are
pub trace_told : (s : List ℕ) (n : ℕ) (b : BBox) (a e : ℕ) → outcome (trace_in s n b a e) ≡ outcome (points_in s n a e)
unfolding trace_in points_in traced
trace_told s n b a e = go (span s a e)
  where
    told : (x : Answer (List I32Point)) → outcome (traced b x) ≡ outcome x
    told (ok l) = refl
    told (refused r) = refl

    go : (x : Answer (List ℕ)) → outcome (x then λ c. behind a (trace_of c n b)) ≡ outcome (x then λ c. behind a (points_of c n))
    go (ok c) = behind_outcome a (trace_of c n b) ∙ ap (behind a) (ap outcome (trace_points c n b) ∙ told (points_of c n)) ∙ sym (behind_outcome a (points_of c n))
    go (refused r) = refl

-- so where there is room, a chunk's trace is told as its decoding is
pub trace_decodes : (o : Opened) (s : List ℕ) (i : ℕ) (out : List ℤ) (v : ChunkRecord) → ok v ≡ chunk_at o s i → fine ≡ room_for v.count (length out) → outcome (trace_at o s i) ≡ outcome (decode_in o s i out)
trace_decodes o s i out v f h = go (end_of o s i) refl
  where
    room : (0 < v.count) × (2 * v.count ≤ length out)
    room = room_fine v.count (length out) h

    go : (x : Answer ℕ) → x ≡ end_of o s i → outcome (trace_at o s i) ≡ outcome (decode_in o s i out)
    go (ok e) k =
        ap outcome (sym (trace_at_is o s i v f e k (start_of o v) refl))
        ∙ trace_told s v.count v.bbox (start_of o v) e
        ∙ ap outcome (by_is o s i out v room.0 room.1 e k (start_of o v) refl ∙ in_is o s i out v f)
    go (refused r) k =
        ap outcome (sym (trace_at_far o s i v f r k))
        ∙ ap outcome (by_far o s i out v room.0 room.1 r k ∙ in_is o s i out v f)
