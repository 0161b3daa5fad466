-- What the trace of a chunk says of the rules.
-- Assumes nothing.
use Prim.Native.Nat.{ℕ}
use mathlib.Core.Path.{◌≡◌, refl, sym, ap, ◌∙◌}
use mathlib.Core.Bool.{Bool, true, false}
use mathlib.Core.List.{List}
use lib.Dec.{ltb}
use Rattle.plane.specs.declared.I32Point.{I32Point}
use Rattle.plane.specs.Lines.{every, last_of}
use Rattle.answer.specs.declared.Refusal.{Refusal}
use Rattle.answer.specs.Answers.{Answer, ok, refused, ◌then◌, need, behind, holds, answered}
use Rattle.boxes.specs.declared.BBox.{BBox}
use Rattle.boxes.specs.Box.{in_box}
use Rattle.chunks.specs.Decode.{points_of}
use Rattle.chunks.specs.Trace.{trace_of, traced}
use Rattle.chunks.proofs.Neighbours.{trace_points}
use Rattle.opened.specs.declared.Opened.{Opened}
use Rattle.reader_records.specs.declared.ChunkRecord.{ChunkRecord}
use Rattle.reader_records.specs.Records.{chunk_at}
use Rattle.reader_chunks.specs.Chunks.{start_of, end_of, span, bytes_of, trace_in, trace_at, chunk_points}
use Rattle.reader_cover.specs.Cover.{chunk_covers}
use Rattle.answer.proofs.RefusalsLaws.{holds_behind}
use Rattle.chunks.proofs.DecodeLaws.{points_are}
use Rattle.plane.specs.Segment.{same_point}

-- a test of points, made on their trace
traced_holds : (b : BBox) (P : List I32Point → Bool) (Q : Bool × I32Point → Bool) → ((l : List I32Point) → Q (every (in_box b) l, last_of l) ≡ P l)
    → (x : Answer (List I32Point)) → holds Q (traced b x) ≡ holds P x
unfolding traced holds
traced_holds b P Q f (ok l) = f l
traced_holds b P Q f (refused r) = refl

-- a count of 0 is tested with the points
tested_once : (c : List ℕ) (n : ℕ) → points_of c n ≡ need 32 (ltb 0 n) (points_of c n)
tested_once c n = points_are c n ∙ twice (ltb 0 n) _ ∙ sym (ap (need 32 (ltb 0 n)) (points_are c n))
  where
    twice : (b : Bool) (x : Answer (List I32Point)) → need 32 b x ≡ need 32 b (need 32 b x)
    twice true x = refl
    twice false x = refl

module _ (o : Opened) (s : List ℕ) (i : ℕ) where
  -- of a chunk whose record is v
  record_holds : (v : ChunkRecord) (P : List I32Point → Bool) (Q : Bool × I32Point → Bool) → ((l : List I32Point) → Q (every (in_box v.bbox) l, last_of l) ≡ P l)
      → holds Q (end_of o s i then λ e. trace_in s v.count v.bbox (start_of o v) e) ≡ holds P (need 32 (ltb 0 v.count) (bytes_of o s i v then λ c. behind (start_of o v) (points_of c v.count)))
  unfolding trace_in bytes_of holds
  record_holds v P Q f = with_end (end_of o s i)
    where
      neither : (b : Bool) (r : Refusal) → false ≡ holds P (need 32 b (refused r))
      neither true r = refl
      neither false r = refl

      behind_tested : (b : Bool) (x : Answer (List I32Point)) → holds P (need 32 b x) ≡ holds P (need 32 b (behind (start_of o v) x))
      behind_tested true x = holds_behind P (start_of o v) x
      behind_tested false x = refl

      with_bytes : (x : Answer (List ℕ)) → holds Q (x then λ c. behind (start_of o v) (trace_of c v.count v.bbox)) ≡ holds P (need 32 (ltb 0 v.count) (x then λ c. behind (start_of o v) (points_of c v.count)))
      with_bytes (ok c) =
          sym (holds_behind Q (start_of o v) (trace_of c v.count v.bbox))
          ∙ ap (holds Q) (trace_points c v.count v.bbox)
          ∙ traced_holds v.bbox P Q f (points_of c v.count)
          ∙ ap (holds P) (tested_once c v.count)
          ∙ behind_tested (ltb 0 v.count) (points_of c v.count)
      with_bytes (refused r) = neither (ltb 0 v.count) r

      with_end : (x : Answer ℕ) → holds Q (x then λ e. span s (start_of o v) e then λ c. behind (start_of o v) (trace_of c v.count v.bbox)) ≡ holds P (need 32 (ltb 0 v.count) (x then (λ e. span s (start_of o v) e) then λ c. behind (start_of o v) (points_of c v.count)))
      with_end (ok e) = with_bytes (span s (start_of o v) e)
      with_end (refused r) = neither (ltb 0 v.count) r

  -- a test that takes no notice of the box
  trace_holds : (P : List I32Point → Bool) (Q : Bool × I32Point → Bool) → ((b : BBox) (l : List I32Point) → Q (every (in_box b) l, last_of l) ≡ P l)
      → holds Q (trace_at o s i) ≡ holds P (chunk_points o s i)
  unfolding trace_at chunk_points holds
  trace_holds P Q f = go (chunk_at o s i)
    where
      go : (x : Answer ChunkRecord) → holds Q (x then λ v. end_of o s i then λ e. trace_in s v.count v.bbox (start_of o v) e) ≡ holds P (x then λ v. need 32 (ltb 0 v.count) (bytes_of o s i v then λ b. behind (start_of o v) (points_of b v.count)))
      go (ok v) = record_holds v P Q (f v.bbox)
      go (refused r) = refl

  -- F4
  pub trace_covers : holds (λ t. t.0) (trace_at o s i) ≡ chunk_covers o s i
  unfolding trace_at chunk_covers chunk_points holds
  trace_covers = go (chunk_at o s i)
    where
      go : (x : Answer ChunkRecord) → holds (λ t. t.0) (x then λ v. end_of o s i then λ e. trace_in s v.count v.bbox (start_of o v) e) ≡ holds (λ v. holds (every (in_box v.bbox)) (x then λ v. need 32 (ltb 0 v.count) (bytes_of o s i v then λ b. behind (start_of o v) (points_of b v.count)))) x
      go (ok v) = record_holds v (every (in_box v.bbox)) (λ t. t.0) (λ l. refl)
      go (refused r) = refl

  -- F3
  pub trace_decodes : answered (trace_at o s i) ≡ answered (chunk_points o s i)
  unfolding answered
  trace_decodes = trace_holds (λ l. true) (λ t. true) (λ b l. refl)

  -- F5: the last point
  pub trace_last : (q : I32Point) → holds (λ t. same_point q t.1) (trace_at o s i) ≡ holds (λ l. same_point q (last_of l)) (chunk_points o s i)
  trace_last q = trace_holds (λ l. same_point q (last_of l)) (λ t. same_point q t.1) (λ b l. refl)
