-- Laws of specs/Chunks, as proofs cite them. Nothing here need be believed.
-- Assumes nothing.
use Prim.Native.Nat.{ℕ, ◌+◌, ◌*◌, ◌≤◌, ◌<◌}
use mathlib.Core.Path.{◌≡◌, refl}
use mathlib.Core.List.{List}
use lib.ListN.{length}
use lib.IntN.{ℤ}
use borrow.Author.Tests.{lt-leb, le-leb, lt-ltb, le-ltb}
use Rattle.plane.specs.declared.Point.{Point}
use Rattle.plane.specs.declared.I32Point.{I32Point}
use Rattle.answer.specs.declared.Refusal.{Refusal}
use Rattle.answer.specs.Refusals.{counted_from}
use Rattle.answer.specs.Answers.{Answer, ok, refused, no, behind}
use Rattle.answer.specs.Walks.{broken, walk_behind}
use Rattle.boxes.specs.declared.BBox.{BBox}
use Rattle.fields.specs.Part.{part}
use Rattle.chunks.specs.Points.{first_of}
use Rattle.chunks.specs.Scan.{scan_of}
use Rattle.chunks.specs.Decode.{points_of, into_room, filled}
use Rattle.chunks.specs.Trace.{trace_of}
use Rattle.chunks.specs.Count.{count_of}
use Rattle.opened.specs.declared.Opened.{Opened}
use Rattle.reader_records.specs.declared.ChunkRecord.{ChunkRecord}
use Rattle.reader_records.specs.Records.{chunk_at}
use Rattle.reader_chunks.specs.Chunks.{start_of, end_of, span, bytes_of, first_in, scan_in, trace_in, count_in, first_at, trace_at, count_at, decode_by, decode_in}
use Rattle.reader_chunks.specs.Steps.{points_in}

module _ (o : Opened) (s : List ℕ) (i : ℕ) where
  pub end_last : o.chunks.count ≤ i + 1 → ok (o.points.off + o.points.len) ≡ end_of o s i
  unfolding end_of
  end_last h = rw (le-ltb (i + 1) o.chunks.count h)

  pub end_no : i + 1 < o.chunks.count → (r : Refusal) → refused r ≡ chunk_at o s (i + 1) → refused r ≡ end_of o s i
  unfolding end_of
  end_no h r k = rw (lt-ltb (i + 1) o.chunks.count h, ← k)

  pub end_is : i + 1 < o.chunks.count → (v : ChunkRecord) → ok v ≡ chunk_at o s (i + 1) → ok (start_of o v) ≡ end_of o s i
  unfolding end_of
  end_is h v k = rw (lt-ltb (i + 1) o.chunks.count h, ← k)

module _ (s : List ℕ) (a e : ℕ) where
  pub span_none : e ≤ a → no 37 ≡ span s a e
  unfolding span
  span_none h = rw (le-ltb a e h)

  pub span_short : a < e → length s < e → no 44 ≡ span s a e
  unfolding span
  span_short h k = rw (lt-ltb a e h, lt-leb e (length s) k)

  pub span_is : a < e → e ≤ length s → ok (part s a e) ≡ span s a e
  unfolding span
  span_is h k = rw (lt-ltb a e h, le-leb e (length s) k)

  pub first_no : (r : Refusal) → refused r ≡ span s a e → refused r ≡ first_in s a e
  unfolding first_in
  first_no r h = rw (← h)

  module _ (b : List ℕ) (h : ok b ≡ span s a e) where
    pub first_bad : (r : Refusal) → refused r ≡ first_of b → refused (counted_from a r) ≡ first_in s a e
    unfolding first_in
    first_bad r k = rw (← h, ← k)

    pub first_is : (q : I32Point) (m : ℕ) → ok (q, m) ≡ first_of b → ok q ≡ first_in s a e
    unfolding first_in
    first_is q m k = rw (← h, ← k)

  module _ (n : ℕ) where
    module _ (p : Point) where
      pub scan_no : (r : Refusal) → refused r ≡ span s a e → broken r ≡ scan_in s n p a e
      unfolding scan_in
      scan_no r h = rw (← h)

      pub scan_is : (b : List ℕ) → ok b ≡ span s a e → walk_behind a (scan_of b n p) ≡ scan_in s n p a e
      unfolding scan_in
      scan_is b h = rw (← h)

    module _ (b : BBox) where
      pub trace_no : (r : Refusal) → refused r ≡ span s a e → refused r ≡ trace_in s n b a e
      unfolding trace_in
      trace_no r h = rw (← h)

      pub trace_is : (c : List ℕ) → ok c ≡ span s a e → behind a (trace_of c n b) ≡ trace_in s n b a e
      unfolding trace_in
      trace_is c h = rw (← h)

    module _ (t : I32Point) (k : ℕ) where
      pub count_no : (r : Refusal) → refused r ≡ span s a e → refused r ≡ count_in s n t k a e
      unfolding count_in
      count_no r h = rw (← h)

      pub count_is : (c : List ℕ) → ok c ≡ span s a e → behind a (count_of c n t k) ≡ count_in s n t k a e
      unfolding count_in
      count_is c h = rw (← h)

    pub points_no : (r : Refusal) → refused r ≡ span s a e → refused r ≡ points_in s n a e
    unfolding points_in
    points_no r h = rw (← h)

    pub points_is : (b : List ℕ) → ok b ≡ span s a e → behind a (points_of b n) ≡ points_in s n a e
    unfolding points_in
    points_is b h = rw (← h)

-- where there is room, points that go into it are the points
pub into_room_law : (b : List ℕ) (n : ℕ) (out : List ℤ) → 0 < n → 2 * n ≤ length out → into_room b n out ≡ points_of b n
unfolding into_room
into_room_law b n out h k = rw (lt-ltb 0 n h, le-leb (2 * n) (length out) k)

-- what is written does not depend on where a refusal stands
pub filled_behind : (out : List ℤ) (a : ℕ) (x : Answer (List I32Point)) → filled out x ≡ filled out (behind a x)
filled_behind out a (ok l) = refl
filled_behind out a (refused r) = refl

module _ (o : Opened) (s : List ℕ) (i : ℕ) where
  pub at_no : (r : Refusal) → refused r ≡ chunk_at o s i → refused r ≡ first_at o s i
  unfolding first_at
  at_no r h = rw (← h)

  module _ (v : ChunkRecord) (h : ok v ≡ chunk_at o s i) where
    pub at_far : (r : Refusal) → refused r ≡ end_of o s i → refused r ≡ first_at o s i
    unfolding first_at
    at_far r k = rw (← h, ← k)

    pub at_is : (e : ℕ) → ok e ≡ end_of o s i → (a : ℕ) → a ≡ start_of o v → first_in s a e ≡ first_at o s i
    unfolding first_at
    at_is e k a g = rw (← h, ← k, g)

  pub trace_at_no : (r : Refusal) → refused r ≡ chunk_at o s i → refused r ≡ trace_at o s i
  unfolding trace_at
  trace_at_no r h = rw (← h)

  module _ (v : ChunkRecord) (h : ok v ≡ chunk_at o s i) where
    pub trace_at_far : (r : Refusal) → refused r ≡ end_of o s i → refused r ≡ trace_at o s i
    unfolding trace_at
    trace_at_far r k = rw (← h, ← k)

    pub trace_at_is : (e : ℕ) → ok e ≡ end_of o s i → (a : ℕ) → a ≡ start_of o v → trace_in s v.count v.bbox a e ≡ trace_at o s i
    unfolding trace_at
    trace_at_is e k a g = rw (← h, ← k, g)

  module _ (t : I32Point) (n : ℕ) where
    pub count_at_no : (r : Refusal) → refused r ≡ chunk_at o s i → refused r ≡ count_at o s i t n
    unfolding count_at
    count_at_no r h = rw (← h)

    module _ (v : ChunkRecord) (h : ok v ≡ chunk_at o s i) where
      pub count_at_far : (r : Refusal) → refused r ≡ end_of o s i → refused r ≡ count_at o s i t n
      unfolding count_at
      count_at_far r k = rw (← h, ← k)

      pub count_at_is : (e : ℕ) → ok e ≡ end_of o s i → (a : ℕ) → a ≡ start_of o v → count_in s v.count t n a e ≡ count_at o s i t n
      unfolding count_at
      count_at_is e k a g = rw (← h, ← k, g)

  module _ (out : List ℤ) where
    module _ (v : ChunkRecord) (h : 0 < v.count) (room : 2 * v.count ≤ length out) where
      pub by_far : (r : Refusal) → refused r ≡ end_of o s i → refused r ≡ decode_by o s i out v
      unfolding decode_by bytes_of
      by_far r k = rw (lt-ltb 0 v.count h, le-leb (2 * v.count) (length out) room, ← k)

      pub by_is : (e : ℕ) → ok e ≡ end_of o s i → (a : ℕ) → a ≡ start_of o v → points_in s v.count a e ≡ decode_by o s i out v
      unfolding decode_by bytes_of points_in
      by_is e k a g = rw (lt-ltb 0 v.count h, le-leb (2 * v.count) (length out) room, ← k, g)

    pub in_no : (r : Refusal) → refused r ≡ chunk_at o s i → refused r ≡ decode_in o s i out
    unfolding decode_in
    in_no r h = rw (← h)

    pub in_is : (v : ChunkRecord) → ok v ≡ chunk_at o s i → decode_by o s i out v ≡ decode_in o s i out
    unfolding decode_in
    in_is v h = rw (← h)
