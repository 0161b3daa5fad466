-- Laws of specs/Groups, as proofs cite them. Nothing here need be believed.
-- Assumes nothing.
use Prim.Native.Nat.{ℕ, suc, ◌+◌, ◌-◌, ◌≤◌, ◌<◌}
use native.Mathlib.Omega.{arith}
use mathlib.Core.Path.{◌≡◌, sym, ap}
use mathlib.Core.Bool.{Bool, false}
use mathlib.Core.List.{List}
use Rattle.basics.specs.Parity.{⊻_idr}
use Rattle.plane.specs.declared.Point.{Point}
use Rattle.plane.specs.declared.I32Point.{I32Point}
use Rattle.answer.specs.declared.Refusal.{Refusal}
use Rattle.answer.specs.Answers.{ok}
use Rattle.answer.specs.Walks.{broken, on, off, add, ◌go◌, done}
use Rattle.boxes.specs.Box.{relevant}
use Rattle.opened.specs.declared.Opened.{Opened}
use Rattle.reader_records.specs.declared.ChunkRecord.{ChunkRecord}
use Rattle.reader_records.specs.Records.{chunk_at}
use Rattle.reader_groups.specs.Groups.{joined_to, pass_at, last_at, chunks_from}

module _ (o : Opened) (s : List ℕ) (p : Point) (i : ℕ) (v n : ChunkRecord) (h : ok n ≡ chunk_at o s (i + 1)) where
  pub pass_is : (b : Bool) → off b tt ≡ joined_to o s p i v n → off b n ≡ pass_at o s p i v
  unfolding pass_at add
  pass_is b k = rw (← h, ← k) (ap (λ (t : Bool). off t n) (sym (⊻_idr b)))

-- where the box does not matter nothing is read
module _ (o : Opened) (s : List ℕ) (p : Point) (i : ℕ) (v : ChunkRecord) where
  pub joined_none : (n : ChunkRecord) → relevant v.bbox p ≡ false → done tt ≡ joined_to o s p i v n
  unfolding joined_to
  joined_none n h = rw h

  pub last_none : (x : I32Point) → relevant v.bbox p ≡ false → done tt ≡ last_at o s p i v x
  unfolding last_at
  last_none x h = rw h

-- ---- the loop: of n chunks the k-th is reached, counted from 1
module _ (o : Opened) (s : List ℕ) (p : Point) (x : I32Point) (i : ℕ) (v : ChunkRecord) (n k : ℕ) where
  pub chunks_last : n ≤ k → last_at o s p i v x ≡ chunks_from o s p x (n - k) i v
  unfolding chunks_from
  chunks_last h =
      let z : n - k ≡ 0 = omega arith in
      rw z

  module _ (h : k < n) where
    chunks_one : chunks_from o s p x (n - k) i v ≡ (pass_at o s p i v go λ w. chunks_from o s p x (n - (k + 1)) (i + 1) w)
    unfolding chunks_from
    chunks_one =
        let z : n - k ≡ suc (n - (k + 1)) = omega arith in
        ap (λ (j : ℕ). chunks_from o s p x j i v) z

    pub chunks_no : (r : Refusal) → broken r ≡ pass_at o s p i v → broken r ≡ chunks_from o s p x (n - k) i v
    chunks_no r e = rw (chunks_one, ← e)

    pub chunks_on : on ≡ pass_at o s p i v → on ≡ chunks_from o s p x (n - k) i v
    chunks_on e = rw (chunks_one, ← e)

    pub chunks_off : (b : Bool) (j : ℕ) (w : ChunkRecord) → off b w ≡ pass_at o s p i v → j ≡ i + 1 → add b (chunks_from o s p x (n - (k + 1)) j w) ≡ chunks_from o s p x (n - k) i v
    chunks_off b j w e g = rw (chunks_one, ← e, g)
