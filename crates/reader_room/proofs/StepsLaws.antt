-- Laws of specs/Steps, as proofs cite them. Nothing here need be believed.
-- Assumes nothing.
use Prim.Native.Nat.{ℕ, suc, ◌+◌, ◌-◌, ◌≤◌, ◌<◌}
use native.Mathlib.Omega.{arith}
use mathlib.Core.Path.{◌≡◌, refl, sym, ap, ◌∙◌}
use mathlib.Core.Bool.{Bool, true, false, cond}
use mathlib.Core.List.{List}
use lib.Dec.{leb}
use borrow.Author.Tests.{leb-true, leb-false, lt-leb, le-leb, lt-ltb, le-ltb}
use Rattle.plane.specs.declared.I32Point.{I32Point}
use Rattle.answer.specs.declared.Refusal.{Refusal}
use Rattle.answer.specs.Answers.{Answer, ok, refused, ◌then◌}
use Rattle.chunks.specs.Count.{with_side}
use Rattle.opened.specs.declared.Opened.{Opened}
use Rattle.reader_records.specs.Records.{turns_round}
use Rattle.reader_chunks.specs.Chunks.{count_at}
use Rattle.reader_room.specs.declared.Line.{Line}
use Rattle.reader_room.specs.Steps.{chunks_count, line_at, lines_room}

-- ---- the chunks up to `to`, from chunk i on: what is left answers as the whole does
module _ (o : Opened) (s : List ℕ) where
  pub chunks_start_law : (m n i : ℕ) (a : I32Point) (k : ℕ) → m ≡ n → chunks_count o s m i a k ≡ chunks_count o s n i a k
  chunks_start_law m n i a k e = ap (λ (z : ℕ). chunks_count o s z i a k) e

  module _ (to i : ℕ) (a : I32Point) (k : ℕ) (whole : Answer (ℕ × I32Point)) (inv : chunks_count o s (to - i) i a k ≡ whole) where
    pub chunks_end : to ≤ i → ok (k, a) ≡ whole
    unfolding chunks_count
    chunks_end h =
        let z : to - i ≡ 0 = omega arith in
        rw z at inv

    module _ (h : i < to) where
      left : to - i ≡ suc (to - (i + 1))
      left = omega arith

      pub chunks_no : (r : Refusal) → refused r ≡ count_at o s i a k → refused r ≡ whole
      unfolding chunks_count
      chunks_no r e = rw (left, ← e) at inv

      module _ (t : ℕ × I32Point) (e : ok t ≡ count_at o s i a k) where
        chunks_one : cond (leb 3 t.0) (ok t) (chunks_count o s (to - (i + 1)) (i + 1) t.1 t.0) ≡ whole
        unfolding chunks_count
        chunks_one = rw (left, ← e) at inv

        pub chunks_enough : 3 ≤ t.0 → ok t ≡ whole
        chunks_enough l = sym (ap (λ (b : Bool). cond b (ok t) (chunks_count o s (to - (i + 1)) (i + 1) t.1 t.0)) (le-leb 3 t.0 l)) ∙ chunks_one

        pub chunks_on : t.0 < 3 → chunks_count o s (to - (i + 1)) (i + 1) t.1 t.0 ≡ whole
        chunks_on l = sym (ap (λ (b : Bool). cond b (ok t) (chunks_count o s (to - (i + 1)) (i + 1) t.1 t.0)) (lt-leb 3 t.0 l)) ∙ chunks_one

-- ---- the bit of an op that turns its group round
pub round_is : (w : ℕ) → leb 0x8000_0000 w ≡ turns_round w
round_is w = go (leb 0x8000_0000 w) refl
  where
    go : (x : Bool) → leb 0x8000_0000 w ≡ x → x ≡ turns_round w
    go true e = let h : 0x8000_0000 ≤ w = leb-true 0x8000_0000 w e in rw (le-ltb w 0x8000_0000 h)
    go false e = let h : w < 0x8000_0000 = leb-false 0x8000_0000 w e in rw (lt-ltb w 0x8000_0000 h)

-- ---- the ops up to `to`, from op i on, likewise
module _ (o : Opened) (s : List ℕ) (start : I32Point) where
  pub lines_start_law : (m n i : ℕ) (a : I32Point) (k : ℕ) → m ≡ n → lines_room o s start m i a k ≡ lines_room o s start n i a k
  lines_start_law m n i a k e = ap (λ (z : ℕ). lines_room o s start z i a k) e

  module _ (to i : ℕ) (a : I32Point) (k : ℕ) (whole : Answer Bool) (inv : lines_room o s start (to - i) i a k ≡ whole) where
    pub lines_end : to ≤ i → (j : ℕ) → j ≡ with_side a start k → ok (leb 3 j) ≡ whole
    unfolding lines_room
    lines_end h j e =
        let z : to - i ≡ 0 = omega arith in
        rw (z, ← e) at inv

    module _ (h : i < to) where
      ops_left : to - i ≡ suc (to - (i + 1))
      ops_left = omega arith

      pub lines_no : (r : Refusal) → refused r ≡ line_at o s i k → refused r ≡ whole
      unfolding lines_room
      lines_no r e = rw (ops_left, ← e) at inv

      module _ (t : Line) (e : ok t ≡ line_at o s i k) (j : ℕ) (f : j ≡ with_side a t.entry t.sides) where
        lines_one : cond (leb 3 j) (ok true) (lines_room o s start (to - (i + 1)) (i + 1) t.exit j) ≡ whole
        unfolding lines_room
        lines_one = rw f (rw (ops_left, ← e) at inv)

        pub lines_enough : 3 ≤ j → ok true ≡ whole
        lines_enough l = sym (ap (λ (b : Bool). cond b (ok true) (lines_room o s start (to - (i + 1)) (i + 1) t.exit j)) (le-leb 3 j l)) ∙ lines_one

        pub lines_on : j < 3 → lines_room o s start (to - (i + 1)) (i + 1) t.exit j ≡ whole
        lines_on l = sym (ap (λ (b : Bool). cond b (ok true) (lines_room o s start (to - (i + 1)) (i + 1) t.exit j)) (lt-leb 3 j l)) ∙ lines_one
