-- Laws of specs/Count, as proofs cite them. Nothing here need be believed.
-- Assumes nothing.
use Prim.Native.Nat.{ℕ, suc, ◌+◌, ◌-◌, ◌≤◌, ◌<◌}
use native.Mathlib.Omega.{arith}
use mathlib.Core.Path.{◌≡◌, ap, ◌∙◌}
use mathlib.Core.Bool.{true, false}
use mathlib.Core.List.{List}
use borrow.Author.Tests.{lt-leb, le-leb, lt-ltb, le-ltb}
use Rattle.answer.specs.declared.Refusal.{Refusal}
use Rattle.answer.specs.Refusals.{refusal, placed_at}
use Rattle.answer.specs.Answers.{Answer, ok, refused}
use Rattle.plane.specs.declared.I32Point.{I32Point}
use Rattle.plane.specs.Segment.{same_point}
use Rattle.varints.specs.Varint.{at_end}
use Rattle.chunks.specs.Points.{first_of, next_at}
use Rattle.chunks.specs.Along.{reach, along}
use Rattle.chunks.specs.Count.{with_side, counter, count_of}
use Rattle.chunks.specs.Steps.{along_by}
use Rattle.chunks.proofs.AlongLaws.{along_by_law, by_left, by_end, by_no, by_to}

-- ---- a segment counted
module _ (a b : I32Point) (n : ℕ) where
  pub side_same : same_point a b ≡ true → n ≡ with_side a b n
  unfolding with_side
  side_same h = rw h

  pub side_more : same_point a b ≡ false → n < 3 → n + 1 ≡ with_side a b n
  unfolding with_side
  side_more h k = rw (h, lt-ltb n 3 k) one_more
    where
      one_more : n + 1 ≡ suc n
      one_more = omega arith

  pub side_full : same_point a b ≡ false → 3 ≤ n → n ≡ with_side a b n
  unfolding with_side
  side_full h k = rw (h, le-ltb n 3 k)

-- past the segment from q to t, with j counted then: three are enough
module _ (q t : I32Point) (x : ℕ → Answer (ℕ × I32Point)) (c j : ℕ) (e : j ≡ with_side q t c) where
  pub segment_enough : 3 ≤ j → ok (j, t) ≡ reach counter q t x c
  segment_enough h = rw (← e, le-leb 3 j h)

  pub segment_few : j < 3 → x j ≡ reach counter q t x c
  segment_few h = rw (← e, lt-leb 3 j h)

-- ---- a loop with c counted so far and n points left, where the answer to what comes next is a
pub count_by : (s : List ℕ) (q : I32Point) (n k c : ℕ) → along_by counter s n q k (next_at s q k) c ≡ along counter s n q k c
count_by s q n k c = ap (λ (f : ℕ → Answer (ℕ × I32Point)). f c) (along_by_law counter s q n k)

module _ (s : List ℕ) (q : I32Point) (n k : ℕ) (a : Answer (I32Point × ℕ)) (c : ℕ) where
  pub count_left : n ≡ 0 → at_end s k ≡ false → refused (placed_at k (refusal 43)) ≡ along_by counter s n q k a c
  count_left z h = ap (λ (f : ℕ → Answer (ℕ × I32Point)). f c) (by_left counter s q n k a z h)

  pub count_end : n ≡ 0 → at_end s k ≡ true → ok (c, q) ≡ along_by counter s n q k a c
  count_end z h = ap (λ (f : ℕ → Answer (ℕ × I32Point)). f c) (by_end counter s q n k a z h)

  module _ (h : 0 < n) where
    pub count_no : (r : Refusal) → refused r ≡ a → refused r ≡ along_by counter s n q k a c
    count_no r e = ap (λ (f : ℕ → Answer (ℕ × I32Point)). f c) (by_no counter s q n k a h r e)

    module _ (t : I32Point) (m : ℕ) (e : ok (t, m) ≡ a) where
      count_to : reach counter q t (along counter s (n - 1) t m) c ≡ along_by counter s n q k a c
      count_to = ap (λ (f : ℕ → Answer (ℕ × I32Point)). f c) (by_to counter s q n k a h t m e)

      pub count_enough : (j : ℕ) → j ≡ with_side q t c → 3 ≤ j → ok (j, t) ≡ along_by counter s n q k a c
      count_enough j g l = segment_enough q t (along counter s (n - 1) t m) c j g l ∙ count_to

      pub count_on : (j : ℕ) → j ≡ with_side q t c → j < 3 → along counter s (n - 1) t m j ≡ along_by counter s n q k a c
      count_on j g l = segment_few q t (along counter s (n - 1) t m) c j g l ∙ count_to

-- ---- the cases of the code
module _ (s : List ℕ) (n : ℕ) (a : I32Point) (k : ℕ) where
  pub of_none : n ≡ 0 → refused (refusal 32) ≡ count_of s n a k
  unfolding count_of
  of_none z = rw z

  module _ (h : 0 < n) where
    pub of_no : (r : Refusal) → refused r ≡ first_of s → refused r ≡ count_of s n a k
    unfolding count_of
    of_no r e = rw (lt-ltb 0 n h, ← e)

    module _ (q : I32Point) (m : ℕ) (e : ok (q, m) ≡ first_of s) where
      of_first : reach counter a q (along counter s (n - 1) q m) k ≡ count_of s n a k
      unfolding count_of
      of_first = rw (lt-ltb 0 n h, ← e)

      pub of_enough : (j : ℕ) → j ≡ with_side a q k → 3 ≤ j → ok (j, q) ≡ count_of s n a k
      of_enough j g l = segment_enough a q (along counter s (n - 1) q m) k j g l ∙ of_first

      pub of_on : (j : ℕ) → j ≡ with_side a q k → j < 3 → along counter s (n - 1) q m j ≡ count_of s n a k
      of_on j g l = segment_few a q (along counter s (n - 1) q m) k j g l ∙ of_first
