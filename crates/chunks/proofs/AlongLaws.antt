-- Laws of specs/Along, as proofs cite them. Nothing here need be believed.
-- Assumes nothing.
use Prim.Native.Nat.{ℕ, ◌-◌, ◌<◌, zero, suc}
use mathlib.Core.Path.{◌≡◌, refl, ap}
use mathlib.Core.List.{List}
use borrow.Author.Tests.{lt-ltb}
use Rattle.answer.specs.declared.Refusal.{Refusal}
use Rattle.answer.specs.Refusals.{refusal, placed_at}
use Rattle.answer.specs.Answers.{ok, refused, Answer}
use Rattle.plane.specs.declared.I32Point.{I32Point}
use Rattle.chunks.specs.Points.{first_of, next_at}
use Rattle.chunks.specs.Along.{Walker, along, walk_from, walk_of, follow, reach}
use native.Mathlib.Omega.{arith}
use mathlib.Core.Bool.{true, false}
use Rattle.varints.specs.Varint.{at_end}
use Rattle.chunks.specs.Steps.{along_by}

-- ---- the cases of the code
module _ {R : Type 0} (w : Walker R) (s : List ℕ) (n : ℕ) where
  pub walk_none : n ≡ 0 → w.stop (refusal 32) ≡ walk_of w s n
  unfolding walk_from
  walk_none z = rw z

  module _ (h : 0 < n) where
    pub walk_no : (r : Refusal) → refused r ≡ first_of s → w.stop r ≡ walk_of w s n
    unfolding walk_from
    walk_no r e = rw (lt-ltb 0 n h, ← e)

    pub walk_from_law : (q : I32Point) (k : ℕ) → ok (q, k) ≡ first_of s → w.point q (along w s (n - 1) q k) ≡ walk_of w s n
    unfolding walk_from
    walk_from_law q k e = rw (lt-ltb 0 n h, ← e)

module _ {R : Type 0} (w : Walker R) (s : List ℕ) (q : I32Point) where
  pub along_by_law : (n k : ℕ) → along_by w s n q k (next_at s q k) ≡ along w s n q k
  unfolding along_by along
  along_by_law zero k = refl
  along_by_law (suc n) k = refl

  module _ (n k : ℕ) (a : Answer (I32Point × ℕ)) where
    pub by_left : n ≡ 0 → at_end s k ≡ false → w.stop (placed_at k (refusal 43)) ≡ along_by w s n q k a
    unfolding along_by
    by_left z h = rw (z, h)

    pub by_end : n ≡ 0 → at_end s k ≡ true → w.last q ≡ along_by w s n q k a
    unfolding along_by
    by_end z h = rw (z, h)

    module _ (h : 0 < n) where
      by_one : along_by w s n q k a ≡ follow w a (λ t. reach w q t.0 (along w s (n - 1) t.0 t.1))
      unfolding along_by
      by_one = let one : n ≡ suc (n - 1) = omega arith in ap (λ (j : ℕ). along_by w s j q k a) one

      pub by_no : (r : Refusal) → refused r ≡ a → w.stop r ≡ along_by w s n q k a
      by_no r e = rw (by_one, ← e)

      pub by_to : (t : I32Point) (m : ℕ) → ok (t, m) ≡ a → reach w q t (along w s (n - 1) t m) ≡ along_by w s n q k a
      by_to t m e = rw (by_one, ← e)
