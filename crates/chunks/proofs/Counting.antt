-- A chunk whose points are known: its segments are counted over those points.
-- Assumes nothing.
use Prim.Native.Nat.{ℕ, ◌-◌}
use mathlib.Core.Path.{◌≡◌, refl, ap}
use mathlib.Core.Bool.{Bool, true, false, cond}
use lib.Dec.{leb}
use mathlib.Core.List.{List, [], ◌∷◌}
use Rattle.answer.specs.Answers.{Answer, ok, behind}
use Rattle.plane.specs.declared.I32Point.{I32Point}
use Rattle.chunks.specs.Along.{reach, over_from}
use Rattle.chunks.specs.Decode.{points_of}
use Rattle.chunks.specs.Count.{with_side, counter, count_of}
use Rattle.chunks.proofs.Neighbours.{whole_of, along_list}

-- over points that are known nothing is refused, so that no place is told
pub counted_behind : (p : ℕ) (a : I32Point) (l : List I32Point) (k : ℕ) → over_from counter a l k ≡ behind p (over_from counter a l k)
unfolding over_from
counted_behind p a [] k = refl
counted_behind p a (t ∷ l) k = enough (leb 3 (with_side a t k)) (counted_behind p t l (with_side a t k))
  where
    enough : (b : Bool) {y : Answer (ℕ × I32Point)} → y ≡ behind p y → cond b (ok (with_side a t k, t)) y ≡ behind p (cond b (ok (with_side a t k, t)) y)
    enough true e = refl
    enough false e = e

module _ (s : List ℕ) (n : ℕ) (q : I32Point) (l : List I32Point) (e : ok (q ∷ l) ≡ points_of s n) where
  -- after the point a, with k segments counted
  pub counted_list : (a : I32Point) (k : ℕ) → count_of s n a k ≡ over_from counter a (q ∷ l) k
  unfolding count_of over_from
  counted_list a k =
      let w = whole_of s n q l e in
      rw (w.some, ← w.first) (ap (λ (f : ℕ → Answer (ℕ × I32Point)). reach counter a q f k) (along_list counter s (n - 1) q w.at l w.from))
