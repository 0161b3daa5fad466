-- Document 02, request 2026-05, of one chunk's points: its segments are counted, "degenerate ones not counted", until there are three.
-- Assumes nothing.
use Rattle.std.specs.Prelude.{ℕ, suc, ◌-◌, cond, List, ltb, leb}
use Rattle.answer.specs.Answers.{Answer, ok, refused, ◌then◌, need}
use Rattle.plane.specs.declared.I32Point.{I32Point}
use Rattle.plane.specs.Segment.{same_point}
use Rattle.chunks.specs.Points.{first_of}
use Rattle.chunks.specs.Along.{Walker, reach, along}

-- the segment from a to b counted, where its ends differ: n so far, and three are enough
unfoldable pub with_side : I32Point → I32Point → ℕ → ℕ
with_side a b n = cond (same_point a b) n (cond (ltb n 3) (suc n) n)

-- who counts: the third segment ends the walk
abbrev pub counter : Walker (ℕ → Answer (ℕ × I32Point))
counter = record {
  stop = λ r n. refused r;
  last = λ q n. ok (n, q);
  point = λ q f. f;
  segment = λ q t f n. cond (leb 3 (with_side q t n)) (ok (with_side q t n, t)) (f (with_side q t n));
}

-- a chunk of n points, after the point a and with k segments counted: how many there are then, and the last point read
unfoldable pub count_of : List ℕ → ℕ → I32Point → ℕ → Answer (ℕ × I32Point)
count_of s n a k = need 32 (ltb 0 n) (first_of s) then λ t. reach counter a t.0 (along counter s (n - 1) t.0 t.1) k
