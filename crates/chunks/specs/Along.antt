-- Document 01, "Chunk bytes": the one walk along a chunk's points, whatever is done on the way. A count of 0 is 32; then the first point, and the others one by one; bytes left over are 43, tested last.
-- Scanning (specs/Scan), decoding (Decode), and the trace and the count by which the full check goes (Trace, Count) are this walk, each with a walker of its own.
-- Assumes nothing.
use Rattle.std.specs.Prelude.{ℕ, zero, suc, ◌-◌, List, [], ◌∷◌, ltb}
use Rattle.answer.specs.declared.Refusal.{Refusal}
use Rattle.answer.specs.Answers.{Answer, ok, refused, need, about}
use Rattle.plane.specs.declared.I32Point.{I32Point}
use Rattle.varints.specs.Varint.{at_end}
use Rattle.chunks.specs.Points.{first_from, next_at}

-- who walks: what a refusal comes to, and what the end at the last point; and what a point, and the segment from one point to the next, make of what comes after them
pub record Walker (R : Type 0) : Type 0 where
  pub stop : Refusal → R
  pub last : I32Point → R
  pub point : I32Point → R → R
  pub segment : I32Point → I32Point → R → R

-- an answer, and the way on from it; a refusal ends the walk
abbrev pub follow : {A R : Type 0} → Walker R → Answer A → (A → R) → R
follow w (ok a) f = f a
follow w (refused r) f = w.stop r

-- past the segment from q to t, and past t
abbrev pub reach : {R : Type 0} → Walker R → I32Point → I32Point → R → R
reach w q t x = w.segment q t (w.point t x)

-- from q on, over n points more, whose bytes stand at k. Document 02, request 2026-06: "for 43 of the first byte left over"
unfoldable pub along : {R : Type 0} → Walker R → List ℕ → ℕ → I32Point → ℕ → R
along w s zero q k = follow w (about k (need 43 (at_end s k) (ok q))) w.last
along w s (suc n) q k = follow w (next_at s q k) (λ t. reach w q t.0 (along w s n t.0 t.1))

-- a chunk of n points, whose bytes stand at p
unfoldable pub walk_from : {R : Type 0} → Walker R → List ℕ → ℕ → ℕ → R
walk_from w s p n = follow w (need 32 (ltb 0 n) (first_from s p)) (λ t. w.point t.0 (along w s (n - 1) t.0 t.1))

-- a chunk of n points, whose own bytes are s
abbrev pub walk_of : {R : Type 0} → Walker R → List ℕ → ℕ → R
walk_of w s n = walk_from w s 0 n

-- the same over points that are known
unfoldable pub over_from : {R : Type 0} → Walker R → I32Point → List I32Point → R
over_from w q [] = w.last q
over_from w q (t ∷ l) = reach w q t (over_from w t l)
