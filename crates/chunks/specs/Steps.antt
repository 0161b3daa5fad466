-- Nothing here need be believed: the steps of the code that reads a chunk cite it, and no public promise does.
-- Assumes nothing.
use Rattle.std.specs.Prelude.{ℕ, zero, suc, ◌+◌, List, [], ◌∷◌, set, ℤ}
use Rattle.answer.specs.Answers.{Answer, ok, refused, ◌then◌, need, about}
use Rattle.varints.specs.Varint.{last, at_end}
use Rattle.plane.specs.declared.I32Point.{I32Point}
use Rattle.plane.specs.Domain.{in_domain}
use Rattle.chunks.specs.Points.{moved_by, next_at}
use Rattle.chunks.specs.Along.{Walker, follow, reach, along}
use Rattle.chunks.specs.Decode.{decoder}
use Rattle.answer.specs.Walks.{Walk}
use Rattle.plane.specs.declared.Point.{Point}
use Rattle.chunks.specs.Scan.{scanner}

-- the point that a delta d, whose numbers stand at i and j, leads to from q, in the domain
unfoldable pub arrive : I32Point → I32Point → ℕ → ℕ → Answer I32Point
arrive q d i j = moved_by q d i j then λ t. about j (need 42 (in_domain t) (ok t))

-- a point, and the place after it
abbrev pub placed : ℕ → I32Point → Answer (I32Point × ℕ)
placed n t = ok (t, n)

-- from q on, where the answer to what comes next is a
unfoldable pub along_by : {R : Type 0} → Walker R → List ℕ → ℕ → I32Point → ℕ → Answer (I32Point × ℕ) → R
along_by w s zero q k a = follow w (about k (need 43 (at_end s k) (ok q))) w.last
along_by w s (suc n) q k a = follow w a (λ t. reach w q t.0 (along w s n t.0 t.1))

-- the n points after q, whose bytes stand at k
unfoldable pub points_from : List ℕ → ℕ → I32Point → ℕ → Answer (List I32Point)
points_from s n q k = along decoder s n q k

-- the points after q, n at most, as far as they can be read
unfoldable pub read_from : List ℕ → ℕ → I32Point → ℕ → List I32Point
read_from s zero q k = []
read_from s (suc n) q k = read_on (next_at s q k) (λ t. read_from s n t.0 t.1)
  where
    read_on : Answer (I32Point × ℕ) → (I32Point × ℕ → List I32Point) → List I32Point
    read_on (ok t) f = t.0 ∷ f t
    read_on (refused r) f = []

-- points written from place i on
unfoldable pub put : List ℤ → ℕ → List I32Point → List ℤ
put out i [] = out
put out i (q ∷ l) = put (set (set out i q.x) (i + 1) q.y) (i + 2) l

-- from q on, over n points more
unfoldable pub onward : List ℕ → Point → ℕ → I32Point → ℕ → Walk I32Point
onward s p n q k = along (scanner p) s n q k
