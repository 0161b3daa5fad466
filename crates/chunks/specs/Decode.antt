-- Document 01, "Chunk bytes": a chunk decodes into lent i32s, two a point: 32 for a count of 0, 46 for room, then the rest; what lies behind is unchanged. On a refusal all lent memory stays unchanged.
-- Assumes nothing.
use Rattle.std.specs.Prelude.{ℕ, ◌*◌, List, [], ◌∷◌, length, ltb, leb, ℤ}
use Rattle.answer.specs.Answers.{left, Answer, ok, refused, ◌then◌, need, Check, outcome}
use Rattle.plane.specs.declared.I32Point.{I32Point}
use Rattle.chunks.specs.Along.{Walker, walk_of}

-- q, and behind it the points of an answer
abbrev pub led : I32Point → Answer (List I32Point) → Answer (List I32Point)
led q x = x then λ l. ok (q ∷ l)

-- who decodes: every point is taken
abbrev pub decoder : Walker (Answer (List I32Point))
decoder = record { stop = refused; last = λ q. ok []; point = led; segment = λ q t x. x }

-- all points of a chunk of n points
unfoldable pub points_of : List ℕ → ℕ → Answer (List I32Point)
points_of s n = walk_of decoder s n

-- the same into lent memory, which must have room for two numbers a point
unfoldable pub into_room : List ℕ → ℕ → List ℤ → Answer (List I32Point)
into_room s n out = need 32 (ltb 0 n) (need 46 (leb (2 * n) (length out)) (points_of s n))

-- the numbers of points: x, y, x, y, ..
abbrev pub flat : List I32Point → List ℤ
flat [] = []
flat (q ∷ l) = q.x ∷ q.y ∷ flat l

-- lent memory after an answer: the numbers of the points, then the rest as it was; after a refusal all as it was
abbrev pub filled : List ℤ → Answer (List I32Point) → List ℤ
filled out x = left out (x then λ l. ok (flat l))

abbrev pub decode_of : List ℕ → ℕ → List ℤ → Check
decode_of s n out = outcome (into_room s n out)

abbrev pub decoded : List ℕ → ℕ → List ℤ → List ℤ
decoded s n out = filled out (into_room s n out)
