-- Document 01, "Chunk bytes": the first point whole, then deltas. The bytes s are one chunk's own; a place counts from its first byte.
-- Assumes nothing.
use Rattle.std.specs.Prelude.{ℕ, List}
use Rattle.answer.specs.Answers.{Answer, ok, ◌then◌, need, about}
use Rattle.plane.specs.declared.I32Point.{I32Point}
use Rattle.plane.specs.Domain.{in_domain}
use Rattle.varints.specs.Varint.{number_at}
use Rattle.chunks.specs.Delta.{add_delta}
use Rattle.plane.specs.Places.{point}

-- two numbers, x and y, y's place, and the place after them: both are read before anything else is asked
unfoldable pub numbers_at : List ℕ → ℕ → Answer (I32Point × ℕ × ℕ)
numbers_at s p =
    number_at s p then λ x.
    number_at s x.1 then λ y.
    ok (point x.0 y.0, x.1, y.1)

-- a delta d, whose numbers stand at i and j, added to the point q: x before y. Document 02, request 2026-06: "41 names the number whose sum left i32"
unfoldable pub moved_by : I32Point → I32Point → ℕ → ℕ → Answer I32Point
moved_by q d i j =
    about i (add_delta q.x d.x) then λ x.
    about j (add_delta q.y d.y) then λ y.
    ok (point x y)

-- a point outside the domain is 42; its y number stands at j. Request 2026-06: "42 [names] the y number"
unfoldable pub must_lie : I32Point → ℕ → ℕ → Answer (I32Point × ℕ)
must_lie q j p = about j (need 42 (in_domain q) (ok (q, p)))

-- the first point, whose bytes stand at p, and the place after it
unfoldable pub first_from : List ℕ → ℕ → Answer (I32Point × ℕ)
first_from s p = numbers_at s p then λ t. must_lie t.0 t.1 t.2

abbrev pub first_of : List ℕ → Answer (I32Point × ℕ)
first_of s = first_from s 0

-- the point after q, whose bytes stand at p, and the place after it
unfoldable pub next_at : List ℕ → I32Point → ℕ → Answer (I32Point × ℕ)
next_at s q p =
    numbers_at s p then λ d.
    moved_by q d.0 p d.1 then λ t.
    must_lie t d.1 d.2
