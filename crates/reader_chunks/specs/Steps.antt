-- Nothing here need be believed: the code's own steps cite it, and no public promise does.
-- Assumes nothing.
use Rattle.std.specs.Prelude.{ℕ, ◌*◌, List, ltb, leb}
use Rattle.std.specs.Borrow.{Bor}
use Rattle.plane.specs.declared.I32Point.{I32Point}
use Rattle.answer.specs.Answers.{Answer, ok, ◌then◌, need, behind, Check, fine}
use Rattle.chunks.specs.Decode.{points_of}
use Rattle.reader_chunks.specs.Chunks.{span}

-- the bytes behind a lent slice
abbrev pub lent : Answer (Bor (List ℕ)) → Answer (List ℕ)
lent x = x then λ b. ok b.now

-- 32 and 46 of a chunk of n points and of room for so many numbers, before its bytes are sought
unfoldable pub room_for : ℕ → ℕ → Check
room_for n room = need 32 (ltb 0 n) (need 46 (leb (2 * n) room) fine)

-- all n points in the bytes from a to e
unfoldable pub points_in : List ℕ → ℕ → ℕ → ℕ → Answer (List I32Point)
points_in s n a e = span s a e then λ b. behind a (points_of b n)
