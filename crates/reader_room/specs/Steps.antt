-- Nothing here need be believed: what a ring with room in it is, shapes/specs/Words says (`has_room`); that this walk answers it, where nothing that it reads is refused, is `room_is`, in proofs/Room.
-- A ring's segments are counted as its groups are read, and the third ends the walk.
-- Assumes nothing.
use Rattle.std.specs.Prelude.{ℕ, zero, suc, ◌+◌, ◌-◌, Bool, true, cond, List, leb}
use Rattle.plane.specs.declared.I32Point.{I32Point}
use Rattle.answer.specs.Answers.{Answer, ok, ◌then◌}
use Rattle.chunks.specs.Count.{with_side}
use Rattle.opened.specs.declared.Opened.{Opened}
use Rattle.reader_records.specs.declared.RingRecord.{RingRecord}
use Rattle.reader_records.specs.declared.GroupRecord.{GroupRecord}
use Rattle.reader_records.specs.Records.{group_index, turns_round, op_at, group_at}
use Rattle.reader_chunks.specs.Chunks.{first_at, count_at}
use Rattle.reader_room.specs.declared.Line.{Line}

-- n chunks from chunk i on, after the point a and with k segments counted
unfoldable pub chunks_count : Opened → List ℕ → ℕ → ℕ → I32Point → ℕ → Answer (ℕ × I32Point)
chunks_count o s zero i a k = ok (k, a)
chunks_count o s (suc n) i a k = count_at o s i a k then λ t. cond (leb 3 t.0) (ok t) (chunks_count o s n (i + 1) t.1 t.0)

-- a group from its first point to its last, as it is stored or turned round
unfoldable pub line_of : Bool → I32Point → ℕ × I32Point → Line
line_of turned a t = cond turned (record { sides = t.0; entry = t.1; exit = a }) (record { sides = t.0; entry = a; exit = t.1 })

-- its first point is read alone, and then the first of its chunk once more, so the segment between them is degenerate
unfoldable pub group_line : Opened → List ℕ → Bool → ℕ → GroupRecord → Answer Line
group_line o s turned k g = first_at o s g.first then λ a. chunks_count o s g.count g.first a k then λ t. ok (line_of turned a t)

-- of op i
unfoldable pub line_at : Opened → List ℕ → ℕ → ℕ → Answer Line
line_at o s i k = op_at o s i then λ w. group_at o s (group_index w) then λ g. group_line o s (turns_round w) k g

-- n ops from op i on, after the point a and with k segments counted, and then back to the start
unfoldable pub lines_room : Opened → List ℕ → I32Point → ℕ → ℕ → I32Point → ℕ → Answer Bool
lines_room o s start zero i a k = ok (leb 3 (with_side a start k))
lines_room o s start (suc n) i a k =
    line_at o s i k then λ t.
    cond (leb 3 (with_side a t.entry t.sides)) (ok true)
    (lines_room o s start n (i + 1) t.exit (with_side a t.entry t.sides))

-- a ring
unfoldable pub room_of : Opened → List ℕ → RingRecord → Answer Bool
room_of o s r =
    line_at o s r.first 0 then λ t.
    cond (leb 3 t.sides) (ok true)
    (lines_room o s t.entry (r.count - 1) (r.first + 1) t.exit t.sides)
