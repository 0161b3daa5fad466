-- Document 02, 2026-02: the stripes of an opened file. For any opened record and any bytes.
-- "State the numbers needed beforehand; 46 is given exactly when the lent room is below that. [..] Refusals: 49 for such a box, before 46"
-- Group by group and chunk by chunk the first of 34, 44, 49 stands, also for the need; 46 comes after all.
-- Assumes nothing.
use Rattle.std.specs.Prelude.{ℕ, zero, suc, ◌+◌, ◌||◌, List, [], ◌∷◌, leb, ltb}
use Rattle.answer.specs.Answers.{Answer, ok, ◌then◌, need}
use Rattle.boxes.specs.declared.BBox.{BBox}
use Rattle.opened.specs.declared.Opened.{Opened}
use Rattle.reader_records.specs.declared.GroupRecord.{GroupRecord}
use Rattle.reader_records.specs.Records.{chunk_at, group_at}
use Rattle.stripes.specs.Stripes.{Boxed, within_height}
use Rattle.stripes.specs.Numbers.{numbers, need_of}

-- the boxes of n chunks of a group, from its chunk c on. "Where, in a group of two chunks or more, a chunk's box leaves the group's in y [..] we refuse" (49)
unfoldable pub boxes_from : Opened → List ℕ → GroupRecord → ℕ → ℕ → Answer (List BBox)
boxes_from o s g zero c = ok []
boxes_from o s g (suc n) c =
    chunk_at o s (g.first + c) then λ v.
    need 49 (ltb g.count 2 || within_height g.bbox v.bbox)
    (boxes_from o s g n (c + 1) then λ l. ok (v.bbox ∷ l))

-- group i
unfoldable pub boxed_at : Opened → List ℕ → ℕ → Answer Boxed
boxed_at o s i = group_at o s i then λ g. boxes_from o s g g.count 0 then λ l. ok (record { bbox = g.bbox; chunks = l })

-- n groups from group i on
unfoldable pub boxed_from : Opened → List ℕ → ℕ → ℕ → Answer (List Boxed)
boxed_from o s zero i = ok []
boxed_from o s (suc n) i = boxed_at o s i then λ g. boxed_from o s n (i + 1) then λ l. ok (g ∷ l)

unfoldable pub boxed_groups : Opened → List ℕ → Answer (List Boxed)
boxed_groups o s = boxed_from o s o.groups.count 0

-- the numbers needed
unfoldable pub stripes_need : Opened → List ℕ → Answer ℕ
stripes_need o s = boxed_groups o s then λ l. ok (need_of l)

-- the numbers themselves, into that much room
unfoldable pub stripes_of : Opened → List ℕ → ℕ → Answer (List ℕ)
stripes_of o s room = boxed_groups o s then λ l. need 46 (leb (need_of l) room) (ok (numbers l))
