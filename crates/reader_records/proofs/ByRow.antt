-- Each record of a directory is what its row (opened/specs/Widths) says: its fields are the row's numbers, in their order.
-- Assumes nothing.
use Prim.Native.Nat.{ℕ, ◌+◌}
use native.Mathlib.Omega.{arith}
use mathlib.Core.Path.{◌≡◌, refl, ap, ◌∙◌}
use mathlib.Core.List.{List, [], ◌∷◌}
use lib.ListN.{get_or, drop}
use mir.Syntax.{w32}
use mir.Val.{to_z}
use lib.IntN.{ℤ}
use Rattle.plane.specs.declared.I32Point.{I32Point}
use Rattle.fields.specs.Le.{le}
use Rattle.fields.specs.Row.{row_in}
use Rattle.fields.proofs.Rows.{by_places}
use Rattle.boxes.specs.declared.BBox.{BBox}
use Rattle.opened.specs.Widths.{box_row, point_row, list_row, ring_row, group_row, chunk_row}
use Rattle.reader_records.specs.declared.ListRecord.{ListRecord}
use Rattle.reader_records.specs.declared.RingRecord.{RingRecord}
use Rattle.reader_records.specs.declared.GroupRecord.{GroupRecord}
use Rattle.reader_records.specs.declared.ChunkRecord.{ChunkRecord}
use Rattle.reader_records.specs.Records.{box_in, point_in, list_in, ring_in, group_in, chunk_in}
use Rattle.reader_records.proofs.Parts.{list_is, ring_is, group_is, chunk_is}

-- the k-th number of a row, and the same as a signed one
abbrev number : List ℕ → ℕ → ℕ
number ns k = get_or ns k 0

abbrev signed : List ℕ → ℕ → ℤ
signed ns k = to_z w32 (number ns k)

abbrev pub box_from : List ℕ → BBox
box_from ns = record { minx = signed ns 0; miny = signed ns 1; maxx = signed ns 2; maxy = signed ns 3 }

abbrev pub point_from : List ℕ → I32Point
point_from ns = record { x = signed ns 0; y = signed ns 1 }

-- the two unread bytes are a number that no field takes
abbrev pub list_from : List ℕ → ListRecord
list_from ns = record { first = number ns 0; count = number ns 1; bbox = box_from (drop 3 ns) }

abbrev pub ring_from : List ℕ → RingRecord
ring_from ns = record { first = number ns 0; points = number ns 1; count = number ns 2; bbox = box_from (drop 4 ns) }

abbrev pub group_from : List ℕ → GroupRecord
group_from ns = record { first = number ns 0; points = number ns 1; count = number ns 2; entry = point_from (drop 4 ns); exit = point_from (drop 6 ns); bbox = box_from (drop 8 ns) }

abbrev pub chunk_from : List ℕ → ChunkRecord
chunk_from ns = record { off = number ns 0; count = number ns 1; bbox = box_from (drop 3 ns) }

module _ (s : List ℕ) where
  box_row_law : (p q : ℕ) → p ≡ q → box_from (row_in box_row s p) ≡ box_in s q
  unfolding box_in
  box_row_law p q e = ap (λ (r : ℕ). box_from (row_in box_row s r)) e ∙ ap box_from (by_places 4 (4 ∷ 4 ∷ 4 ∷ []) s q)

  point_row_law : (p q : ℕ) → p ≡ q → point_from (row_in point_row s p) ≡ point_in s q
  unfolding point_in
  point_row_law p q e = ap (λ (r : ℕ). point_from (row_in point_row s r)) e ∙ ap point_from (by_places 4 (4 ∷ []) s q)

  -- a number at a place that was worked out otherwise
  there : (w p q : ℕ) → p ≡ q → le w s p ≡ le w s q
  there w p q e = ap (le w s) e

  module _ (p : ℕ) where
    pub list_row_law : list_from (row_in list_row s p) ≡ list_in s p
    unfolding row_in
    list_row_law = list_is s p _ _ _ refl refl (box_row_law _ (p + 8) (omega arith))

    pub ring_row_law : ring_from (row_in ring_row s p) ≡ ring_in s p
    unfolding row_in
    ring_row_law = ring_is s p _ _ _ _ refl refl (there 2 _ (p + 8) (omega arith)) (box_row_law _ (p + 12) (omega arith))

    pub group_row_law : group_from (row_in group_row s p) ≡ group_in s p
    unfolding row_in
    group_row_law =
        group_is s p _ _ _ _ _ _ refl refl (there 2 _ (p + 8) (omega arith)) (point_row_law _ (p + 12) (omega arith)) (point_row_law _ (p + 20) (omega arith))
        (box_row_law _ (p + 28) (omega arith))

    pub chunk_row_law : chunk_from (row_in chunk_row s p) ≡ chunk_in s p
    unfolding row_in
    chunk_row_law = chunk_is s p _ _ _ refl refl (box_row_law _ (p + 8) (omega arith))
