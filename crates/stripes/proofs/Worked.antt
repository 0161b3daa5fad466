-- A worked example: the numbers of two groups, as the Rust's building gives them.
-- The first group lies from y -7 to 10 and has 9 chunks: 9 / 4 = 2 stripes, height 17. The stripe of y is (y + 7) · 2 / 17, at most 1: 0 up to y = 1, and 1 from y = 2 on.
-- Its chunks lie, in y: 0 from -7 to -7, 1 from -7 to 1, 2 from 1 to 2, 3 from 2 to 2, 4 from 2 to 10, 5 from -1 to 0, 6 from -3 to 4, 7 from -7 to 10, 8 from 0 to 1. So 0, 1, 2, 5, 6, 7, 8 stand in stripe 0, and 2, 3, 4, 6, 7 in stripe 1.
-- The second group has one chunk, so no stripes.
-- Two groups' entries take 10 numbers, and two stripes' 6: stripe 0's chunk numbers start at place 16, stripe 1's at 23. -7 in two's complement is 4,294,967,289.
-- Assumes nothing.
use mathlib.Core.Path.{◌≡◌, refl}
use mathlib.Core.List.{List, [], ◌∷◌}
use lib.IntN.{ℤ, pos, negsuc}
use Rattle.boxes.specs.declared.BBox.{BBox}
use Rattle.stripes.specs.Stripes.{Boxed, stripe_count, striping_of, stripe_of, stands_in, chunks_in, stripes_from, group_stripes}
use Rattle.stripes.specs.Numbers.{group_entry, group_entries, stripe_entries, all_stripes, together, numbers, depth, depths, group_need, need_of}

-- a box from one y to another
abbrev pub tall : ℤ → ℤ → BBox
tall low top = record { minx = pos 0; miny = low; maxx = pos 5; maxy = top }

abbrev pub groups : List Boxed
groups =
    record {
      bbox = tall (negsuc 6) (pos 10);
      chunks =
          tall (negsuc 6) (negsuc 6) ∷
          tall (negsuc 6) (pos 1) ∷
          tall (pos 1) (pos 2) ∷
          tall (pos 2) (pos 2) ∷
          tall (pos 2) (pos 10) ∷
          tall (negsuc 0) (pos 0) ∷
          tall (negsuc 2) (pos 4) ∷
          tall (negsuc 6) (pos 10) ∷
          tall (pos 0) (pos 1) ∷
          [];
    } ∷
    record { bbox = tall (negsuc 2) (pos 4); chunks = tall (negsuc 2) (pos 4) ∷ [] } ∷
    []

pub numbers_worked :
    numbers groups ≡
    4294967289 ∷ 17 ∷ 2 ∷ 10 ∷ 0 ∷
    0 ∷ 0 ∷ 0 ∷ 0 ∷ 0 ∷
    16 ∷ 0 ∷ 7 ∷
    23 ∷ 0 ∷ 5 ∷
    0 ∷ 1 ∷ 2 ∷ 5 ∷ 6 ∷ 7 ∷ 8 ∷
    2 ∷ 3 ∷ 4 ∷ 6 ∷ 7 ∷ []
unfolding numbers group_entries group_entry stripe_entries all_stripes together group_stripes stripes_from chunks_in stands_in stripe_of striping_of stripe_count
numbers_worked = refl

pub need_worked : need_of groups ≡ 28
unfolding need_of group_need depths depth stripe_of striping_of stripe_count
need_worked = refl
