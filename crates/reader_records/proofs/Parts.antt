-- A record from its fields, as they are read one by one; how far a record can stand from the start of its directory.
-- Assumes nothing.
use Prim.Native.Nat.{ℕ, ◌+◌, ◌*◌, ◌≤◌, ◌<◌}
use native.Mathlib.Omega.{arith}
use native.Mathlib.Nat.{mul-le-mul}
use mathlib.Core.Path.{◌≡◌}
use mathlib.Core.List.{List}
use Rattle.plane.specs.declared.I32Point.{I32Point}
use Rattle.fields.specs.Le.{le}
use Rattle.boxes.specs.declared.BBox.{BBox}
use Rattle.reader_records.specs.Records.{box_in, point_in, list_in, ring_in, group_in, chunk_in}

module _ (s : List ℕ) (p : ℕ) where
  pub list_is : (a b : ℕ) (x : BBox) → a ≡ le 4 s p → b ≡ le 2 s (p + 4) → x ≡ box_in s (p + 8) → record { first = a; count = b; bbox = x } ≡ list_in s p
  unfolding list_in
  list_is a b x e f g = rw (e, f, g)

  pub ring_is : (a b c : ℕ) (x : BBox) → a ≡ le 4 s p → b ≡ le 4 s (p + 4) → c ≡ le 2 s (p + 8) → x ≡ box_in s (p + 12)
      → record { first = a; points = b; count = c; bbox = x } ≡ ring_in s p
  unfolding ring_in
  ring_is a b c x e f g h = rw (e, f, g, h)

  pub group_is : (a b c : ℕ) (u v : I32Point) (x : BBox) → a ≡ le 4 s p → b ≡ le 4 s (p + 4) → c ≡ le 2 s (p + 8)
      → u ≡ point_in s (p + 12) → v ≡ point_in s (p + 20) → x ≡ box_in s (p + 28)
      → record { first = a; points = b; count = c; entry = u; exit = v; bbox = x } ≡ group_in s p
  unfolding group_in
  group_is a b c u v x e f g h i j = rw (e, f, g, h, i, j)

  pub chunk_is : (a b : ℕ) (x : BBox) → a ≡ le 4 s p → b ≡ le 2 s (p + 4) → x ≡ box_in s (p + 8) → record { off = a; count = b; bbox = x } ≡ chunk_in s p
  unfolding chunk_in
  chunk_is a b x e f g = rw (e, f, g)

-- no product of an index and a width wraps
pub scale : (i w : ℕ) → i < 0x1_0000_0000 → w ≤ 64 → i * w ≤ 0x40_0000_0000
scale i w h k =
    let j : i ≤ 0x1_0000_0000 = omega arith in
    mul-le-mul j k
