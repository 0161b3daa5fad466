-- `units::split_in` meets its contract: a map of 65,536 bytes has a bit for each of 524,288 units. Its length is told by a law: to count it costs a second.
-- Assumes nothing.
use mathlib.Core.Path.{◌≡◌, subst}
use mathlib.Core.List.{List}
use Prim.Native.Nat.{ℕ, ◌+◌, ◌*◌, ◌<◌}
use native.Mathlib.Omega.{arith}
use lib.ListN.{length-replicate}
use Rattle.reader_table.specs.Steps.{Split}
use Rattle.reader_table.proofs.units.split_in.Goals as goal

map-small : (n : ℕ) → n ≡ 0x1_0000 → 8 * n < 0x1_0000_0000
map-small n e = omega arith

map_whole : (s : List ℕ) (r base n : ℕ) → n ≡ 0x1_0000 → Split s r base (base + 8 * n) → Split s r base (base + 0x8_0000)
map_whole s r base n e h =
    let g : base + 8 * n ≡ base + 0x8_0000 = omega arith in
    subst (Split s r base) g h

pub slice_bounds-split_with-end : goal.slice_bounds-split_with-end
slice_bounds-split_with-end c = length-replicate {A = ℕ} 0x1_0000 0

pub split_with-requires : goal.split_with-requires
split_with-requires c =
    (c.requires.0, c.requires.1, map-small _ (length-replicate {A = ℕ} 0x1_0000 0))

pub returns : goal.returns
returns c =
    let e = c.split_with.ensures in
    (e.0, map_whole _ _ _ _ (length-replicate {A = ℕ} 0x1_0000 0) e.1)
