-- Places in a row: what stands at the first, and the rest. A group's points are those of its chunks in a row.
-- Assumes nothing.
use Prim.Native.Nat.{ℕ, suc, ◌+◌, ◌-◌, ◌<◌}
use native.Mathlib.Omega.{arith}
use mathlib.Core.Path.{◌≡◌, sym, ap}
use mathlib.Core.List.{List, ◌∷◌}
use Rattle.plane.specs.Runs.{run}
use Rattle.shapes.specs.Shapes.{points, group_points}
use Rattle.shapes.specs.Layout as Layout
use Rattle.opened.specs.declared.Opened.{Opened}
use Rattle.directories.specs.Directories.{chunk_shape, group_record, directories}

pub run_one : {A : Type 0} (f : ℕ → A) (n i : ℕ) → 0 < n → run f n i ≡ f i ∷ run f (n - 1) (i + 1)
unfolding run
run_one f n i h = let e : n ≡ suc (n - 1) = omega arith in go n (n - 1) e
  where
    go : (a b : ℕ) → a ≡ suc b → run f a i ≡ f i ∷ run f b (i + 1)
    go a b e = rw e

module _ (o : Opened) (s : List ℕ) (j : ℕ) (h : 0 < (group_record o s j).count) where
  pub group_row_law : group_points (Layout.group_at (directories o s) j) ≡ points (run (chunk_shape o s) (group_record o s j).count (group_record o s j).first)
  unfolding Layout.group_at directories
  group_row_law = sym (ap points (run_one (chunk_shape o s) (group_record o s j).count (group_record o s j).first h))
