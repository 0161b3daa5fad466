-- Points that lie in lent numbers, two a point: x, y, x, y, ..
-- Assumes nothing.
use Rattle.std.specs.Prelude.{ℕ, List, [], ◌∷◌, take, ℤ}
use Rattle.plane.specs.declared.I32Point.{I32Point}

-- all of them
unfoldable pub spots : List ℤ → List I32Point
spots [] = []
spots (x ∷ []) = []
spots (x ∷ y ∷ m) = record { x = x; y = y } ∷ spots m

-- the first k
unfoldable pub points_in : List ℤ → ℕ → List I32Point
points_in m k = take k (spots m)
