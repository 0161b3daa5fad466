-- Rings worked through, leg by leg: how many of their segments are not degenerate, and so which have room in them.
-- Assumes nothing.
use Rattle.std.specs.Prelude.{ℕ, Bool, List, [], ◌∷◌, T, eqb, pos}
use Rattle.plane.specs.declared.I32Point.{I32Point}
use Rattle.plane.specs.Lines.{every}
use Rattle.plane.specs.Segment.{same_point}
use Rattle.shapes.specs.Words.{sides_of, proper}
use Rattle.shapes.specs.Example.{at}

abbrev a : I32Point
a = at (pos 0) (pos 0)

abbrev b : I32Point
b = at (pos 4) (pos 0)

abbrev c : I32Point
c = at (pos 0) (pos 4)

pub record Row : Type 0 where
  pub legs : List (List I32Point)
  pub count : ℕ

abbrev row : List (List I32Point) → ℕ → Row
row ls n = record { legs = ls; count = n }

abbrev pub rows : List Row
rows =
    -- a point, once and twice; in two legs
    row ((a ∷ []) ∷ []) 0
    ∷ row ((a ∷ a ∷ []) ∷ []) 0
    ∷ row ((a ∷ []) ∷ (a ∷ a ∷ []) ∷ []) 0
    -- there and back: open, closed, with a point twice, in two legs that meet, in two that do not
    ∷ row ((a ∷ b ∷ []) ∷ []) 2
    ∷ row ((a ∷ b ∷ a ∷ []) ∷ []) 2
    ∷ row ((a ∷ a ∷ b ∷ []) ∷ []) 2
    ∷ row ((a ∷ b ∷ []) ∷ (b ∷ a ∷ []) ∷ []) 2
    ∷ row ((a ∷ []) ∷ (b ∷ []) ∷ []) 2
    -- a triangle: open, closed, in three legs
    ∷ row ((a ∷ b ∷ c ∷ []) ∷ []) 3
    ∷ row ((a ∷ b ∷ c ∷ a ∷ []) ∷ []) 3
    ∷ row ((a ∷ []) ∷ (b ∷ []) ∷ (c ∷ []) ∷ []) 3
    -- there and back twice
    ∷ row ((a ∷ b ∷ []) ∷ (a ∷ b ∷ []) ∷ []) 4
    ∷ []

pub counted_so : T (every (λ (r : Row). eqb (proper (sides_of r.legs)) r.count) rows)
unfolding proper same_point
counted_so = tt
