-- A ring's meaning once more, in the very words of document 01's "Exact geometry": the list of its segments, whether the point is on any, and how many count. And which rings have room in them, by the same list. `ring_in_words`, in proofs/Words, says that `ring_in` is the same.
-- Assumes nothing.
use Rattle.std.specs.Prelude.{ℕ, zero, suc, Bool, true, false, not, cond, List, [], ◌∷◌, ◌++◌, map, leb}
use Rattle.plane.specs.declared.I32Point.{I32Point}
use Rattle.plane.specs.Sight.{Sight, On, Off}
use Rattle.plane.specs.Lines.{some, first_of, last_of}
use Rattle.shapes.specs.Shapes.{Ring, leg_points}
use Rattle.plane.specs.Segment.{same_point}

-- from one end to the other
pub record Side : Type 0 where
  pub from : I32Point
  pub to : I32Point

-- ---- "A ring's segments"
-- "those between neighbouring points of each group"
abbrev pub sides_from : I32Point → List I32Point → List Side
sides_from a [] = []
sides_from a (b ∷ r) = record { from = a; to = b } ∷ sides_from b r

abbrev pub neighbours : List I32Point → List Side
neighbours [] = []
neighbours (a ∷ r) = sides_from a r

-- "and one from each exit to the next entry … wherever the two differ"
abbrev pub joining : I32Point → I32Point → List Side
joining exit entry = cond (same_point exit entry) [] (record { from = exit; to = entry } ∷ [])

-- the groups after the first, "round to the start"
abbrev pub round_to : I32Point → I32Point → List (List I32Point) → List Side
round_to start exit [] = joining exit start
round_to start exit (l ∷ ls) = joining exit (first_of l) ++ (neighbours l ++ round_to start (last_of l) ls)

abbrev pub sides_of : List (List I32Point) → List Side
sides_of [] = []
sides_of (l ∷ ls) = neighbours l ++ round_to (first_of l) (last_of l) ls

unfoldable pub ring_sides : Ring → List Side
ring_sides r = sides_of (map leg_points r.legs)

-- ---- "Not on any segment and an odd number counted: inside."
abbrev pub is_on : Sight → Bool
is_on On = true
is_on (Off b) = false

abbrev pub counts_in : Sight → ℕ → ℕ
counts_in On n = n
counts_in (Off true) n = suc n
counts_in (Off false) n = n

abbrev pub odd : ℕ → Bool
odd zero = false
odd (suc n) = not (odd n)

module _ (seg : I32Point → I32Point → Sight) where
  unfoldable pub on_any : List Side → Bool
  on_any l = some (λ e. is_on (seg e.from e.to)) l

  unfoldable pub counted : List Side → ℕ
  counted [] = 0
  counted (e ∷ l) = counts_in (seg e.from e.to) (counted l)

-- ---- document 02, request 2026-05: "at least three segments, counted as in the exact geometry, degenerate ones not counted"
-- degenerate: from a point to itself
abbrev pub degenerate : Side → Bool
degenerate e = same_point e.from e.to

-- how many are not
unfoldable pub proper : List Side → ℕ
proper [] = 0
proper (e ∷ l) = cond (degenerate e) (proper l) (suc (proper l))

-- a ring of fewer has no room in it
unfoldable pub has_room : Ring → Bool
has_room r = leb 3 (proper (ring_sides r))
