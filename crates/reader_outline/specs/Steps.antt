-- Nothing here need be believed: the code's own steps cite it, and no public promise does.
-- Assumes nothing.
use Rattle.std.specs.Prelude.{ℕ, ◌≤◌, ◌≡◌, Bool, cond, List, [], ◌∷◌, ◌++◌, map, reverse, take, drop, ℤ}
use Rattle.plane.specs.declared.I32Point.{I32Point}
use Rattle.plane.specs.Lines.{last_from}
use Rattle.plane.specs.Runs.{run}
use Rattle.shapes.specs.Shapes.{points, leg_points}
use Rattle.shapes.specs.Layout.{leg_at}
use Rattle.shapes.specs.Outline.{after}
use Rattle.opened.specs.declared.Opened.{Opened}
use Rattle.reader_records.specs.declared.GroupRecord.{GroupRecord}
use Rattle.directories.specs.Directories.{chunk_shape, directories}
use Rattle.reader_outline.specs.Held.{points_in}

-- the points of n chunks from chunk i on
unfoldable pub row_points : Opened → List ℕ → ℕ → ℕ → List I32Point
row_points o s n i = points (run (chunk_shape o s) n i)

-- those of a group, as they are stored or turned round
unfoldable pub side_points : Opened → List ℕ → GroupRecord → Bool → List I32Point
side_points o s g turned = cond turned (reverse (row_points o s g.count g.first)) (row_points o s g.count g.first)

-- the legs of n ops from op i on
unfoldable pub legs_row : Opened → List ℕ → ℕ → ℕ → List (List I32Point)
legs_row o s n i = map leg_points (run (leg_at (directories o s)) n i)

-- where a group is entered
unfoldable pub entry_of : GroupRecord → Bool → I32Point
entry_of g turned = cond turned g.exit g.entry

-- the positions so far, and a leg more
unfoldable pub joined_on : List I32Point → List I32Point → List I32Point
joined_on [] l = l
joined_on (a ∷ r) l = (a ∷ r) ++ after (last_from a r) l

-- and legs more
unfoldable pub legs_on : List I32Point → List (List I32Point) → List I32Point
legs_on p [] = p
legs_on p (l ∷ ls) = legs_on (joined_on p l) ls

-- a leg that is entered at e, written from place j on, goes on from the first k positions
pub record Starts (m : List ℤ) (k : ℕ) (e : I32Point) (j : ℕ) : Type 0 where
  pub within : j ≤ k
  pub goes_on : (t : List I32Point) → points_in m j ++ (e ∷ t) ≡ joined_on (points_in m k) (e ∷ t)

-- points of which those from one place to another are turned round
unfoldable pub turned_in : List I32Point → ℕ → ℕ → List I32Point
turned_in l from to = take from l ++ (reverse (drop from (take to l)) ++ drop to l)
