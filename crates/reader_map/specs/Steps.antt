-- Nothing here need be believed: the code's own steps cite it, and no public promise does.
-- Assumes nothing.
use Rattle.std.specs.Prelude.{ℕ, zero, suc, ◌+◌, ◌-◌, ◌≤◌, ◌≡◌, Bool, true, false, cond, List, ◌∷◌, ◌++◌, map, reverse, length, get_or, ltb}
use Rattle.plane.specs.declared.I32Point.{I32Point}
use Rattle.plane.specs.Lines.{every, origin}
use Rattle.answer.specs.Answers.{Answer, ok, need}
use Rattle.shapes.specs.Shapes.{Ring, Polygon}
use Rattle.shapes.specs.Layout.{ring_at, polygon_at}
use Rattle.shapes.specs.Outline.{ring_positions, drawable, outline}
use Rattle.geojson.specs.Ascii.{ascii}
use Rattle.geojson.specs.Text.{position_text, ring_text, polygon_text}
use Rattle.answer.specs.Over.{over}
use Rattle.opened.specs.declared.Opened.{Opened}
use Rattle.directories.specs.Directories.{directories}

-- a JSON array by the places of its elements: what is still to be written of it, where n elements from place i on are left; before the first stands the mark m, before each other a comma
unfoldable pub to_come : (ℕ → List ℕ) → ℕ → ℕ → ℕ → List ℕ
to_come text m zero i = ascii "]"
to_come text m (suc n) i = m ∷ (text i ++ to_come text 44 n (i + 1))

-- ---- what a step that draws has done: it answers the place behind the text, or 48
pub record DrawnAs (fits : Bool) (text : List ℕ) (most : ℕ) (at : ℕ) (r : Answer ℕ) (before after : List ℕ) : Type 0 where
  pub told : r ≡ need 48 fits (ok (at + length text))
  pub laid : fits ≡ true → after ≡ over before at text
  pub short : fits ≡ true → length text ≤ most

-- ---- a ring: positions one way round or the other, the place of the i-th of k, and its text
unfoldable pub way : Bool → List I32Point → List I32Point
way back l = cond back (reverse l) l

abbrev pub spot_of : Bool → ℕ → ℕ → ℕ
spot_of back k i = cond back (k - 1 - i) i

unfoldable pub spot_text : List I32Point → ℕ → List ℕ
spot_text l i = position_text (get_or l i origin)

-- ---- a polygon: which can be drawn, its outlines, and ring i of the polygon whose first ring is `first`
abbrev pub ring_fits : Ring → Bool
ring_fits r = drawable (ring_positions r)

abbrev pub polygon_fits : Polygon → Bool
polygon_fits p = every ring_fits (p.outer ∷ p.holes)

abbrev pub sides : Polygon → List (List I32Point)
sides p = outline false p.outer ∷ map (outline true) p.holes

unfoldable pub side_text : Opened → List ℕ → ℕ → ℕ → List ℕ
side_text o s first i = ring_text (outline (ltb first i) (ring_at (directories o s) i))

-- ---- polygon i of the file
unfoldable pub part_text : Opened → List ℕ → ℕ → List ℕ
part_text o s i = polygon_text (sides (polygon_at (directories o s) i))
