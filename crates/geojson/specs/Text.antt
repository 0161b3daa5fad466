-- RFC 7946, a geometry of the type MultiPolygon, with no spaces: a list of polygons, each a list of rings, each a list of positions.
-- Document 02: "Curators want a zone as GeoJSON (RFC 7946) in a lent buffer, no spaces, five decimals always."
-- Assumes nothing.
use Rattle.std.specs.Prelude.{ℕ, List, [], ◌∷◌, ◌++◌}
use Rattle.plane.specs.declared.I32Point.{I32Point}
use Rattle.geojson.specs.Ascii.{ascii}
use Rattle.geojson.specs.Decimals.{decimal}

-- a JSON array of what f writes
module _ {A : Type 0} (f : A → List ℕ) where
  -- behind an element: the others, each behind a comma, and the bracket
  unfoldable pub others : List A → List ℕ
  others [] = ascii "]"
  others (a ∷ more) = ascii "," ++ f a ++ others more

  unfoldable pub array : List A → List ℕ
  array [] = ascii "[]"
  array (a ∷ more) = ascii "[" ++ f a ++ others more

-- a position is a place in hundred-thousandths of a degree
unfoldable pub position_text : I32Point → List ℕ
position_text q = ascii "[" ++ decimal q.x ++ ascii "," ++ decimal q.y ++ ascii "]"

abbrev pub ring_text : List I32Point → List ℕ
ring_text = array position_text

abbrev pub polygon_text : List (List I32Point) → List ℕ
polygon_text = array ring_text

abbrev pub head_text : List ℕ
head_text = ascii "{\"type\":\"MultiPolygon\",\"coordinates\":"

abbrev pub tail_text : List ℕ
tail_text = ascii "}"

unfoldable pub map_text : List (List (List I32Point)) → List ℕ
map_text z = head_text ++ array polygon_text z ++ tail_text
