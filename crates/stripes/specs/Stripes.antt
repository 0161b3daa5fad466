-- Document 02, 2026-02: a group's stripes, over heights and boxes alone. Which heights stand in a file is said elsewhere.
-- "Build the Rust's stripes into lent numbers: count / 4 stripes per group, held to 1..256, none for a group of one chunk, chunk numbers rising within a stripe."
-- Assumes nothing.
use Rattle.std.specs.Prelude.{ℕ, zero, suc, ◌+◌, ◌-◌, ◌*◌, ◌/◌, min, max, Bool, ◌&&◌, cond, List, [], ◌∷◌, leb, ltb, length, ℤ, pos, negsuc, ◌-ℤ◌}
use Rattle.std.specs.Int.Signed.{le_z}
use Rattle.boxes.specs.declared.BBox.{BBox}
use Rattle.stripes.specs.declared.Striping.{Striping}

-- "count / 4 stripes per group, held to 1..256, none for a group of one chunk"
unfoldable pub stripe_count : ℕ → ℕ
stripe_count chunks = cond (ltb chunks 2) 0 (max 1 (min (chunks / 4) 256))

-- how far y lies above the least, held to at least 0
abbrev pub or_zero : ℤ → ℕ
or_zero (pos n) = n
or_zero (negsuc n) = 0

abbrev pub above : ℤ → ℤ → ℕ
above least y = or_zero (y -ℤ least)

-- a group as its stripes are made of it: its box, and the boxes of its chunks in their order
pub record Boxed : Type 0 where
  pub bbox : BBox
  pub chunks : List BBox

-- how a group of that box and that many chunks is cut: its least y, its height (at least 1), the number of its stripes
unfoldable pub striping_of : BBox → ℕ → Striping
striping_of b chunks = record { least = b.miny; height = max 1 (above b.miny b.maxy); k = stripe_count chunks }

-- the stripe of a whole-number height y: (y - least, held to at least 0) · k / height, at most k - 1
unfoldable pub stripe_of : Striping → ℤ → ℕ
stripe_of t y = min (above t.least y * t.k / t.height) (t.k - 1)

-- a chunk stands in every stripe from that of its box's least y to that of its greatest
unfoldable pub stands_in : Striping → ℕ → BBox → Bool
stands_in t stripe b = leb (stripe_of t b.miny) stripe && leb stripe (stripe_of t b.maxy)

-- "chunk numbers rising within a stripe": those of the chunks with these boxes that stand in it; the first has number i
unfoldable pub chunks_in : Striping → ℕ → ℕ → List BBox → List ℕ
chunks_in t stripe i [] = []
chunks_in t stripe i (b ∷ l) = cond (stands_in t stripe b) (i ∷ chunks_in t stripe (i + 1) l) (chunks_in t stripe (i + 1) l)

-- n stripes from that one on
unfoldable pub stripes_from : Striping → List BBox → ℕ → ℕ → List (List ℕ)
stripes_from t l zero stripe = []
stripes_from t l (suc n) stripe = chunks_in t stripe 0 l ∷ stripes_from t l n (stripe + 1)

abbrev pub striping_in : Boxed → Striping
striping_in g = striping_of g.bbox (length g.chunks)

unfoldable pub group_stripes : Boxed → List (List ℕ)
group_stripes g = stripes_from (striping_in g) g.chunks (striping_in g).k 0

-- "Where, in a group of two chunks or more, a chunk's box leaves the group's in y": it does not where it lies in it
unfoldable pub within_height : BBox → BBox → Bool
within_height group chunk = le_z group.miny chunk.miny && le_z chunk.maxy group.maxy
