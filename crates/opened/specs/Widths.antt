-- The records of the directories, as rows of fields: in the order of the structs, with two unread bytes after each u16. How many bytes each takes stands here and nowhere else.
-- Assumes nothing.
use Rattle.std.specs.Prelude.{ℕ, List, [], ◌∷◌, ◌++◌}

-- a box: least x and y, greatest x and y; a point: x and y
abbrev pub box_row : List ℕ
box_row = 4 ∷ 4 ∷ 4 ∷ 4 ∷ []

abbrev pub point_row : List ℕ
point_row = 4 ∷ 4 ∷ []

-- a zone and a polygon: first, count, box
abbrev pub list_row : List ℕ
list_row = 4 ∷ 2 ∷ 2 ∷ box_row

abbrev pub list_wide : ℕ
list_wide = 24

-- a ring: first, points, count, box
abbrev pub ring_row : List ℕ
ring_row = 4 ∷ 4 ∷ 2 ∷ 2 ∷ box_row

abbrev pub ring_wide : ℕ
ring_wide = 28

-- an op: one word
abbrev pub op_row : List ℕ
op_row = 4 ∷ []

abbrev pub op_wide : ℕ
op_wide = 4

-- a group: first, points, count, entry, exit, box
abbrev pub group_row : List ℕ
group_row = 4 ∷ 4 ∷ 2 ∷ 2 ∷ point_row ++ point_row ++ box_row

abbrev pub group_wide : ℕ
group_wide = 44

-- a chunk: offset, count, box
abbrev pub chunk_row : List ℕ
chunk_row = 4 ∷ 2 ∷ 2 ∷ box_row

abbrev pub chunk_wide : ℕ
chunk_wide = 24

-- the first bytes of GRID, which have no unread ones: longitude, latitude, columns, rows, total
abbrev pub grid_row : List ℕ
grid_row = 2 ∷ 2 ∷ 2 ∷ 2 ∷ 4 ∷ []

abbrev pub grid_wide : ℕ
grid_wide = 12
