-- Document 02, 2026-02: all stripes of a file as numbers of 32 bits: the groups' entries, then the stripes', then the chunk numbers. A place in the numbers takes two of them, low half first.
-- Assumes nothing.
use Rattle.std.specs.Prelude.{ℕ, ◌+◌, ◌*◌, ◌-◌, ◌/◌, ◌%◌, cond, List, [], ◌∷◌, ◌++◌, ltb, length}
use Rattle.std.specs.Int.{w32}
use Rattle.std.proofs.Common.{of_z}
use Rattle.boxes.specs.declared.BBox.{BBox}
use Rattle.stripes.specs.declared.Striping.{Striping}
use Rattle.stripes.specs.Stripes.{Boxed, stripe_of, striping_in, group_stripes}

abbrev pub low : ℕ → ℕ
low place = place % 0x1_0000_0000

abbrev pub high : ℕ → ℕ
high place = place / 0x1_0000_0000

-- how many numbers an entry takes: least y, height, k, a place; a place, how many
abbrev pub group_numbers : ℕ
group_numbers = 5

abbrev pub stripe_numbers : ℕ
stripe_numbers = 3

-- a group's entry, whose stripes' entries start at that place; of a group without stripes all is 0. A negative y is kept as two's complement.
unfoldable pub group_entry : Striping → ℕ → List ℕ
group_entry t place =
    cond (ltb 0 t.k)
    (of_z w32 t.least ∷ t.height ∷ t.k ∷ low place ∷ high place ∷ [])
    (0 ∷ 0 ∷ 0 ∷ 0 ∷ 0 ∷ [])

unfoldable pub group_entries : List Boxed → ℕ → List ℕ
group_entries [] place = []
group_entries (g ∷ l) place = group_entry (striping_in g) place ++ group_entries l (place + stripe_numbers * (striping_in g).k)

-- the stripes' entries; the first one's chunk numbers start at that place
unfoldable pub stripe_entries : List (List ℕ) → ℕ → List ℕ
stripe_entries [] place = []
stripe_entries (t ∷ l) place = low place ∷ high place ∷ length t ∷ stripe_entries l (place + length t)

-- the stripes of all groups, and their chunk numbers
unfoldable pub all_stripes : List Boxed → List (List ℕ)
all_stripes [] = []
all_stripes (g ∷ l) = group_stripes g ++ all_stripes l

unfoldable pub together : List (List ℕ) → List ℕ
together [] = []
together (t ∷ l) = t ++ together l

unfoldable pub numbers : List Boxed → List ℕ
numbers l =
    group_entries l (group_numbers * length l) ++
    stripe_entries (all_stripes l) (group_numbers * length l + stripe_numbers * length (all_stripes l)) ++
    together (all_stripes l)

-- ---- the numbers needed, stated beforehand: 5 × groups + 3 × stripes + chunk numbers
-- in how many stripes a chunk stands
unfoldable pub depth : Striping → BBox → ℕ
depth t b = stripe_of t b.maxy + 1 - stripe_of t b.miny

unfoldable pub depths : Striping → List BBox → ℕ
depths t [] = 0
depths t (b ∷ l) = depth t b + depths t l

-- of a group: its stripes, and its chunk numbers, of which it has none where it has no stripes
unfoldable pub group_need : Boxed → ℕ
group_need g = group_numbers + stripe_numbers * (striping_in g).k + cond (ltb 0 (striping_in g).k) (depths (striping_in g) g.chunks) 0

unfoldable pub need_of : List Boxed → ℕ
need_of [] = 0
need_of (g ∷ l) = group_need g + need_of l
