-- Nothing here need be believed: the code's own steps cite it, and no public promise does.
-- What is read one after another, and its sum; what is read where no refusal can come any more; stripes laid into lent numbers.
-- Assumes nothing.
use Rattle.std.specs.Prelude.{ℕ, zero, suc, ◌+◌, ◌*◌, ◌-◌, ◌≤◌, ◌≡◌, not, ◌||◌, cond, List, [], ◌∷◌, ltb, pos, length}
use Rattle.plane.specs.Runs.{run}
use Rattle.answer.specs.Answers.{Answer, ok, refused, ◌then◌, need}
use Rattle.boxes.specs.declared.BBox.{BBox}
use Rattle.answer.specs.Over.{over}
use Rattle.opened.specs.declared.Opened.{Opened}
use Rattle.reader_records.specs.declared.ChunkRecord.{ChunkRecord}
use Rattle.reader_records.specs.declared.GroupRecord.{GroupRecord}
use Rattle.reader_records.specs.Records.{chunk_at, group_at}
use Rattle.stripes.specs.declared.Striping.{Striping}
use Rattle.stripes.specs.Stripes.{Boxed, within_height, striping_in}
use Rattle.stripes.specs.Numbers.{low, high, depth, stripe_entries, together, numbers, stripe_numbers}
use Rattle.reader_stripes.specs.declared.Places.{Places}
use Rattle.reader_stripes.specs.declared.cut.Cut.{Cut}

-- ---- answers one after another
module _ {A : Type 0} where
  -- n of them from i on
  unfoldable pub gathered : (ℕ → Answer A) → ℕ → ℕ → Answer (List A)
  gathered at zero i = ok []
  gathered at (suc n) i = at i then λ a. gathered at n (i + 1) then λ l. ok (a ∷ l)

  -- numbers of each, added
  unfoldable pub weigh : (A → ℕ) → List A → ℕ
  weigh w [] = 0
  weigh w (a ∷ l) = w a + weigh w l

  -- the number of one, and of all behind a sum
  unfoldable pub weighed : (A → ℕ) → Answer A → Answer ℕ
  weighed w x = x then λ a. ok (w a)

  unfoldable pub added : (A → ℕ) → ℕ → Answer (List A) → Answer ℕ
  added w m x = x then λ l. ok (m + weigh w l)

-- a number that is no greater, if there is one
abbrev pub up_to : ℕ → Answer ℕ → Type 0
up_to most (ok n) = n ≤ most
up_to most (refused k) = Unit {0}

-- ---- a chunk by its index: its box, and in how many stripes of its group it stands
unfoldable pub box_at : Opened → List ℕ → BBox → Striping → ℕ → Answer BBox
box_at o s group t i = chunk_at o s i then λ v. need 49 (not (ltb 0 t.k) || within_height group v.bbox) (ok v.bbox)

unfoldable pub depth_in : Striping → BBox → ℕ
depth_in t b = cond (ltb 0 t.k) (depth t b) 0

-- ---- what is read again once all is known to be in order; a refusal is read as nothing
abbrev pub no_box : BBox
no_box = record { minx = pos 0; miny = pos 0; maxx = pos 0; maxy = pos 0 }

abbrev pub box_or : Answer ChunkRecord → BBox
box_or (ok v) = v.bbox
box_or (refused k) = no_box

unfoldable pub box_read : Opened → List ℕ → ℕ → BBox
box_read o s i = box_or (chunk_at o s i)

abbrev pub boxed_or : Opened → List ℕ → Answer GroupRecord → Boxed
boxed_or o s (ok g) = record { bbox = g.bbox; chunks = run (box_read o s) g.count g.first }
boxed_or o s (refused k) = record { bbox = no_box; chunks = [] }

unfoldable pub boxed_read : Opened → List ℕ → ℕ → Boxed
boxed_read o s i = boxed_or o s (group_at o s i)

unfoldable pub all_read : Opened → List ℕ → List Boxed
all_read o s = run (boxed_read o s) o.groups.count 0

-- all numbers of them
unfoldable pub all_numbers : Opened → List ℕ → List ℕ
all_numbers o s = numbers (all_read o s)

-- the boxes of a group that is cut
unfoldable pub boxes_of : Opened → List ℕ → Cut → List BBox
boxes_of o s c = run (box_read o s) c.count c.first

-- how a group was cut
pub record CutFrom (o : Opened) (s : List ℕ) (i : ℕ) (c : Cut) : Type 0 where
  pub striping : c.striping ≡ striping_in (boxed_read o s i)
  pub boxes : boxes_of o s c ≡ (boxed_read o s i).chunks

-- ---- a stripe's entry by where its chunk numbers start and end
unfoldable pub stripe_entry : ℕ → ℕ → List ℕ
stripe_entry from to = low from ∷ high from ∷ (to - from) ∷ []

-- ---- stripes laid into lent numbers: their entries from one place on, their chunk numbers from another
pub record Rooms (m : List ℕ) (p : Places) (l : List (List ℕ)) : Type 0 where
  pub stripes : p.stripe + stripe_numbers * length l ≤ p.chunk
  pub chunks : p.chunk + length (together l) ≤ length m

-- q is where the next go
pub record Striped (m : List ℕ) (p : Places) (l : List (List ℕ)) (q : Places) (after : List ℕ) : Type 0 where
  pub stripe : q.stripe ≡ p.stripe + stripe_numbers * length l
  pub chunk : q.chunk ≡ p.chunk + length (together l)
  pub is : after ≡ over (over m p.stripe (stripe_entries l p.chunk)) p.chunk (together l)
