-- Nothing here need be believed: the code's own steps cite it, and no public promise does.
-- Assumes nothing.
use Rattle.std.specs.Prelude.{ℕ, List, ◌≡◌, Option, Some, None}
use Rattle.plane.specs.declared.Point.{Point}
use Rattle.plane.specs.declared.I32Point.{I32Point}
use Rattle.answer.specs.Answers.{Answer, ◌then◌, ok}
use Rattle.answer.specs.Walks.{Walk, broken, on, off, ◌go◌, done}
use Rattle.opened.specs.declared.Opened.{Opened}
use Rattle.reader_records.specs.declared.ChunkRecord.{ChunkRecord}
use Rattle.reader_chunks.specs.Chunks.{start_of, end_of, first_in}
use Rattle.reader_groups.specs.declared.reached.Reached.{Reached}
use Rattle.reader_groups.specs.Groups.{One, pass_at}

-- ---- what a walk hands on, dropped; of a chunk that it reaches, the record alone
abbrev pub dropped : {A : Type 0} → Walk A → Walk One
dropped (broken r) = broken r
dropped on = on
dropped (off b a) = off b tt

abbrev pub passed : Walk Reached → Walk ChunkRecord
passed (broken r) = broken r
passed on = on
passed (off b c) = off b c.record

-- past chunk i, with record v, which another follows, handing nothing on
unfoldable pub pass_alone : Opened → List ℕ → Point → ℕ → ChunkRecord → Walk One
pass_alone o s p i v = pass_at o s p i v go λ n. done tt

-- ---- The code remembers a chunk's first point where it was read as the end of the chunk before. What is known is what reading would give.
-- the first point of chunk i, with record v
unfoldable pub own_first : Opened → List ℕ → ℕ → ChunkRecord → Answer I32Point
own_first o s i v = end_of o s i then λ e. first_in s (start_of o v) e

-- what is known of an answer
abbrev pub Kept : Option I32Point → Answer I32Point → Type 0
Kept None x = One
Kept (Some q) x = ok q ≡ x

-- what a chunk leaves known of x
abbrev pub Leaves : Answer I32Point → Walk (Option I32Point) → Type 0
Leaves x (broken r) = One
Leaves x on = One
Leaves x (off b k) = Kept k x

-- the chunk reached is that one, and of its first point is known what reading would give
abbrev pub Hands : Opened → List ℕ → ℕ → Walk Reached → Type 0
Hands o s i (broken r) = One
Hands o s i on = One
Hands o s i (off b c) = (c.index ≡ i) × Kept c.first (own_first o s i c.record)
